-- Each node that is named is one of the cluster, after each step of a system.
use Rattle.std.proofs.Common.{◌≡◌, ◌≢◌, ⊎_elim, ℕ, ◌≤◌, List, Some, length, refl, sym, ap, ◌∙◌, subst, arith, length-append}
use Rattle.std.specs.Prelude.{slice_get}
use Rattle.std.specs.FinMap.{get}
use mathlib.Core.List.{IsPrefix}
use Rattle.slot_map.specs.Table.{Endpoint}
use Rattle.node_model.specs.Nodes.{ClusterModel}
use Rattle.node_model.specs.Runs.{deed_for}
use Rattle.node_model.specs.declared.role.Verdict.{Verdict}
use Rattle.resp_wire.specs.declared.value.Value.{Value}
use Rattle.proxy_lanes.specs.declared.ends.lane_ends.LaneEnds.{LaneEnds}
use Rattle.proxy_turns.specs.declared.newcomer.Newcomer.{Newcomer}
use Rattle.proxy_turns.specs.WorkerModel.{WorkerModel, WorkerEvent}
use Rattle.proxy_turns.specs.CarrierModel.{CarrierEvent}
use Rattle.world_laws.specs.State.{WorldModel}
use Rattle.world_laws.specs.declared.event.Event.{Event}
use Rattle.world_laws.specs.declared.event.Event.TheVariants as core
use Rattle.world_laws.proofs.Nodes.{set-size, runs-size}
use Rattle.world_laws.proofs.Recorded.{at-set}
use Rattle.turn_laws.specs.Wire.{Wire, Execution, ServesNext, ServesRun, parts_in}
use Rattle.turn_laws.specs.System.{System}
use Rattle.turn_laws.specs.Shadow.{IsShadow}
use Rattle.turn_laws.specs.Underway.{down_in}
use Rattle.turn_laws.specs.Naming.{NamesNodes, PendsOneOf}
use Rattle.turn_laws.specs.Steps.{WorkerStep, CarrierStep, Opens, ServesBy, ServesLateBy, Discards, MovesOn, AtWorker, AtCarrier, Handed, AtNode, AtBroken, Thrown, Moved}
use Rattle.turn_laws.specs.PortsMay.{any_moves, any_calls}
use Rattle.turn_laws.specs.Refines.{NamesStay}
use Rattle.turn_laws.proofs.NamedCarrier.{CarrierNames, AllSay, pends-still, does-names}
use Rattle.turn_laws.proofs.RunsLead.{ClientsWant}
use Rattle.turn_laws.proofs.NamedWorker.{worker-wants}
use Rattle.turn_laws.proofs.Handing.{hands-names}

-- a run that is served leaves as many nodes, and so does what is next of a connection
pub run-size : (table : List Endpoint) (k k' : ClusterModel) (node : ℕ) (old new : Wire) (verdict : Verdict) (values : List Value) (done : List Execution)
    → ServesRun table k node old verdict k' new values done → length k'.stores ≡ length k.stores
run-size table k k' node old new verdict values done y = runs-size k k' node (parts_in y.1) (deed_for k node old.asking (parts_in y.1) verdict) y.2 y.5

served-size : (table : List Endpoint) (k k' : ClusterModel) (old new : Wire) (verdict : Verdict) (values : List Value) (done : List Execution) → ServesNext table k old verdict k' new values done → length k'.stores ≡ length k.stores
served-size table k k' old new verdict values done x = ⊎_elim
    (λ y. ap (λ (c : ClusterModel). length c.stores) y.4)
    (λ z. ⊎_elim
    (λ y. run-size table k k' old.node old new verdict values done y)
    (λ y. ap (λ (c : ClusterModel). length c.stores) y.4)
    z)
    x

module _ {C J : Type 0} where
  moved-size : (s : System C J) (event : Event) (k : ClusterModel) → MovesOn s event k → length k.stores ≡ length s.cluster.stores
  moved-size s (core.Import slot target) k m = ap (λ (c : ClusterModel). length c.stores) m.2
  moved-size s (core.Migrate slot) k m = ap (λ (c : ClusterModel). length c.stores) m.1
  moved-size s (core.MoveKey slot key) k m = ap (λ (c : ClusterModel). length c.stores) m.1 ∙ set-size _ _ _ ∙ set-size _ _ _
  moved-size s (core.Own slot) k m = ap (λ (c : ClusterModel). length c.stores) m.1
  moved-size s (core.Release slot) k m = ap (λ (c : ClusterModel). length c.stores) m.1
  moved-size s (core.Forget slot) k m = ap (λ (c : ClusterModel). length c.stores) m.1
  moved-size s (core.Stay slot) k m = ap (λ (c : ClusterModel). length c.stores) m.1
  moved-size s (core.Arrive client part) k m = absurd m
  moved-size s (core.Post ticket node) k m = absurd m
  moved-size s (core.Carry lane link) k m = absurd m
  moved-size s (core.Refuse lane) k m = absurd m
  moved-size s (core.Serve link verdict) k m = absurd m
  moved-size s (core.Fetch link) k m = absurd m
  moved-size s (core.Take lane) k m = absurd m
  moved-size s (core.Drop link) k m = absurd m
  moved-size s (core.Discard link) k m = absurd m
  moved-size s (core.Answer client) k m = absurd m

  -- a front is no longer
  few-nodes : (s s' : System C J) → IsPrefix s'.carrier.nodes s.nodes → length s'.carrier.nodes ≤ length s.nodes
  few-nodes s s' front = omega (arith, ap length front.1, length-append s'.carrier.nodes front.0)

  carrier-stays : (event : CarrierEvent) (s s' : System C J) (w : WorldModel) → IsShadow s w → NamesNodes s → CarrierStep s event s' → NamesNodes s'
  carrier-stays event s s' w h names on =
      let n : ℕ = length s.nodes in
      let r : CarrierNames n s.workers s'.carrier =
      does-names any_calls (Opens s) on.longest n s.workers s.carrier s'.carrier (few-nodes s s' on.table) h.down_steps (names.published, names.backends, names.downs) event on.does in
      subst NamesNodes (sym on.leaves) (record { seed = names.seed; each = names.each; published = r.0; backends = r.1; downs = r.2; posted = names.posted })

  wants : (s : System C J) → NamesNodes s → (k : ℕ) (model : WorkerModel C J) → slice_get s.workers k ≡ Some model → ClientsWant (length s.nodes) model.clients
  wants s names k model at number client e part c f = names.posted k model number client part c at e f

  worker-stays : (k : ℕ) (event : WorkerEvent) (s s' : System C J) (w : WorldModel) → IsShadow s w → NamesNodes s → WorkerStep s k event s' → NamesNodes s'
  worker-stays k event s s' w h names on =
      let n : ℕ = length s.nodes in
      let r = worker-wants any_moves n on.old on.new on.lane on.in_step (h.unfinished k on.lane on.beside) (wants s names k on.old on.at) (names.downs k on.old on.lane on.at on.beside) event on.does in
      subst NamesNodes (sym on.leaves) (record {
        seed = names.seed;
        each = names.each;
        published = names.published;
        backends = names.backends;
        downs = λ j model lane p q. ⊎_elim
            (λ (z : (j ≡ k) × (model ≡ on.new)).
            let here : lane ≡ on.lane = one-lane (slice_get s.carrier.lanes k) lane on.lane (sym (ap (slice_get s.carrier.lanes) z.0) ∙ q) on.beside in
            subst (λ (x : LaneEnds (Newcomer C J)). AllSay n (down_in x.down model.inlet)) (sym here) (subst (λ (m : WorkerModel C J). AllSay n (down_in (on.lane).down m.inlet)) (sym z.1) r.1))
            (λ (z : (j ≢ k) × (slice_get s.workers j ≡ Some model)). names.downs j model lane z.1 q)
            (at-set s.workers k on.new j model p);
        posted = λ j model number client part c p q. ⊎_elim
            (λ (z : (j ≡ k) × (model ≡ on.new)). r.0 number client (ap (λ (m : WorkerModel C J). get m.clients number) (sym z.1) ∙ q) part c)
            (λ (z : (j ≢ k) × (slice_get s.workers j ≡ Some model)). names.posted j model number client part c z.1 q)
            (at-set s.workers k on.new j model p);
      })
    where
      one-lane : (o : _) (a b : LaneEnds (Newcomer C J)) → o ≡ Some a → o ≡ Some b → a ≡ b
      one-lane o a b p q = let one : Some a ≡ Some b = sym p ∙ q in cc

  pub node-served : (how : Wire → ClusterModel → Wire → List Value → List Execution → Type 0) (k : ℕ) (s s' : System C J) → NamesNodes s → ServesBy how s k s'
      → length s'.cluster.stores ≡ length s.cluster.stores → NamesNodes s'
  node-served how k s s' names on size = subst NamesNodes (sym on.10) (record {
    seed = names.seed;
    each = names.each ∙ sym size;
    published = names.published;
    backends = λ j b e. ⊎_elim
        (λ (z : (j ≡ k) × (b ≡ record on.0 { link = Some (record on.1 { port = on.2 }) })).
        subst (PendsOneOf (length s.nodes)) (sym z.1) (pends-still (length s.nodes) on.0 (record on.0 { link = Some (record on.1 { port = on.2 }) }) refl refl (names.backends k on.0 on.5)))
        (λ (z : (j ≢ k) × (slice_get s.carrier.backends j ≡ Some b)). names.backends j b z.1)
        (at-set s.carrier.backends k (record on.0 { link = Some (record on.1 { port = on.2 }) }) j b e);
    downs = names.downs;
    posted = names.posted;
  })

  pub late-served : (how : Wire → ClusterModel → Wire → List Value → List Execution → Type 0) (j : ℕ) (s s' : System C J) → NamesNodes s → ServesLateBy how s j s'
      → length s'.cluster.stores ≡ length s.cluster.stores → NamesNodes s'
  late-served how j s s' names on size = subst NamesNodes (sym on.7) (record {
    seed = names.seed;
    each = names.each ∙ sym size;
    published = names.published;
    backends = names.backends;
    downs = names.downs;
    posted = names.posted;
  })

  again : (s s' : System C J) (k : ClusterModel) → length k.stores ≡ length s.cluster.stores → s' ≡ record s { cluster = k } → NamesNodes s → NamesNodes s'
  again s s' k size is names = subst NamesNodes (sym is) (record {
    seed = names.seed;
    each = names.each ∙ sym size;
    published = names.published;
    backends = names.backends;
    downs = names.downs;
    posted = names.posted;
  })

  thrown-stays : (j : ℕ) (s s' : System C J) → NamesNodes s → Discards s j s' → NamesNodes s'
  thrown-stays j s s' names on = subst NamesNodes (sym on.2) (record {
    seed = names.seed;
    each = names.each;
    published = names.published;
    backends = names.backends;
    downs = names.downs;
    posted = names.posted;
  })

module _ (C J : Type 0) where
  pub names-stay : NamesStay C J
  names-stay (AtWorker k event) s s' w h names on = worker-stays k event s s' w h names on
  names-stay (AtCarrier event) s s' w h names on = carrier-stays event s s' w h names on
  names-stay (Handed k number) s s' w h names on = hands-names s s' k number on names
  names-stay (AtNode k verdict) s s' w h names on =
      node-served (λ old. ServesNext s.nodes s.cluster old verdict) k s s' names on (served-size s.nodes s.cluster s'.cluster (on.1).port on.2 verdict on.3 on.4 on.8)
  names-stay (AtBroken j verdict) s s' w h names on =
      late-served (λ old. ServesNext s.nodes s.cluster old verdict) j s s' names on (served-size s.nodes s.cluster s'.cluster on.0 on.1 verdict on.2 on.3 on.5)
  names-stay (Thrown j) s s' w h names on = thrown-stays j s s' names on
  names-stay (Moved event) s s' w h names on = again s s' s'.cluster (moved-size s event s'.cluster on.0) on.1 names
