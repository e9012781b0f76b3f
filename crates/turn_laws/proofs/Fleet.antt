-- Each proxy of a fleet is a system beside others; so the headline holds of each.
use Rattle.std.proofs.Common.{◌≡◌, ◌≢◌, ⊎_elim, ℕ, ◌==◌, Bool, true, false, List, [], ◌∷◌, ◌++◌, map, length, refl, sym, ap, ◌∙◌, subst}
use Rattle.std.specs.Prelude.{if◌then◌else◌}
use Rattle.std.specs.List.{FoldsTo}
use Rattle.std.proofs.lemmas.Bool.Decides.{eqb_tells}
use Rattle.std.proofs.lemmas.List.{append-nil}
use Rattle.key_split.specs.Laws.{PlansArePlain}
use Rattle.node_model.specs.Moves.{MayImport, MayMigrate, MayMoveKey, MayOwn, MayRelease, MayForget, MayStay, import_done, migrate_done, move_key_done, own_done, release_done, forget_done, stay_done}
use Rattle.node_model.specs.Nodes.{ClusterModel, standing_at, with_store}
use Rattle.node_model.specs.Store.{StoreModel}
use Rattle.world_laws.specs.State.{WorldModel}
use Rattle.world_laws.specs.declared.event.Event.{Event}
use Rattle.world_laws.specs.declared.event.Event.TheVariants as core
use Rattle.world_laws.proofs.Nodes.{size-with_store}
use Rattle.shared_laws.specs.Shared.{IsOurs, OthersExecute}
use Rattle.turn_laws.specs.Wire.{Execution}
use Rattle.turn_laws.specs.System.{System}
use Rattle.turn_laws.specs.Asking.{NoneAsksIn}
use Rattle.turn_laws.specs.Shadow.{IsShadow, entry_at}
use Rattle.turn_laws.specs.Naming.{NamesNodes}
use Rattle.turn_laws.specs.Steps.{SystemEvent, AtWorker, AtCarrier, Handed, AtNode, AtBroken, Thrown, Moved, MovesOn, SystemStep, log_of}
use Rattle.turn_laws.specs.Writing.{StandsAmong, StandsAtItsNodes}
use Rattle.turn_laws.specs.Walks.{IsSharedWalked}
use Rattle.turn_laws.specs.LogHeadline.{IsHeld, history}
use Rattle.turn_laws.specs.SharedLog.{SharedLogHeadline}
use Rattle.turn_laws.specs.Sharing.{OthersDo, SharedEvent, SharedSystemStep}
use Rattle.turn_laws.specs.Fleet.{EveryFleet, Fleet, FleetFollows, FleetsStand, FleetEvent, FleetRun, FleetStep, IsSeenByOthers, foreign}
use Rattle.turn_laws.proofs.Addresses.{led-frame, led-slots}
use Rattle.turn_laws.proofs.Impacts.{RunImpact, led-shows, shows, step-impact}
use Rattle.turn_laws.proofs.LogHeadline.{log-headline, log-held}
use Rattle.turn_laws.proofs.Sharing.{all}
use Rattle.turn_laws.proofs.Scenes.{and-then}
use Rattle.turn_laws.proofs.SlotsStand.{slots-stay}
use Rattle.turn_laws.proofs.Starts.{start-shadow}
use Rattle.turn_laws.proofs.Walks.{alone-walked, every_shared_walk}

module _ {C J : Type 0} where
  -- a step of a slot is one of each who has these nodes
  moves-same : (e : Event) (s t : System C J) (k : ClusterModel) → s.cluster ≡ t.cluster → ((slot target : ℕ) → e ≡ core.Import slot target → NoneAsksIn t slot target) → MovesOn s e k → MovesOn t e k
  moves-same (core.Import slot target) s t k same waits m = (waits slot target refl, subst (λ c. MayImport c slot target) same m.1, m.2 ∙ ap (λ c. import_done c slot target) same)
  moves-same (core.Migrate slot) s t k same waits m = (subst (λ c. MayMigrate c slot) same m.0, m.1 ∙ ap (λ c. migrate_done c slot) same)
  moves-same (core.MoveKey slot key) s t k same waits m = (subst (λ c. MayMoveKey c slot key) same m.0, m.1 ∙ ap (λ c. move_key_done c slot key) same)
  moves-same (core.Own slot) s t k same waits m = (subst (λ c. MayOwn c slot) same m.0, m.1 ∙ ap (λ c. own_done c slot) same)
  moves-same (core.Release slot) s t k same waits m = (subst (λ c. MayRelease c slot) same m.0, m.1 ∙ ap (λ c. release_done c slot) same)
  moves-same (core.Forget slot) s t k same waits m = (subst (λ c. MayForget c slot) same m.0, m.1 ∙ ap (λ c. forget_done c slot) same)
  moves-same (core.Stay slot) s t k same waits m = (subst (λ c. MayStay c slot) same m.0, m.1 ∙ ap (λ c. stay_done c slot) same)
  moves-same (core.Arrive client part) s t k same waits m = absurd m
  moves-same (core.Post ticket node) s t k same waits m = absurd m
  moves-same (core.Carry lane link) s t k same waits m = absurd m
  moves-same (core.Refuse lane) s t k same waits m = absurd m
  moves-same (core.Serve link verdict) s t k same waits m = absurd m
  moves-same (core.Fetch link) s t k same waits m = absurd m
  moves-same (core.Take lane) s t k same waits m = absurd m
  moves-same (core.Drop link) s t k same waits m = absurd m
  moves-same (core.Discard link) s t k same waits m = absurd m
  moves-same (core.Answer client) s t k same waits m = absurd m

  -- what these steps lead to
  abbrev Goes : System C J → System C J → Type 0
  Goes s s' = (events : List SharedEvent) × FoldsTo SharedSystemStep s events s'

  -- a run of s, as t sees it
  seen-run : (s s' t t' : System C J) → s.cluster ≡ t.cluster → (done : List Execution) → RunImpact s.cluster s'.cluster done
      → t' ≡ record t { cluster = s'.cluster; log = t.log ++ log_of (map (foreign (length t.workers)) done) } → Goes t t'
  seen-run s s' t t' same done y next = ⊎_elim
      (λ (z : (s'.cluster ≡ s.cluster) × (done ≡ [])). ([], sym (nothing z.0 z.1)))
      (λ (z : (node : ℕ) × (asking : Bool) × ((workers moment : ℕ) → OthersExecute workers moment s.cluster node asking (map (entry_at moment) (map (foreign workers) done)) s'.cluster)).
      (SharedEvent.Theirs z.0 z.1 (map (foreign (length t.workers)) done) ∷ [], (t', theirs z.0 z.1 (z.2 (length t.workers)), refl)))
      y
    where
      nodes : t'.cluster ≡ s'.cluster
      nodes = ap (λ (z : System C J). z.cluster) next

      nothing : s'.cluster ≡ s.cluster → done ≡ [] → t' ≡ t
      nothing k none =
          next ∙ (λ i. record t { cluster = (k ∙ same) i; log = t.log ++ log_of (map (foreign (length t.workers)) (none i)) }) ∙ ap (λ l. record t { log = l }) (append-nil t.log)

      theirs : (node : ℕ) (asking : Bool) → ((moment : ℕ) → OthersExecute (length t.workers) moment s.cluster node asking (map (entry_at moment) (map (foreign (length t.workers)) done)) s'.cluster)
          → OthersDo t node asking (map (foreign (length t.workers)) done) t'
      theirs node asking does = (
        λ moment. subst (λ (z : ClusterModel × ClusterModel). OthersExecute (length t.workers) moment z.0 node asking (map (entry_at moment) (map (foreign (length t.workers)) done)) z.1) (λ i. (same i, sym nodes i)) (does moment),
        next ∙ ap (λ k. record t { cluster = k; log = t.log ++ log_of (map (foreign (length t.workers)) done) }) (sym nodes),
      )

  -- a step of s, as t sees it
  seen-step : (event : SystemEvent) (s s' t t' : System C J) (w : WorldModel) → IsShadow s w → IsSharedWalked w → s.cluster ≡ t.cluster → ((slot target : ℕ) → event ≡ Moved (core.Import slot target) → NoneAsksIn t slot target)
      → SystemStep s event s' → (done : List Execution) → history s'.log ≡ history s.log ++ done → t' ≡ record t { cluster = s'.cluster; log = t.log ++ log_of (map (foreign (length t.workers)) done) } → Goes t t'
  seen-step event s s' t t' w h walked same waits x done is next = ⊎_elim
      (λ (y : RunImpact s.cluster s'.cluster done). seen-run s s' t t' same done y next)
      (λ (y : (e : Event) × (event ≡ Moved e) × (done ≡ [])). (SharedEvent.Ours (Moved y.0) ∷ [], (t', moved y.0 y.1 y.2, refl)))
      (step-impact event s s' w h walked x done is)
    where
      nodes : t'.cluster ≡ s'.cluster
      nodes = ap (λ (z : System C J). z.cluster) next

      moved : (e : Event) → event ≡ Moved e → done ≡ [] → SystemStep t (Moved e) t'
      moved e is-e none =
          let step : SystemStep s (Moved e) s' = subst (λ z. SystemStep s z s') is-e x in (
            moves-same e s t t'.cluster same (λ slot target z. waits slot target (is-e ∙ ap Moved z)) (subst (MovesOn s e) (sym nodes) step.0),
            next ∙ (λ i. record t { cluster = sym nodes i; log = t.log ++ log_of (map (foreign (length t.workers)) (none i)) }) ∙ ap (λ l. record t { cluster = t'.cluster; log = l }) (append-nil t.log),
          )

  -- what is known of each proxy
  pub record Stands (s : System C J) : Type 0 where
    pub world : WorldModel
    pub walked : IsSharedWalked world
    pub shadow : IsShadow s world
    pub names : NamesNodes s

-- ---- what no step changes

module _ (C J : Type 0) where
  -- the nodes' endpoints, and where slots stand
  abbrev Keeps : System C J → System C J → Type 0
  Keeps s s' = (s'.nodes ≡ s.nodes) × (StandsAtItsNodes s.cluster → StandsAtItsNodes s'.cluster)

  endpoints-stay : (event : SystemEvent) (s s' : System C J) → SystemStep s event s' → s'.nodes ≡ s.nodes
  endpoints-stay (AtWorker k event) s s' x = ap (λ (t : System C J). t.nodes) x.leaves
  endpoints-stay (AtCarrier event) s s' x = ap (λ (t : System C J). t.nodes) x.leaves
  endpoints-stay (Handed k number) s s' x = ap (λ (t : System C J). t.nodes) x.4
  endpoints-stay (AtNode k verdict) s s' x = ap (λ (t : System C J). t.nodes) x.10
  endpoints-stay (AtBroken j verdict) s s' x = ap (λ (t : System C J). t.nodes) x.7
  endpoints-stay (Thrown j) s s' x = ap (λ (t : System C J). t.nodes) x.2
  endpoints-stay (Moved event) s s' x = ap (λ (t : System C J). t.nodes) x.1

  same-standing : (k : ClusterModel) (node : ℕ) (store : StoreModel) → StandsAtItsNodes k → StandsAtItsNodes (with_store k node store)
  same-standing k node store stands slot small = subst (λ (n : ℕ). StandsAmong n (standing_at k slot)) (sym (size-with_store k node store)) (stands slot small)

  step-keeps : (event : SharedEvent) (s s' : System C J) → SharedSystemStep s event s' → Keeps s s'
  step-keeps (SharedEvent.Ours event) s s' x = (endpoints-stay event s s' x, slots-stay C J event s s' x)
  step-keeps (SharedEvent.Led event) s s' x = ((led-frame event s s' x).nodes, led-slots event s s' x)
  step-keeps (SharedEvent.Theirs node asking done) s s' x =
      (ap (λ (t : System C J). t.nodes) x.1, λ stands. subst StandsAtItsNodes (sym (x.0 0).7) (same-standing s.cluster node _ stands))

  all-keep : (events : List SharedEvent) (s s' : System C J) → FoldsTo SharedSystemStep s events s' → Keeps s s'
  all-keep [] s s' f = (ap (λ (t : System C J). t.nodes) (sym f), subst (λ (t : System C J). StandsAtItsNodes t.cluster) f)
  all-keep (event ∷ events) s s' f =
      let one = step-keeps event s f.0 f.1 in
      let rest = all-keep events f.0 s' f.2 in
      (rest.0 ∙ one.0, λ stands. rest.1 (one.1 stands))

module _ (C J : Type 0) (plain : PlansArePlain) where
  abbrev Whole : Fleet C J → Type 0
  Whole f = ((p : ℕ) → Stands (f p)) × ((p q : ℕ) → (f p).cluster ≡ (f q).cluster)

  on : (s s' : System C J) → Stands s → Goes s s' → Stands s'
  on s s' h g = let r = all C J plain g.0 s s' h.world h.shadow h.names h.walked g.1 in record { world = r.0; walked = r.1; shadow = r.2; names = r.3 }

  each-goes : (event : FleetEvent) (f f' : Fleet C J) → Whole f → FleetStep C J f event f' → (q : ℕ) → Goes (f q) (f' q)
  each-goes (FleetEvent.By p event) f f' whole x q = ⊎_elim
      (λ (y : ((q == p) ≡ true) × (q ≡ p)). subst (λ z. Goes (f z) (f' z)) (sym y.1) (SharedEvent.Ours event ∷ [], (f' p, x.0, refl)))
      (λ (y : ((q == p) ≡ false) × (q ≢ p)).
      seen-step event (f p) (f' p) (f q) (f' q) (whole.0 p).world (whole.0 p).shadow (whole.0 p).walked (whole.1 p q) (λ slot target is. x.1 slot target is q) x.0 x.2.0 x.2.1 (x.2.2 q y.1))
      (eqb_tells q p)
  each-goes (FleetEvent.Led p event) f f' whole x q = ⊎_elim
      (λ (y : ((q == p) ≡ true) × (q ≡ p)). subst (λ z. Goes (f z) (f' z)) (sym y.1) (SharedEvent.Led event ∷ [], (f' p, x.0, refl)))
      (λ (y : ((q == p) ≡ false) × (q ≢ p)).
      seen-run (f p) (f' p) (f q) (f' q) (whole.1 p q) x.1.0 (led-shows event (f p) (f' p) (whole.0 p).world (whole.0 p).shadow (whole.0 p).walked x.0 x.1.0 x.1.1) (x.1.2 q y.1))
      (eqb_tells q p)
  each-goes (FleetEvent.Outside node asking done) f f' whole x q = (SharedEvent.Theirs node asking (map (foreign (length (f q).workers)) done) ∷ [], (f' q, x.0 q, refl))

  -- all have the same nodes
  by-one : (f f' : Fleet C J) (p : ℕ) → IsSeenByOthers C J f p f' → (a b : ℕ) → (f' a).cluster ≡ (f' b).cluster
  by-one f f' p x a b = at a ∙ sym (at b)
    where
      at : (q : ℕ) → (f' q).cluster ≡ (f' p).cluster
      at q = ⊎_elim (λ (y : ((q == p) ≡ true) × (q ≡ p)). ap (λ z. (f' z).cluster) y.1) (λ (y : ((q == p) ≡ false) × (q ≢ p)). ap (λ (z : System C J). z.cluster) (x.2 q y.1)) (eqb_tells q p)

  same-nodes : (event : FleetEvent) (f f' : Fleet C J) → Whole f → FleetStep C J f event f' → (p q : ℕ) → (f' p).cluster ≡ (f' q).cluster
  same-nodes (FleetEvent.By p event) f f' whole x a b = by-one f f' p x.2 a b
  same-nodes (FleetEvent.Led p event) f f' whole x a b = by-one f f' p x.1 a b
  same-nodes (FleetEvent.Outside node asking done) f f' whole x a b = x.1 a b

  fleet : (events : List FleetEvent) (f f' : Fleet C J) → Whole f → FleetRun C J f events f' → Whole f'
  fleet [] f f' whole r = subst Whole (sym r) whole
  fleet (event ∷ events) f f' whole r = fleet events r.0 f' ((λ p. on (f p) (r.0 p) (whole.0 p) (each-goes event f r.0 whole r.1 p)), same-nodes event f r.0 whole r.1) r.2

  -- what a proxy did, from first to last
  fleet-goes : (events : List FleetEvent) (f f' : Fleet C J) → Whole f → FleetRun C J f events f' → (p : ℕ) → Goes (f p) (f' p)
  fleet-goes [] f f' whole r p = ([], sym (ap (λ (g : Fleet C J). g p) r))
  fleet-goes (event ∷ events) f f' whole r p =
      let one = each-goes event f r.0 whole r.1 p in
      let rest = fleet-goes events r.0 f' ((λ q. on (f q) (r.0 q) (whole.0 q) (each-goes event f r.0 whole r.1 q)), same-nodes event f r.0 whole r.1) r.2 p in
      (one.0 ++ rest.0, and-then SharedSystemStep (f p) one.0 (r.0 p) rest.0 (f' p) one.1 rest.1)

  pub fleets-stand : FleetsStand C J
  fleets-stand f f' events start r p =
      let b = start-shadow C J (f p) (start.starts p) in
      let goes = fleet-goes events f f' ((λ q. let a = start-shadow C J (f q) (start.starts q) in record { world = a.0; walked = alone-walked a.0 a.1; shadow = a.2; names = a.3 }), start.shared) r p in
      let stands = all C J plain goes.0 (f p) (f' p) b.0 b.2 b.3 (alone-walked b.0 b.1) goes.1 in
      record {
        steps = goes.0;
        does = goes.1;
        world = stands.0;
        walked = stands.1;
        shadow = stands.2;
        names = stands.3;
        nodes = (all-keep C J goes.0 (f p) (f' p) goes.1).0;
        slots = (all-keep C J goes.0 (f p) (f' p) goes.1).1;
      }

  pub every-fleet : EveryFleet C J
  every-fleet f f' events start r p =
      let whole = fleet events f f' ((λ q. let b = start-shadow C J (f q) (start.starts q) in record { world = b.0; walked = alone-walked b.0 b.1; shadow = b.2; names = b.3 }), start.shared) r in
      let h = whole.0 p in
      let g = every_shared_walk h.world h.walked in (
        subst (λ (x : StoreModel × ℕ). SharedLogHeadline x.0 x.1 (f' p).log) (λ i. ((h.shadow).initial i, sym (h.shadow).workers i)) (log-headline (IsOurs h.world) (f' p).log h.world (h.shadow).log h.walked g),
        subst (λ (x : StoreModel × ClusterModel). IsHeld x.0 (f' p).log x.1) (λ i. ((h.shadow).initial i, (h.shadow).cluster i)) (log-held (IsOurs h.world) (f' p).log h.world (h.shadow).log h.walked g),
      )

module _ (C J : Type 0) where
  pub fleet-follows : FleetFollows C J
  fleet-follows f p event s' x waits = (
    f',
    (
      subst (SystemStep (f p) event) (sym here) x,
      waits,
      (
        done.0,
        subst (λ (z : System C J). history z.log ≡ history (f p).log ++ done.0) (sym here) done.1,
        λ q ne. there q ne ∙ (λ i. record (f q) { cluster = (sym here i).cluster; log = (f q).log ++ log_of (map (foreign (length (f q).workers)) done.0) }),
      ),
    ),
    here,
  )
    where
      done : (done : List Execution) × (history s'.log ≡ history (f p).log ++ done)
      done = shows event (f p) s' x

      f' : Fleet C J
      f' = λ q. if q == p then s' else record (f q) { cluster = s'.cluster; log = (f q).log ++ log_of (map (foreign (length (f q).workers)) (shows event (f p) s' x).0) }

      here : (if p == p then s' else record (f p) { cluster = s'.cluster; log = (f p).log ++ log_of (map (foreign (length (f p).workers)) (shows event (f p) s' x).0) }) ≡ s'
      here = ⊎_elim
          (λ (y : ((p == p) ≡ true) × (p ≡ p)). ap (λ b. if b then s' else record (f p) { cluster = s'.cluster; log = (f p).log ++ log_of (map (foreign (length (f p).workers)) (shows event (f p) s' x).0) }) y.0)
          (λ (y : ((p == p) ≡ false) × (p ≢ p)). absurd (y.1 refl))
          (eqb_tells p p)

      there : (q : ℕ) → q ≢ p → (if q == p then s' else record (f q) { cluster = s'.cluster; log = (f q).log ++ log_of (map (foreign (length (f q).workers)) (shows event (f p) s' x).0) })
          ≡ record (f q) { cluster = s'.cluster; log = (f q).log ++ log_of (map (foreign (length (f q).workers)) (shows event (f p) s' x).0) }
      there q ne = ⊎_elim
          (λ (y : ((q == p) ≡ true) × (q ≡ p)). absurd (ne y.1))
          (λ (y : ((q == p) ≡ false) × (q ≢ p)). ap (λ b. if b then s' else record (f q) { cluster = s'.cluster; log = (f q).log ++ log_of (map (foreign (length (f q).workers)) (shows event (f p) s' x).0) }) y.0)
          (eqb_tells q p)
