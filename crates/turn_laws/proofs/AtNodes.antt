-- The steps of a move: the machine makes the same step of its nodes, an import perhaps after it threw away what its closed links hold.
use Rattle.std.proofs.Common.{◌≡◌, ℕ, List, [], ◌∷◌, ◌++◌, refl, sym, ap, ◌∙◌, subst, arith, length}
use Rattle.node_model.specs.Nodes.{ClusterModel}
use Rattle.node_model.specs.Moves.{MayImport, MayMigrate, MayMoveKey, MayOwn, MayRelease, MayForget, MayStay, import_done, migrate_done, move_key_done, own_done, release_done, forget_done, stay_done}
use Rattle.world_laws.specs.State.{WorldModel}
use Rattle.world_laws.specs.World.{NoneAsks, WorldDoes, with_nodes}
use Rattle.world_laws.specs.declared.event.Event.{Event}
use Rattle.world_laws.specs.declared.event.Event.TheVariants as core
use Rattle.turn_laws.specs.Walks.{Walk, IsSharedWalked, ticked}
use Rattle.turn_laws.specs.System.{System}
use Rattle.turn_laws.specs.Shadow.{IsShadow}
use Rattle.turn_laws.specs.Steps.{MovesOn, Moved}
use Rattle.turn_laws.proofs.Frames.{log-later}
use Rattle.turn_laws.specs.Refines.{Simulates}
use Rattle.turn_laws.proofs.AtLanes.{short}
use Rattle.turn_laws.proofs.Discarding.{clears}
use Rattle.turn_laws.proofs.NoneAsking.{none-asks-there}
use Rattle.turn_laws.proofs.Walks.{walked-on, walked-stands, walks_join}

module _ {C J : Type 0} where
  -- the nodes alone step
  nodes-step : (s s' : System C J) (w : WorldModel) (k : ClusterModel) → IsShadow s w → s' ≡ record s { cluster = k } → IsShadow s' (with_nodes (ticked w) k)
  nodes-step s s' w k h e = subst (λ x. IsShadow x (with_nodes (ticked w) k)) (sym e) (record {
    workers = h.workers;
    limit = h.limit;
    cluster = refl;
    initial = h.initial;
    apart = h.apart;
    room = h.room;
    table = h.table;
    listed = h.listed;
    numbered = h.numbered;
    sides = h.sides;
    seated = h.seated;
    up_steps = h.up_steps;
    down_steps = h.down_steps;
    unfinished = h.unfinished;
    within = h.within;
    to_worker = h.to_worker;
    told = h.told;
    lanes = h.lanes;
    links = record { ids = (h.links).ids; all = (h.links).all; below = (h.links).below; once = (h.links).once; backends = (h.links).backends; wires = (h.links).wires; apart = (h.links).apart; aside = (h.links).aside; each = (h.links).each; seen = (h.links).seen };
    clients = h.clients;
    unseen = h.unseen;
    downs = h.downs;
    awaited = h.awaited;
    waiting = h.waiting;
    asking = h.asking;
    log = log-later s.log w (with_nodes (ticked w) k) refl refl refl (omega arith) h.log;
  })

  -- the machine may do the same, perhaps after it threw away what its closed links hold
  abbrev Ready : System C J → WorldModel → Event → ClusterModel → Type 0
  Ready s w event k = (events : List Event) × (w1 : WorldModel) × Walk w events w1 × IsShadow s w1 × WorldDoes (ticked w1) event (with_nodes (ticked w1) k)

  at-once : (event : Event) (s : System C J) (w : WorldModel) (k : ClusterModel) → IsShadow s w → WorldDoes (ticked w) event (with_nodes (ticked w) k) → Ready s w event k
  at-once event s w k h does = ([], w, refl, h, does)

  imports : (slot target : ℕ) (s : System C J) (w : WorldModel) (k : ClusterModel) → IsShadow s w → IsSharedWalked w → MovesOn s (core.Import slot target) k → Ready s w (core.Import slot target) k
  imports slot target s w k h walked m =
      let r = clears s target (m.0).broken (length w.links) w h in
      let none : NoneAsks r.1 slot target = none-asks-there s r.1 r.3 (walked-stands r.1 (walked-on w r.1 r.0 walked r.2)) slot target m.0
      (λ i l e. r.5 i l (omega (arith, short r.1.links i l e, r.4)) e) in
      (r.0, r.1, r.2, r.3, (none, subst (λ c. MayImport c slot target) (sym (r.3).cluster) m.1, λ i. with_nodes (ticked r.1) ((m.2 ∙ ap (λ c. import_done c slot target) (sym (r.3).cluster)) i)))

  moves-core : (event : Event) (s : System C J) (w : WorldModel) (k : ClusterModel) → IsShadow s w → IsSharedWalked w → MovesOn s event k → Ready s w event k
  moves-core (core.Import slot target) s w k h walked m = imports slot target s w k h walked m
  moves-core (core.Migrate slot) s w k h walked m = at-once (core.Migrate slot) s w k h (subst (λ c. MayMigrate c slot) (sym h.cluster) m.0, λ i. with_nodes (ticked w) ((m.1 ∙ ap (λ c. migrate_done c slot) (sym h.cluster)) i))
  moves-core (core.MoveKey slot key) s w k h walked m = at-once (core.MoveKey slot key) s w k h (subst (λ c. MayMoveKey c slot key) (sym h.cluster) m.0, λ i. with_nodes (ticked w) ((m.1 ∙ ap (λ c. move_key_done c slot key) (sym h.cluster)) i))
  moves-core (core.Own slot) s w k h walked m = at-once (core.Own slot) s w k h (subst (λ c. MayOwn c slot) (sym h.cluster) m.0, λ i. with_nodes (ticked w) ((m.1 ∙ ap (λ c. own_done c slot) (sym h.cluster)) i))
  moves-core (core.Release slot) s w k h walked m = at-once (core.Release slot) s w k h (subst (λ c. MayRelease c slot) (sym h.cluster) m.0, λ i. with_nodes (ticked w) ((m.1 ∙ ap (λ c. release_done c slot) (sym h.cluster)) i))
  moves-core (core.Forget slot) s w k h walked m = at-once (core.Forget slot) s w k h (subst (λ c. MayForget c slot) (sym h.cluster) m.0, λ i. with_nodes (ticked w) ((m.1 ∙ ap (λ c. forget_done c slot) (sym h.cluster)) i))
  moves-core (core.Stay slot) s w k h walked m = at-once (core.Stay slot) s w k h (subst (λ c. MayStay c slot) (sym h.cluster) m.0, λ i. with_nodes (ticked w) ((m.1 ∙ ap (λ c. stay_done c slot) (sym h.cluster)) i))
  moves-core (core.Arrive client part) s w k h walked m = absurd m
  moves-core (core.Post ticket node) s w k h walked m = absurd m
  moves-core (core.Carry lane link) s w k h walked m = absurd m
  moves-core (core.Refuse lane) s w k h walked m = absurd m
  moves-core (core.Serve link verdict) s w k h walked m = absurd m
  moves-core (core.Fetch link) s w k h walked m = absurd m
  moves-core (core.Take lane) s w k h walked m = absurd m
  moves-core (core.Drop link) s w k h walked m = absurd m
  moves-core (core.Discard link) s w k h walked m = absurd m
  moves-core (core.Answer client) s w k h walked m = absurd m

module _ (C J : Type 0) where
  pub moved : (event : Event) → Simulates C J (Moved event)
  moved event s s' w h walked on =
      let r = moves-core event s w s'.cluster h walked on.0 in
      let w' : WorldModel = with_nodes (ticked r.1) s'.cluster in
      (r.0 ++ event ∷ [], w', walks_join r.0 (event ∷ []) w r.1 w' r.2 (w', r.4, refl), nodes-step s s' r.1 s'.cluster r.3 on.1)
