-- Links that gave nothing when they were last asked, and events that leave that so.
use Rattle.std.proofs.Common.{◌≡◌, ◌∙◌, ◌<◌, ℕ, List, [], ◌∷◌, length, Bool, false, Option, Some, None, Ok, sym, ap, subst}
use Rattle.std.specs.Prelude.{IfSome, slice_get, slice_set}
use Rattle.std.specs.Option.{ForSome}
use Rattle.std.specs.List.{FoldsTo, list_any}
use Rattle.slot_map.specs.Table.{Endpoint}
use Rattle.node_link.specs.LinkModel.{LinkModel}
use Rattle.node_link.specs.LinkCalls.{Receives}
use Rattle.node_link.specs.Port.{PortCalls}
use Rattle.proxy_turns.specs.declared.backend.Backend.{Backend}
use Rattle.proxy_turns.specs.declared.backend_step.BackendStep.TheVariants as step
use Rattle.proxy_turns.specs.Backend.{BackendContext, GaveNone, HasReceived, new_backend}
use Rattle.proxy_turns.specs.CarrierModel.{CarrierModel, CarrierEvent, CarrierDoes, CarrierGoesBy, is_carrier_move}
use Rattle.proxy_turns.specs.CarrierModel.CarrierEvent.{AtBackend, Starved, WorkerAdded, BackendAdded, Looked, Took, Opened, Refused, Missed, SeedReached, Sought, Reached, NotFound, Sent, Gave, GaveUnsent}
use Rattle.proxy_turns.proofs.Carrying.{set-itself}
use Rattle.proxy_turns.proofs.Places.{added_stays, or_false, set_stays}

-- where this is so of the first it is so of the second
abbrev pub Keeps : {X : Type 0} → (X → Type 0) → Option X → Option X → Type 0
Keeps F old new = ForSome old F → ForSome new F

-- a call that gave none leaves the table as it was
same_table : {P : Type 0} (calls : PortCalls P) (link link' : LinkModel P) (nodes nodes' : List Endpoint)
    → Receives calls link nodes (Ok None) link' nodes' → nodes' ≡ nodes
same_table calls link link' nodes nodes' (none, table, came) = table

module _ {P : Type 0} (gave_none : LinkModel P → Type 0) where
  none_yet : (nodes : List Endpoint) → HasReceived gave_none nodes (new_backend {P = P})
  none_yet nodes told answer = tt

  at_some : (nodes : List Endpoint) (backend : Backend P) (link : LinkModel P) → backend.link ≡ Some link → gave_none link → HasReceived gave_none nodes backend
  at_some nodes backend link is gave told answer =
      let Q : Option (LinkModel P) → Type 0 = λ o. IfSome o (λ l. l.failure ≡ None → l.node < length nodes → gave_none l) in
      subst Q (sym is) (λ unfailed known. gave)

-- of each node's link
abbrev pub KeepsReceived : {H P : Type 0} → (LinkModel P → Type 0) → CarrierModel H P → CarrierModel H P → Type 0
KeepsReceived gave_none old new =
    (k : ℕ) → ForSome (slice_get old.backends k) (HasReceived gave_none old.nodes) → ForSome (slice_get new.backends k) (HasReceived gave_none new.nodes)

module _ {H P : Type 0} (calls : PortCalls P) (opens : Endpoint → Option P → ℕ → ℕ → Type 0) (longest : P → ℕ) where
  waited : (old new : CarrierModel H P) → CarrierDoes calls opens longest old (AtBackend step.Waited) new → KeepsReceived (GaveNone calls) old new
  waited old new (k, backend, backend', at, (link, link', (there, receives), none, context), is) =
      let gave = GaveNone calls in
      let now : backend'.link ≡ Some link' = ap (λ (c : BackendContext P). c.backend.link) context in
      let heard : HasReceived gave old.nodes backend' = at_some gave old.nodes backend' link' now (link, old.nodes, new.nodes, receives, none) in
      let table : new.nodes ≡ old.nodes = same_table calls link link' old.nodes new.nodes receives in
      let F : Backend P → Type 0 = HasReceived gave old.nodes in
      let Q : List Endpoint → Type 0 = λ ns. KeepsReceived gave old (record old { backends = slice_set old.backends k backend'; nodes = ns; published = new.published }) in
      let R : CarrierModel H P → Type 0 = λ c. KeepsReceived gave old c in
      subst R (sym is) (subst Q (sym table) (set_stays (Keeps F) (λ o f. f) old.backends k backend backend' at (λ f x e. let B : Option (Backend P) → Type 0 = λ o. IfSome o F in subst B e heard)))

  idle : (old new : CarrierModel H P) → CarrierDoes calls opens longest old (AtBackend step.Idle) new → KeepsReceived (GaveNone calls) old new
  idle old new (k, backend, backend', at, context, is) =
      let gave = GaveNone calls in
      let same : backend' ≡ backend = ap (λ (c : BackendContext P). c.backend) context in
      let table : new.nodes ≡ old.nodes = ap (λ (c : BackendContext P). c.nodes) context in
      let back : slice_set old.backends k backend' ≡ old.backends = ap (λ x. slice_set old.backends k x) same ∙ set-itself old.backends k backend at in
      let R : CarrierModel H P → Type 0 = λ c. KeepsReceived gave old c in
      subst R (sym is) (subst R (λ i. record old { backends = sym back i; nodes = sym table i; published = new.published }) (λ k f. f))

  looked : (old new : CarrierModel H P) → CarrierDoes calls opens longest old Looked new → KeepsReceived (GaveNone calls) old new
  looked old new (is, why) = let R : CarrierModel H P → Type 0 = λ c. KeepsReceived (GaveNone calls) old c in subst R (sym is) (λ k f. f)

  worker_added : (old new : CarrierModel H P) → CarrierDoes calls opens longest old WorkerAdded new → KeepsReceived (GaveNone calls) old new
  worker_added old new is = let R : CarrierModel H P → Type 0 = λ c. KeepsReceived (GaveNone calls) old c in subst R (sym is) (λ k f. f)

  backend_added : (old new : CarrierModel H P) → CarrierDoes calls opens longest old BackendAdded new → KeepsReceived (GaveNone calls) old new
  backend_added old new is =
      let gave = GaveNone calls in
      let F : Backend P → Type 0 = HasReceived gave old.nodes in
      let R : CarrierModel H P → Type 0 = λ c. KeepsReceived gave old c in
      subst R (sym is) (added_stays (Keeps F) (λ o f. f) old.backends new_backend (λ f x e. let B : Option (Backend P) → Type 0 = λ o. IfSome o F in subst B e (none_yet gave old.nodes)))

  event_keeps : (old : CarrierModel H P) (event : CarrierEvent) (new : CarrierModel H P) → is_carrier_move event ≡ false
      → CarrierDoes calls opens longest old event new → KeepsReceived (GaveNone calls) old new
  event_keeps old (AtBackend step.Idle) new still does = idle old new does
  event_keeps old (AtBackend step.Waited) new still does = waited old new does
  event_keeps old (AtBackend step.Broke) new still does = absurd (cc)
  event_keeps old (AtBackend step.Fetched) new still does = absurd (cc)
  event_keeps old (AtBackend step.Answered) new still does = absurd (cc)
  event_keeps old (AtBackend step.GaveUp) new still does = absurd (cc)
  event_keeps old (AtBackend step.Closed) new still does = absurd (cc)
  event_keeps old (AtBackend step.Published) new still does = absurd (cc)
  event_keeps old (AtBackend step.Asked) new still does = absurd (cc)
  event_keeps old (AtBackend step.Spared) new still does = absurd (cc)
  event_keeps old (AtBackend step.Read) new still does = absurd (cc)
  event_keeps old (AtBackend step.Unread) new still does = absurd (cc)
  event_keeps old (AtBackend step.Renewed) new still does = absurd (cc)
  event_keeps old Starved new still does = absurd (cc)
  event_keeps old WorkerAdded new still does = worker_added old new does
  event_keeps old BackendAdded new still does = backend_added old new does
  event_keeps old Looked new still does = looked old new does
  event_keeps old Took new still does = absurd (cc)
  event_keeps old Opened new still does = absurd (cc)
  event_keeps old Refused new still does = absurd (cc)
  event_keeps old Missed new still does = absurd (cc)
  event_keeps old SeedReached new still does = absurd (cc)
  event_keeps old Sought new still does = absurd (cc)
  event_keeps old Reached new still does = absurd (cc)
  event_keeps old NotFound new still does = absurd (cc)
  event_keeps old Sent new still does = absurd (cc)
  event_keeps old Gave new still does = absurd (cc)
  event_keeps old GaveUnsent new still does = absurd (cc)

  events_keep : (old : CarrierModel H P) (events : List CarrierEvent) (new : CarrierModel H P)
      → list_any is_carrier_move events ≡ false → FoldsTo (CarrierDoes calls opens longest) old events new → KeepsReceived (GaveNone calls) old new
  events_keep old [] new still same = let R : CarrierModel H P → Type 0 = λ c. KeepsReceived (GaveNone calls) old c in subst R same (λ k f. f)
  events_keep old (event ∷ events) new still (mid, does, rest) =
      let none = or_false (is_carrier_move event) (list_any is_carrier_move events) still in
      λ k f. events_keep mid events new none.1 rest k (event_keeps old event mid none.0 does k f)

  -- a call that moved nothing leaves what links gave
  pub keeps_received : (may : CarrierEvent → Bool) (old : CarrierModel H P) (moved : Bool) (new : CarrierModel H P)
      → moved ≡ false → CarrierGoesBy calls opens longest may old moved new → KeepsReceived (GaveNone calls) old new
  keeps_received may old moved new still (events, folds, is, all) = events_keep old events new (sym is ∙ still) folds
