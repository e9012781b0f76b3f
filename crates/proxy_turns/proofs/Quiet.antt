-- What events that move nothing leave as it was.
use Rattle.std.proofs.Common.{◌≡◌, ◌∙◌, ◌≤◌, inl, inr, ℕ, List, [], ◌∷◌, length, Bool, true, false, Option, Some, None, Ok, Err, refl, sym, ap, subst}
use Rattle.std.specs.Prelude.{◌⊎◌, ◌-◌, ◌^◌, slice_get, slice_set}
use Rattle.std.specs.List.{FoldsTo, list_all, list_any}
use Rattle.std.proofs.lemmas.List.{length-set}
use Rattle.key_split.specs.declared.travel.Ticket.{Ticket}
use Rattle.key_split.specs.declared.travel.Told.{Told}
use Rattle.slot_map.specs.Table.{Endpoint}
use Rattle.node_link.specs.LinkModel.{LinkModel}
use Rattle.node_link.specs.LinkCalls.{Receives}
use Rattle.node_link.specs.Port.{PortCalls}
use Rattle.proxy_lanes.specs.declared.ends.lane_ends.LaneEnds.{LaneEnds}
use Rattle.proxy_lanes.specs.declared.ring.Outlet.{Outlet}
use Rattle.proxy_lanes.specs.Lane.{held, free_places}
use Rattle.proxy_lanes.specs.Ends.{ChangesAt, Gives, GivesDown, TakesUp}
use Rattle.proxy_turns.specs.declared.backend.Backend.{Backend}
use Rattle.proxy_turns.specs.declared.backend.PendingTold.{PendingTold}
use Rattle.proxy_turns.specs.declared.backend_step.BackendStep.TheVariants as step
use Rattle.proxy_turns.specs.declared.pending_run.PendingRun.{PendingRun}
use Rattle.proxy_turns.specs.Backend.{BackendContext, new_backend}
use Rattle.key_split.specs.declared.travel.Told.TheVariants.{Unsent}
use Rattle.proxy_turns.specs.PendingRun.{ComesBack, TakeOutcome, WaitsToGive, WaitsToTell}
use Rattle.proxy_turns.specs.Resting.{IsBlocked}
use Rattle.proxy_turns.specs.CarrierModel.{CarrierModel, CarrierEvent, CarrierDoes, CarrierGoesBy, adds_worker, is_carrier_move}
use Rattle.proxy_turns.specs.CarrierModel.CarrierEvent.{AtBackend, Starved, WorkerAdded, BackendAdded, Looked, Took, Opened, Refused, Missed, SeedReached, Sought, Reached, NotFound, Sent, Gave, GaveUnsent}
use Rattle.std.proofs.lemmas.Bool.{false≢true}
use Rattle.proxy_turns.proofs.EventKinds.{and_both}
use Rattle.proxy_turns.proofs.Carrying.{set-itself}
use Rattle.proxy_turns.proofs.Places.{added_stays, or_false, set_stays}

-- ---- a link, a backend, a lane

abbrev pub LinkStays : {P : Type 0} → Option (LinkModel P) → Option (LinkModel P) → Type 0
LinkStays None None = Unit {0}
LinkStays None (Some link') = ⊥
LinkStays (Some link) None = ⊥
LinkStays (Some link) (Some link') = link'.failure ≡ link.failure

abbrev pub BackendStays : {P : Type 0} → Option (Backend P) → Option (Backend P) → Type 0
BackendStays None None = Unit {0}
BackendStays None (Some backend') = backend' ≡ new_backend
BackendStays (Some backend) None = ⊥
BackendStays (Some backend) (Some backend') = (backend' ≡ record backend { link = backend'.link }) × LinkStays backend.link backend'.link

abbrev pub LaneStays : {H : Type 0} → Option (LaneEnds H) → Option (LaneEnds H) → Type 0
LaneStays None None = Unit {0}
LaneStays None (Some lane') = ⊥
LaneStays (Some lane) None = ⊥
LaneStays (Some lane) (Some lane') = (IsBlocked lane.down → IsBlocked lane'.down) × (held lane.up ≡ [] → held lane'.up ≡ [])

module _ {P : Type 0} where
  link_same : (o : Option (LinkModel P)) → LinkStays o o
  link_same None = tt
  link_same (Some link) = refl

  link_then : (a b c : Option (LinkModel P)) → LinkStays a b → LinkStays b c → LinkStays a c
  link_then None None None f g = tt
  link_then None None (Some c) f g = absurd g
  link_then None (Some b) c f g = absurd f
  link_then (Some a) None c f g = absurd f
  link_then (Some a) (Some b) None f g = absurd g
  link_then (Some a) (Some b) (Some c) f g = g ∙ f

  backend_same : (o : Option (Backend P)) → BackendStays o o
  backend_same None = tt
  backend_same (Some backend) = (refl, link_same backend.link)

  no_link : (o : Option (LinkModel P)) → LinkStays None o → o ≡ None
  no_link None f = refl
  no_link (Some link) f = absurd f

  backend_then : (a b c : Option (Backend P)) → BackendStays a b → BackendStays b c → BackendStays a c
  backend_then None None c f g = g
  backend_then None (Some b) None f g = absurd g
  backend_then None (Some b) (Some c) f g =
      let L : Backend P → Type 0 = λ x. LinkStays x.link c.link in
      let none : c.link ≡ None = no_link c.link (subst L f g.1) in
      g.0 ∙ (λ i. record (f i) { link = none i })
  backend_then (Some a) None c f g = absurd f
  backend_then (Some a) (Some b) None f g = absurd g
  backend_then (Some a) (Some b) (Some c) f g = (g.0 ∙ (λ i. record (f.0 i) { link = c.link }), link_then a.link b.link c.link f.1 g.1)

module _ {H : Type 0} where
  lane_same : (o : Option (LaneEnds H)) → LaneStays o o
  lane_same None = tt
  lane_same (Some lane) = ((λ b. b), (λ h. h))

  lane_then : (a b c : Option (LaneEnds H)) → LaneStays a b → LaneStays b c → LaneStays a c
  lane_then None None c f g = g
  lane_then None (Some b) c f g = absurd f
  lane_then (Some a) None c f g = absurd f
  lane_then (Some a) (Some b) None f g = absurd g
  lane_then (Some a) (Some b) (Some c) f g = ((λ x. g.0 (f.0 x)), (λ x. g.1 (f.1 x)))

-- what did not go down a lane found it blocked
pub blocked_by : (old new : Option (Outlet (Ticket × Told))) (pair back : Ticket × Told) → Gives old new pair (Err back) → IsBlocked new
blocked_by (Some old) new pair back (next, is, (same, there, kept, many, full)) =
    let P : Option (Outlet (Ticket × Told)) → Type 0 = λ o. IsBlocked o in
    let Q : ℕ → Type 0 = λ n. (1024 ≤ n) × ((free_places next ≡ 0) ⊎ (n ≡ 2 ^ 64 - 1)) in
    subst P (sym is) (subst Q (sym (ap length kept)) (many, full))
blocked_by None new pair back (is, given) = let P : Option (Outlet (Ticket × Told)) → Type 0 = λ o. IsBlocked o in subst P (sym is) tt

module _ {H : Type 0} where
  refused_stays : (lane lane' : LaneEnds H) (pair back : Ticket × Told) → GivesDown lane lane' pair (Err back) → LaneStays (Some lane) (Some lane')
  refused_stays lane lane' pair back (is, gives) =
      ((λ b. blocked_by lane.down lane'.down pair back gives), (let P : LaneEnds H → Type 0 = λ l. held lane.up ≡ [] → held l.up ≡ [] in subst P (sym is) (λ h. h)))

  empty_stays : (lane lane' : LaneEnds H) → TakesUp lane lane' None → LaneStays (Some lane) (Some lane')
  empty_stays lane lane' (is, (same, old, new, taken)) =
      ((let P : LaneEnds H → Type 0 = λ l. IsBlocked lane.down → IsBlocked l.down in subst P (sym is) (λ b. b)), (λ h. new))

-- ---- a carrier

-- what events that move nothing leave: the same runs, backends of which only links went on, lanes that are no emptier
pub record Quiet {H P : Type 0} (old new : CarrierModel H P) : Type 0 where
  pub seed : new.seed_to_dial ≡ old.seed_to_dial
  pub runs : new.pending_runs ≡ old.pending_runs
  pub workers : length new.lanes ≡ length old.lanes
  pub lanes : (k : ℕ) → LaneStays (slice_get old.lanes k) (slice_get new.lanes k)
  pub backends : (k : ℕ) → BackendStays (slice_get old.backends k) (slice_get new.backends k)

module _ {H P : Type 0} where
  pub quiet_same : (old : CarrierModel H P) → Quiet old old
  quiet_same old = record {
    seed = refl;
    runs = refl;
    workers = refl;
    lanes = λ k. lane_same (slice_get old.lanes k);
    backends = λ k. backend_same (slice_get old.backends k);
  }

  pub quiet_then : (old mid new : CarrierModel H P) → Quiet old mid → Quiet mid new → Quiet old new
  quiet_then old mid new f g = record {
    seed = g.seed ∙ f.seed;
    runs = g.runs ∙ f.runs;
    workers = g.workers ∙ f.workers;
    lanes = λ k. lane_then (slice_get old.lanes k) (slice_get mid.lanes k) (slice_get new.lanes k) (f.lanes k) (g.lanes k);
    backends = λ k. backend_then (slice_get old.backends k) (slice_get mid.backends k) (slice_get new.backends k) (f.backends k) (g.backends k);
  }

  -- one lane changed, and nothing else
  lane_changes : (old : CarrierModel H P) (lanes' : List (LaneEnds H)) (worker : ℕ) (R : LaneEnds H → LaneEnds H → Type 0)
      → ((lane lane' : LaneEnds H) → R lane lane' → LaneStays (Some lane) (Some lane')) → ChangesAt old.lanes worker lanes' R → Quiet old (record old { lanes = lanes' })
  lane_changes old lanes' worker R stays (lane, lane', at, is, changes) =
      let Q : List (LaneEnds H) → Type 0 = λ ls. Quiet old (record old { lanes = ls }) in
      subst Q (sym is) (record {
        seed = refl;
        runs = refl;
        workers = length-set old.lanes worker lane';
        lanes = set_stays LaneStays lane_same old.lanes worker lane lane' at (stays lane lane' changes);
        backends = λ k. backend_same (slice_get old.backends k);
      })

  lanes_same : (old : CarrierModel H P) (lanes' : List (LaneEnds H)) → lanes' ≡ old.lanes → Quiet old (record old { lanes = lanes' })
  lanes_same old lanes' same = let Q : List (LaneEnds H) → Type 0 = λ ls. Quiet old (record old { lanes = ls }) in subst Q (sym same) (quiet_same old)

  pair_back : (old : CarrierModel H P) (lanes' : List (LaneEnds H)) (pair : Ticket × Told) → ComesBack old.lanes pair lanes' → Quiet old (record old { lanes = lanes' })
  pair_back old lanes' pair back =
      lane_changes old lanes' pair.0.worker (λ lane lane'. GivesDown lane lane' pair (Err pair)) (λ lane lane' gives. refused_stays lane lane' pair pair gives) back

  gives_nothing : (old : CarrierModel H P) (lanes' : List (LaneEnds H)) (pending_told : Option PendingTold) → WaitsToGive pending_told old.lanes lanes' → Quiet old (record old { lanes = lanes' })
  gives_nothing old lanes' None same = lanes_same old lanes' same
  gives_nothing old lanes' (Some pending_told) (inl unpublished) = lanes_same old lanes' unpublished.1
  gives_nothing old lanes' (Some pending_told) (inr back) = pair_back old lanes' (pending_told.ticket, pending_told.told) back.1

  tells_none : (old : CarrierModel H P) (lanes' : List (LaneEnds H)) (refused : List Ticket) → WaitsToTell refused old.lanes lanes' → Quiet old (record old { lanes = lanes' })
  tells_none old lanes' [] same = lanes_same old lanes' same
  tells_none old lanes' (ticket ∷ later) back = pair_back old lanes' (ticket, Unsent) back

  takes_none : (old : CarrierModel H P) (lanes' : List (LaneEnds H)) (worker : ℕ) (pending_run : PendingRun) → TakeOutcome worker pending_run old.lanes false pending_run lanes'
      → Quiet old (record old { lanes = lanes' })
  takes_none old lanes' worker pending_run (same, inl pending) = lanes_same old lanes' pending.1
  takes_none old lanes' worker pending_run (same, inr none) = lane_changes old lanes' worker (λ lane lane'. TakesUp lane lane' None) empty_stays none.1

  with_lanes : (old new : CarrierModel H P) → new ≡ record old { lanes = new.lanes } → Quiet old (record old { lanes = new.lanes }) → Quiet old new
  with_lanes old new is quiet = let Q : CarrierModel H P → Type 0 = λ c. Quiet old c in subst Q (sym is) quiet

-- a link that gave nothing has not failed
waited_link : {P : Type 0} (calls : PortCalls P) (link link' : LinkModel P) (nodes nodes' : List Endpoint) → Receives calls link nodes (Ok None) link' nodes' → link'.failure ≡ link.failure
waited_link calls link link' nodes nodes' (none, table, (inl came)) = ap (λ (l : LinkModel _). l.failure) came.1
waited_link calls link link' nodes nodes' (none, table, (inr (value, comes, owed, is))) = ap (λ (l : LinkModel _). l.failure) is

module _ {H P : Type 0} (calls : PortCalls P) (opens : Endpoint → Option P → ℕ → ℕ → Type 0) (longest : P → ℕ) where
  waited : (old new : CarrierModel H P) → CarrierDoes calls opens longest old (AtBackend step.Waited) new → Quiet old new
  waited old new (k, backend, backend', at, (link, link', (there, receives), none, context), is) =
      let now : backend' ≡ record backend { link = Some link' } = ap (λ (c : BackendContext P). c.backend) context in
      let L : Option (LinkModel P) → Type 0 = λ o. LinkStays o (Some link') in
      let B : Backend P → Type 0 = λ b. BackendStays (Some backend) (Some b) in
      let stays : BackendStays (Some backend) (Some backend') = subst B (sym now) (refl, subst L (sym there) (waited_link calls link link' old.nodes new.nodes receives)) in
      let Q : CarrierModel H P → Type 0 = λ c. Quiet old c in
      subst Q (sym is) (record {
        seed = refl;
        runs = refl;
        workers = refl;
        lanes = λ k. lane_same (slice_get old.lanes k);
        backends = set_stays BackendStays backend_same old.backends k backend backend' at stays;
      })

  idle : (old new : CarrierModel H P) → CarrierDoes calls opens longest old (AtBackend step.Idle) new → Quiet old new
  idle old new (k, backend, backend', at, context, is) =
      let same : backend' ≡ backend = ap (λ (c : BackendContext P). c.backend) context in
      let back : slice_set old.backends k backend' ≡ old.backends = ap (λ x. slice_set old.backends k x) same ∙ set-itself old.backends k backend at in
      let Q : CarrierModel H P → Type 0 = λ c. Quiet old c in
      let B : List (Backend P) → Type 0 = λ bs. Quiet old (record old { backends = bs; nodes = new.nodes; published = new.published }) in
      subst Q (sym is) (subst B (sym back) (record {
        seed = refl;
        runs = refl;
        workers = refl;
        lanes = λ k. lane_same (slice_get old.lanes k);
        backends = λ k. backend_same (slice_get old.backends k);
      }))

  looked : (old new : CarrierModel H P) → CarrierDoes calls opens longest old Looked new → Quiet old new
  looked old new (is, inl (k, backend, at, (same, gives))) = with_lanes old new is (gives_nothing old new.lanes backend.pending_told gives)
  looked old new (is, inr (k, pending_run, at, inl (same, tells))) = with_lanes old new is (tells_none old new.lanes pending_run.refused tells)
  looked old new (is, inr (k, pending_run, at, inr takes)) = with_lanes old new is (takes_none old new.lanes k pending_run takes)

  added : (old new : CarrierModel H P) → CarrierDoes calls opens longest old BackendAdded new → Quiet old new
  added old new is =
      let Q : CarrierModel H P → Type 0 = λ c. Quiet old c in
      subst Q (sym is) (record {
        seed = refl;
        runs = refl;
        workers = refl;
        lanes = λ k. lane_same (slice_get old.lanes k);
        backends = added_stays BackendStays backend_same old.backends new_backend refl;
      })

  event_quiet : (old : CarrierModel H P) (event : CarrierEvent) (new : CarrierModel H P) → adds_worker event ≡ false → is_carrier_move event ≡ false
      → CarrierDoes calls opens longest old event new → Quiet old new
  event_quiet old (AtBackend step.Idle) new few still does = idle old new does
  event_quiet old (AtBackend step.Waited) new few still does = waited old new does
  event_quiet old (AtBackend step.Broke) new few still does = absurd (cc)
  event_quiet old (AtBackend step.Fetched) new few still does = absurd (cc)
  event_quiet old (AtBackend step.Answered) new few still does = absurd (cc)
  event_quiet old (AtBackend step.GaveUp) new few still does = absurd (cc)
  event_quiet old (AtBackend step.Closed) new few still does = absurd (cc)
  event_quiet old (AtBackend step.Published) new few still does = absurd (cc)
  event_quiet old (AtBackend step.Asked) new few still does = absurd (cc)
  event_quiet old (AtBackend step.Spared) new few still does = absurd (cc)
  event_quiet old (AtBackend step.Read) new few still does = absurd (cc)
  event_quiet old (AtBackend step.Unread) new few still does = absurd (cc)
  event_quiet old (AtBackend step.Renewed) new few still does = absurd (cc)
  event_quiet old Starved new few still does = absurd (cc)
  event_quiet old WorkerAdded new few still does = absurd (cc)
  event_quiet old BackendAdded new few still does = added old new does
  event_quiet old Looked new few still does = looked old new does
  event_quiet old Took new few still does = absurd (cc)
  event_quiet old Opened new few still does = absurd (cc)
  event_quiet old Refused new few still does = absurd (cc)
  event_quiet old Missed new few still does = absurd (cc)
  event_quiet old SeedReached new few still does = absurd (cc)
  event_quiet old Sought new few still does = absurd (cc)
  event_quiet old Reached new few still does = absurd (cc)
  event_quiet old NotFound new few still does = absurd (cc)
  event_quiet old Sent new few still does = absurd (cc)
  event_quiet old Gave new few still does = absurd (cc)
  event_quiet old GaveUnsent new few still does = absurd (cc)

  events_quiet : (may : CarrierEvent → Bool) → ((event : CarrierEvent) → may event ≡ true → adds_worker event ≡ false) → (old : CarrierModel H P) (events : List CarrierEvent) (new : CarrierModel H P)
      → list_all may events ≡ true → list_any is_carrier_move events ≡ false → FoldsTo (CarrierDoes calls opens longest) old events new → Quiet old new
  events_quiet may few old [] new all still same = let Q : CarrierModel H P → Type 0 = λ c. Quiet old c in subst Q same (quiet_same old)
  events_quiet may few old (event ∷ events) new all still (mid, does, rest) =
      let both = and_both (may event) (list_all may events) all in
      let none = or_false (is_carrier_move event) (list_any is_carrier_move events) still in
      quiet_then old mid new (event_quiet old event mid (few event both.0) none.0 does) (events_quiet may few mid events new both.1 none.1 rest)

  -- a call that moved nothing was quiet
  stays_quiet : (may : CarrierEvent → Bool) → ((event : CarrierEvent) → may event ≡ true → adds_worker event ≡ false) → (old : CarrierModel H P) (moved : Bool) (new : CarrierModel H P)
      → moved ≡ false → CarrierGoesBy calls opens longest may old moved new → Quiet old new
  stays_quiet may few old moved new still (events, folds, is, all) = events_quiet may few old events new all (sym is ∙ still) folds

-- ---- calls

-- a kind that is not WorkerAdded
no_worker : (may : CarrierEvent → Bool) → may WorkerAdded ≡ false → (event : CarrierEvent) → may event ≡ true → adds_worker event ≡ false
no_worker may none WorkerAdded kind = absurd (false≢true (sym none ∙ kind))
no_worker may none (AtBackend at) kind = refl
no_worker may none Starved kind = refl
no_worker may none BackendAdded kind = refl
no_worker may none Looked kind = refl
no_worker may none Took kind = refl
no_worker may none Opened kind = refl
no_worker may none Refused kind = refl
no_worker may none Missed kind = refl
no_worker may none SeedReached kind = refl
no_worker may none Sought kind = refl
no_worker may none Reached kind = refl
no_worker may none NotFound kind = refl
no_worker may none Sent kind = refl
no_worker may none Gave kind = refl
no_worker may none GaveUnsent kind = refl

module _ {H P : Type 0} (calls : PortCalls P) (opens : Endpoint → Option P → ℕ → ℕ → Type 0) (longest : P → ℕ) where
  -- a call that moved nothing was quiet
  pub quiet_by : (may : CarrierEvent → Bool) → may WorkerAdded ≡ false → (old : CarrierModel H P) (moved : Bool) (new : CarrierModel H P)
      → moved ≡ false → CarrierGoesBy calls opens longest may old moved new → Quiet old new
  quiet_by may none old moved new still goes = stays_quiet calls opens longest may (no_worker may none) old moved new still goes
