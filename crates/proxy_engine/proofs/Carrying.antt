-- The carrier's events keep its ends of the lanes, and what it published only grows.
use Rattle.std.proofs.Common.{◌≡◌, ◌⊎◌, ⊎_elim, ℕ, List, [], ◌∷◌, Bool, true, false, Option, Some, None, Result, Ok, Err, refl, sym, ap, ◌∙◌, subst}
use Rattle.std.specs.List.{FoldsTo}
use mathlib.Core.List.{IsPrefix}
use Rattle.resp_wire.specs.declared.fault.NoMemory.{NoMemory}
use Rattle.key_split.specs.Runs.{RunModel}
use Rattle.key_split.specs.declared.travel.Ticket.{Ticket}
use Rattle.key_split.specs.declared.travel.Told.{Told}
use Rattle.slot_map.specs.Table.{Endpoint}
use Rattle.proxy_lanes.specs.declared.ring.Outlet.{Outlet}
use Rattle.proxy_lanes.specs.declared.ends.lane_ends.LaneEnds.{LaneEnds}
use Rattle.proxy_lanes.specs.Ends.{ChangesAt, Gives, GivesDown, TakesUp}
use Rattle.node_link.specs.Port.{PortCalls}
use Rattle.proxy_turns.specs.declared.pending_run.PendingRun.{PendingRun}
use Rattle.proxy_turns.specs.declared.backend.Backend.{Backend}
use Rattle.proxy_turns.specs.declared.backend.PendingTold.{PendingTold}
use Rattle.proxy_turns.specs.declared.backend_step.BackendStep.{BackendStep}
use Rattle.proxy_turns.specs.declared.backend_step.BackendStep.TheVariants.{Idle, Waited, Broke, Fetched, Answered, GaveUp, Closed, Published, Asked, Spared, Read, Unread, Renewed}
use Rattle.proxy_turns.specs.Backend.{BackendContext, BackendDoes, Starves}
use Rattle.proxy_turns.specs.PendingRun.{ComesBack, Delivers, GiveOutcome, TakeOutcome, TellOutcome, WaitsToGive, WaitsToTell}
use Rattle.proxy_turns.specs.CarrierModel.{CarrierModel, CarrierDoes, CarrierEvent, CarrierGoes, CarrierTurns, AtBackend, Starved, WorkerAdded, BackendAdded, Looked, Took, Opened, Refused, Missed, SeedReached, Sought, Reached, NotFound, Sent, Gave, GaveUnsent}
use Rattle.proxy_engine.proofs.Pairs.{Pairs, pairs-after, pairs-changed, pairs-itself}
use Rattle.proxy_engine.proofs.Ends.{SameOutlet, SameInlet, outlet-itself, inlet-itself, outlet-after, inlet-after, posts-there, takes-there, front-after, same-front}

abbrev Pair : Type 0
Pair = Ticket × Told

abbrev pub KeepsDown : Option (Outlet Pair) → Option (Outlet Pair) → Type 0
KeepsDown None new = new ≡ None
KeepsDown (Some old) new = (next : Outlet Pair) × (new ≡ Some next) × SameOutlet old next

pub down-itself : (down : Option (Outlet Pair)) → KeepsDown down down
down-itself None = refl
down-itself (Some outlet) = (outlet, refl, outlet-itself outlet)

down-after : (a b c : Option (Outlet Pair)) → KeepsDown a b → KeepsDown b c → KeepsDown a c
down-after None b c p q = subst (λ o. KeepsDown o c) p q
down-after (Some old) b c p q =
    let later : KeepsDown (Some p.0) c = subst (λ o. KeepsDown o c) p.1 q in
    (later.0, later.1, outlet-after old p.0 later.0 p.2 later.2)

down-given : (a b : Option (Outlet Pair)) (pair : Pair) (given : Result (Unit {0}) Pair) → Gives a b pair given → KeepsDown a b
down-given None b pair given g = g.0
down-given (Some old) b pair given g = (g.0, g.1, posts-there old g.0 pair given g.2)

module _ {H : Type 0} where
  abbrev pub SameLane : LaneEnds H → LaneEnds H → Type 0
  SameLane old new = SameInlet old.up new.up × KeepsDown old.down new.down × SameOutlet old.door new.door

  pub lane-itself : (lane : LaneEnds H) → SameLane lane lane
  lane-itself lane = (inlet-itself lane.up, down-itself lane.down, outlet-itself lane.door)

  lane-after : (a b c : LaneEnds H) → SameLane a b → SameLane b c → SameLane a c
  lane-after a b c p q = (inlet-after a.up b.up c.up p.0 q.0, down-after a.down b.down c.down p.1 q.1, outlet-after a.door b.door c.door p.2 q.2)

  abbrev pub SameLanes : List (LaneEnds H) → List (LaneEnds H) → Type 0
  SameLanes old new = Pairs SameLane old new

  pub lanes-themselves : (lanes : List (LaneEnds H)) → SameLanes lanes lanes
  lanes-themselves lanes = pairs-itself SameLane lane-itself lanes

  pub lanes-after : (a b c : List (LaneEnds H)) → SameLanes a b → SameLanes b c → SameLanes a c
  lanes-after a b c p q = pairs-after SameLane lane-after a b c p q

  pub changes : (R : LaneEnds H → LaneEnds H → Type 0) → ((x y : LaneEnds H) → R x y → SameLane x y) → (old new : List (LaneEnds H)) (k : ℕ) → ChangesAt old k new R → SameLanes old new
  changes R keeps old new k c = pairs-changed R SameLane lane-itself keeps old new k c

  pub unchanged : (old new : List (LaneEnds H)) → new ≡ old → SameLanes old new
  unchanged old new e = subst (λ lanes. SameLanes old lanes) (sym e) (lanes-themselves old)

  -- ---- a take, and what is given

  takes-up : (taken : Option RunModel) (x y : LaneEnds H) → TakesUp x y taken → SameLane x y
  takes-up taken x y t = subst (λ l. SameLane x l) (sym t.0) (takes-there x.up y.up taken t.1, down-itself x.down, outlet-itself x.door)

  gives-down : (pair : Pair) (given : Result (Unit {0}) Pair) (x y : LaneEnds H) → GivesDown x y pair given → SameLane x y
  gives-down pair given x y g = subst (λ l. SameLane x l) (sym g.0) (inlet-itself x.up, down-given x.down y.down pair given g.1, outlet-itself x.door)

  delivers : (old new : List (LaneEnds H)) (pair : Pair) → Delivers old pair new → SameLanes old new
  delivers old new pair d = ⊎_elim (λ c. changes _ (gives-down pair (Ok tt)) old new pair.0.worker c) (λ e. unchanged old new e.1) d

  comes-back : (old new : List (LaneEnds H)) (pair : Pair) → ComesBack old pair new → SameLanes old new
  comes-back old new pair c = changes _ (gives-down pair (Err pair)) old new pair.0.worker c

  waits-to-give : (told : Option PendingTold) (old new : List (LaneEnds H)) → WaitsToGive told old new → SameLanes old new
  waits-to-give None old new w = unchanged old new w
  waits-to-give (Some told) old new w = ⊎_elim (λ e. unchanged old new e.1) (λ c. comes-back old new (told.ticket, told.told) c.1) w

  waits-to-tell : (tickets : List Ticket) (old new : List (LaneEnds H)) → WaitsToTell tickets old new → SameLanes old new
  waits-to-tell [] old new w = unchanged old new w
  waits-to-tell (ticket ∷ later) old new w = comes-back old new _ w

  give-keeps : {P : Type 0} (moved : Bool) (b b' : Backend P) (old new : List (LaneEnds H)) → GiveOutcome b old moved b' new → SameLanes old new
  give-keeps true b b' old new g = delivers old new _ g.3
  give-keeps false b b' old new g = waits-to-give b.pending_told old new g.1

  tell-keeps : (moved : Bool) (r r' : PendingRun) (old new : List (LaneEnds H)) → TellOutcome r old moved r' new → SameLanes old new
  tell-keeps true r r' old new t = delivers old new _ t.3
  tell-keeps false r r' old new t = waits-to-tell r.refused old new t.1

  take-keeps : (moved : Bool) (k : ℕ) (r r' : PendingRun) (old new : List (LaneEnds H)) → TakeOutcome k r old moved r' new → SameLanes old new
  take-keeps true k r r' old new t = changes _ (takes-up (Some t.0)) old new k t.3
  take-keeps false k r r' old new t = ⊎_elim (λ e. unchanged old new e.1) (λ c. changes _ (takes-up None) old new k c.1) t.1

-- ---- what was published

module _ {P : Type 0} (calls : PortCalls P) where
  abbrev More : BackendContext P → BackendContext P → Type 0
  More old new = IsPrefix old.published new.published

  seen-alike : (old new mid : BackendContext P) → new ≡ mid → mid.published ≡ old.published → More old new
  seen-alike old new mid e same = same-front old.published new.published (ap (λ (c : BackendContext P). c.published) e ∙ same)

  step-more : (unanswered : Bool) (step : BackendStep) (old new : BackendContext P) → BackendDoes calls unanswered old step new → More old new
  step-more unanswered Idle old new d = seen-alike old new _ d refl
  step-more unanswered Waited old new d = seen-alike old new _ d.4 refl
  step-more unanswered Broke old new d = seen-alike old new _ d.5 refl
  step-more unanswered Fetched old new d = seen-alike old new _ d.6 refl
  step-more unanswered Answered old new d = seen-alike old new _ d.5 refl
  step-more unanswered GaveUp old new d = seen-alike old new _ d.8 refl
  step-more unanswered Closed old new d = seen-alike old new _ d.5 refl
  step-more unanswered Published old new d = ⊎_elim (λ e. (d.1 ∷ [], sym e)) (λ e. same-front old.published new.published e.1) d.5
  step-more unanswered Asked old new d = seen-alike old new _ d.6 refl
  step-more unanswered Spared old new d = seen-alike old new _ d.2 refl
  step-more unanswered Read old new d = seen-alike old new _ d.7 refl
  step-more unanswered Unread old new d = seen-alike old new _ d.3 refl
  step-more unanswered Renewed old new d = (d.0, sym (ap (λ (c : BackendContext P). c.published) d.2))

  starved-more : (old new : BackendContext P) → Starves calls old new → More old new
  starved-more old new s = ⊎_elim (λ e. seen-alike old new _ e refl) (λ c. seen-alike old new _ c.4 refl) s

-- ---- each event

module _ (H : Type 0) {P : Type 0} (calls : PortCalls P) (opens : Endpoint → Option P → ℕ → ℕ → Type 0) (longest : P → ℕ) where
  abbrev Model : Type 0
  Model = CarrierModel H P

  abbrev Does : Model → CarrierEvent → Model → Type 0
  Does = CarrierDoes calls opens longest

  -- nothing is done at the lanes
  elsewhere : (old new mid : Model) → new ≡ mid → mid.lanes ≡ old.lanes → SameLanes old.lanes new.lanes
  elsewhere old new mid e same = unchanged old.lanes new.lanes (ap (λ (c : Model). c.lanes) e ∙ same)

  pub carrier-event : (event : CarrierEvent) (old new : Model) → Does old event new → SameLanes old.lanes new.lanes
  carrier-event (AtBackend step) old new d = elsewhere old new _ d.5 refl
  carrier-event Starved old new d = ⊎_elim (λ c. elsewhere old new _ c.5 refl) (λ c. elsewhere old new _ c.7 refl) d
  carrier-event WorkerAdded old new d = elsewhere old new _ d refl
  carrier-event BackendAdded old new d = elsewhere old new _ d refl
  carrier-event Looked old new d =
      ⊎_elim (λ g. give-keeps false g.1 g.1 old.lanes new.lanes g.3) (λ r. ⊎_elim (λ t. tell-keeps false r.1 r.1 old.lanes new.lanes t) (λ t. take-keeps false r.0 r.1 r.1 old.lanes new.lanes t) r.3) d.1
  carrier-event Took old new d = take-keeps true d.0 d.1 d.2 old.lanes new.lanes d.4
  carrier-event Opened old new d = elsewhere old new _ d.8 refl
  carrier-event Refused old new d = elsewhere old new _ d.9 refl
  carrier-event Missed old new d = elsewhere old new _ d.2 refl
  carrier-event SeedReached old new d = elsewhere old new _ d.3 refl
  carrier-event Sought old new d = elsewhere old new _ d.5 refl
  carrier-event Reached old new d = elsewhere old new _ d.9 refl
  carrier-event NotFound old new d = elsewhere old new _ d.2 refl
  carrier-event Sent old new d = elsewhere old new _ d.9 refl
  carrier-event Gave old new d = give-keeps true d.1 d.2 old.lanes new.lanes d.4
  carrier-event GaveUnsent old new d = tell-keeps true d.1 d.2 old.lanes new.lanes d.4

  pub carrier-events : (events : List CarrierEvent) (old new : Model) → FoldsTo Does old events new → SameLanes old.lanes new.lanes
  carrier-events [] old new f = unchanged old.lanes new.lanes (ap (λ (c : Model). c.lanes) (sym f))
  carrier-events (event ∷ events) old new f = lanes-after old.lanes f.0.lanes new.lanes (carrier-event event old f.0 f.1) (carrier-events events f.0 new f.2)

  pub carrier-goes : (old new : Model) (moved : Bool) → CarrierGoes calls opens longest old moved new → SameLanes old.lanes new.lanes
  carrier-goes old new moved g = carrier-events g.0 old new g.1

  pub carrier-turns : (old new : Model) (result : Result Bool NoMemory) → CarrierTurns calls opens longest old result new → SameLanes old.lanes new.lanes
  carrier-turns old new (Ok moved) t = carrier-goes old new moved t
  carrier-turns old new (Err refused) t = carrier-goes old new t.0 t.1

  -- nothing is published
  untold : (old new mid : Model) → new ≡ mid → mid.published ≡ old.published → IsPrefix old.published new.published
  untold old new mid e same = same-front old.published new.published (ap (λ (c : Model). c.published) e ∙ same)

  pub published-event : (event : CarrierEvent) (old new : Model) → Does old event new → IsPrefix old.published new.published
  published-event (AtBackend step) old new d = step-more calls _ step _ _ d.4
  published-event Starved old new d = ⊎_elim (λ c. starved-more calls _ _ c.4) (λ c. untold old new _ c.7 refl) d
  published-event WorkerAdded old new d = untold old new _ d refl
  published-event BackendAdded old new d = untold old new _ d refl
  published-event Looked old new d = untold old new _ d.0 refl
  published-event Took old new d = untold old new _ d.5 refl
  published-event Opened old new d = untold old new _ d.8 refl
  published-event Refused old new d = untold old new _ d.9 refl
  published-event Missed old new d = untold old new _ d.2 refl
  published-event SeedReached old new d = untold old new _ d.3 refl
  published-event Sought old new d = untold old new _ d.5 refl
  published-event Reached old new d = untold old new _ d.9 refl
  published-event NotFound old new d = untold old new _ d.2 refl
  published-event Sent old new d = untold old new _ d.9 refl
  published-event Gave old new d = untold old new _ d.5 refl
  published-event GaveUnsent old new d = untold old new _ d.5 refl

  pub published-events : (events : List CarrierEvent) (old new : Model) → FoldsTo Does old events new → IsPrefix old.published new.published
  published-events [] old new f = same-front old.published new.published (ap (λ (c : Model). c.published) (sym f))
  published-events (event ∷ events) old new f = front-after old.published f.0.published new.published (published-event event old f.0 f.1) (published-events events f.0 new f.2)
