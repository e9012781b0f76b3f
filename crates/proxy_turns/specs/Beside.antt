-- A worker beside the carrier's ends of its lanes, where both are in one thread.
use Rattle.std.specs.Prelude.{◌≡◌, ◌⊎◌, ◌<◌, ℕ, List, Bool, true, false, Option, length, slice_get}
use Rattle.std.specs.Option.{ForSome}
use Rattle.proxy_lanes.specs.declared.ends.lane_ends.LaneEnds.{LaneEnds}
use Rattle.proxy_lanes.specs.declared.ends.lane_ends.LeftInLanes.{LeftInLanes}
use Rattle.proxy_lanes.specs.Ends.{ChangesAt}
use Rattle.proxy_lanes.specs.Beside.{AreBeside, HavePlaces, LanesLook}
use Rattle.proxy_turns.specs.declared.newcomer.Newcomer.{Newcomer}
use Rattle.proxy_turns.specs.Arrivals.{AreToCome}
use Rattle.proxy_turns.specs.WorkerModel.{WorkerModel}

-- a run that was posted, a pair that was given, or a new client that is to come
abbrev pub IsLeft : LeftInLanes → Option ℕ → Type 0
IsLeft counts left = (0 < counts.up) ⊎ (0 < counts.down) ⊎ (AreToCome left × (0 < counts.door))

module _ {C J : Type 0} where
  -- the worker's lanes stand at its number, and its ends and these are the two ends of each
  abbrev pub HasLanes : WorkerModel C J → List (LaneEnds (Newcomer C J)) → Type 0
  HasLanes worker lanes = (worker.worker < length lanes) × ForSome (slice_get lanes worker.worker) (AreBeside worker.outlet worker.inlet worker.newcomers)

  -- a place is known to be free in its lanes
  abbrev pub HavePlacesAt : WorkerModel C J → List (LaneEnds (Newcomer C J)) → Type 0
  HavePlacesAt worker lanes = ForSome (slice_get lanes worker.worker) (HavePlaces worker.outlet)

  -- the ends look at each other, and nothing else changes
  abbrev pub LooksAt : WorkerModel C J → List (LaneEnds (Newcomer C J)) → LeftInLanes → WorkerModel C J → List (LaneEnds (Newcomer C J)) → Type 0
  LooksAt old lanes counts new lanes' =
      ChangesAt lanes old.worker lanes' (λ lane lane'. LanesLook old.outlet old.inlet old.newcomers lane counts new.outlet new.inlet new.newcomers lane')
      × (new ≡ record old { outlet = new.outlet; inlet = new.inlet; newcomers = new.newcomers })

  -- The same. Whether there is still something to do for one of the ends: something is left that it is to take, or no place was known to
  -- be free for what it has.
  abbrev pub LookOutcome : WorkerModel C J → List (LaneEnds (Newcomer C J)) → Bool → WorkerModel C J → List (LaneEnds (Newcomer C J)) → Type 0
  LookOutcome old lanes true new lanes' = (counts : LeftInLanes) × LooksAt old lanes counts new lanes' × (IsLeft counts old.left ⊎ (HavePlacesAt old lanes → ⊥))
  LookOutcome old lanes false new lanes' = (counts : LeftInLanes) × LooksAt old lanes counts new lanes' × (IsLeft counts old.left → ⊥) × HavePlacesAt old lanes
