-- A worker and the carrier's ends of its lanes, where there is no other worker.
use Rattle.std.specs.Prelude.{◌≡◌, List, IsSome, length, slice_get}
use Rattle.std.specs.Option.{ForSome}
use Rattle.proxy_lanes.specs.declared.ends.lane_ends.LaneEnds.{LaneEnds}
use Rattle.proxy_turns.specs.declared.newcomer.Newcomer.{Newcomer}
use Rattle.proxy_turns.specs.WorkerModel.{WorkerModel}
use Rattle.proxy_turns.specs.Beside.{HasLanes}

module _ {C J : Type 0} where
  -- the lane down to the worker is open
  abbrev pub IsOpen : WorkerModel C J → List (LaneEnds (Newcomer C J)) → Type 0
  IsOpen worker lanes = ForSome (slice_get lanes worker.worker) (λ lane. IsSome lane.down)

  -- the only worker, whose ends and the carrier's are the two ends of the same three lanes
  abbrev pub AreTogether : WorkerModel C J → List (LaneEnds (Newcomer C J)) → Type 0
  AreTogether worker lanes = (worker.worker ≡ 0) × (length lanes ≡ 1) × HasLanes worker lanes × IsOpen worker lanes
