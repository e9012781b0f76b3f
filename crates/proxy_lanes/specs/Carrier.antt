-- The ends that a call of `lanes` makes.
-- Each worker's end and the carrier's are the two ends of the same lanes, and nothing was posted yet.
use Rattle.std.specs.Prelude.{◌≡◌, ℕ, ◌+◌, List, [], ◌∷◌, IsSomeAnd}
use Rattle.proxy_lanes.specs.declared.ends.lane_ends.LaneEnds.{LaneEnds}
use Rattle.proxy_lanes.specs.declared.ends.CarrierEnds.{CarrierEnds}
use Rattle.proxy_lanes.specs.declared.ends.WorkerEnds.{WorkerEnds}
use Rattle.proxy_lanes.specs.Lane.{IsNewLane}
use Rattle.proxy_lanes.specs.View.{new_view}

-- the carrier's ends of each worker's lanes, in order
abbrev pub lanes_of : {H M : Type 0} → CarrierEnds H M → List (LaneEnds H)
lanes_of ends = ends.lanes.items

module _ {H J : Type 0} where
  -- the two ends of the lanes of one of the workers, in which nothing was posted, beside a view that knows of nothing
  -- published
  abbrev pub AreLanesOf : ℕ → ℕ → WorkerEnds H J → LaneEnds H → Type 0
  AreLanesOf workers k w lane =
      (w.worker ≡ k) × (w.workers ≡ workers) × IsNewLane w.outlet lane.up × IsSomeAnd lane.down (λ outlet. IsNewLane outlet w.inlet)
      × IsNewLane lane.door w.newcomers × (w.view ≡ new_view [])

  -- those of worker k and on, in order
  abbrev pub AreLanesFrom : ℕ → ℕ → List (WorkerEnds H J) → List (LaneEnds H) → Type 0
  AreLanesFrom workers k [] [] = Unit {0}
  AreLanesFrom workers k (w ∷ ws) (lane ∷ lanes) = AreLanesOf workers k w lane × AreLanesFrom workers (k + 1) ws lanes
  AreLanesFrom workers k _ _ = ⊥

  abbrev pub AreLanes : ℕ → List (WorkerEnds H J) → List (LaneEnds H) → Type 0
  AreLanes workers ws lanes = AreLanesFrom workers 0 ws lanes
