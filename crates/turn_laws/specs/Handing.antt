-- New clients: those that come to a worker are those that were handed to it, each once, in their order.
use Rattle.std.specs.Prelude.{◌≡◌, ◌⊎◌, ℕ, List, [], ◌∷◌, ◌++◌, Some, map, slice_get}
use Rattle.std.specs.List.{FoldsTo, flat_map}
use mathlib.Core.List.{IsPrefix}
use Rattle.proxy_lanes.specs.declared.ends.lane_ends.LaneEnds.{LaneEnds}
use Rattle.proxy_lanes.specs.declared.ring.Numbered.{Numbered}
use Rattle.proxy_lanes.specs.Lane.{posted, taken}
use Rattle.proxy_turns.specs.declared.newcomer.Newcomer.{Newcomer}
use Rattle.proxy_turns.specs.WorkerModel.{WorkerModel, WorkerEvent, Did, Finished, Took, FoundNone, Came, TurnedAway, FoundNobody, Left}
use Rattle.turn_laws.specs.System.{System, IsInStep}
use Rattle.turn_laws.specs.Steps.{SystemEvent, SystemStep, Hands}
use Rattle.turn_laws.specs.ClientOutput.{events_at}

-- whom a worker takes in an event: the client comes, or is turned away
abbrev pub taken_in : WorkerEvent → List ℕ
taken_in (Came number) = number ∷ []
taken_in (TurnedAway number) = number ∷ []
taken_in (Did number event) = []
taken_in (Finished number ticket end) = []
taken_in (Took ticket told) = []
taken_in FoundNone = []
taken_in FoundNobody = []
taken_in (Left number) = []

-- the numbers of clients, in the order in which they stand in a lane
abbrev pub numbers_of : {C J : Type 0} → List (Numbered (Newcomer C J)) → List ℕ
numbers_of {C} {J} clients = map (λ (x : Numbered (Newcomer C J)). x.item.number) clients

module _ (C J : Type 0) where
  -- a client that is handed over stands in the lane of its worker, once, behind all others, and in no other's; or it came back
  abbrev pub HandedOnce : Type 0
  HandedOnce = (k number : ℕ) (s s' : System C J) → Hands s k number s'
      → (j : ℕ) (old new : LaneEnds (Newcomer C J)) → slice_get s.carrier.lanes j ≡ Some old → slice_get s'.carrier.lanes j ≡ Some new
      → (numbers_of (posted new.door) ≡ numbers_of (posted old.door)) ⊎ ((j ≡ k) × (numbers_of (posted new.door) ≡ numbers_of (posted old.door) ++ number ∷ []))

  -- Whatever a system does, where the lane of new clients is in order between its two ends: those that a worker takes are the next of those
  -- that were handed to it.
  abbrev pub TakenAsHanded : Type 0
  TakenAsHanded = (s s' : System C J) (events : List SystemEvent) → FoldsTo SystemStep s events s'
      → (k : ℕ) (old new : WorkerModel C J) (lane : LaneEnds (Newcomer C J)) → slice_get s.workers k ≡ Some old → slice_get s'.workers k ≡ Some new
      → slice_get s'.carrier.lanes k ≡ Some lane → IsInStep lane.door new.newcomers
      → IsPrefix (numbers_of (taken old.newcomers) ++ flat_map taken_in (flat_map (events_at k) events)) (numbers_of (posted lane.door))
