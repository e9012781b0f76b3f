-- A worker that is drained: it takes no client, reads no further request of those that it has, and answers what it read.
use Rattle.std.specs.Prelude.{◌≡◌, ◌⊎◌, ℕ, List, Bool, true, false, Some, None, Ok, option_map, slice_get}
use Rattle.std.specs.List.{FoldsTo, list_any}
use Rattle.std.specs.Map.{values_of}
use Rattle.std.specs.Ordering.{nat_cmp}
use Rattle.std.specs.FinMap.{FinMap, get}
use Rattle.indexmap.specs.IndexMap.{set_value_at}
use Rattle.session_order.specs.Stopping.{ReadsNoMore, without_reading}
use Rattle.proxy_turns.specs.Port.{Moves}
use Rattle.proxy_turns.specs.ClientModel.{ClientModel}
use Rattle.proxy_turns.specs.ClientTurn.{ClientEvent}
use Rattle.proxy_turns.specs.ClientTurn.ClientEvent.{Read}
use Rattle.proxy_turns.specs.WorkerModel.{WorkerDoes, WorkerEvent, WorkerModel}
use Rattle.proxy_turns.specs.WorkerModel.WorkerEvent.{Came, Did, TurnedAway}

-- no further request is read of the client; all else stays, and what it is owed
abbrev pub stopped : {C : Type 0} → ClientModel C → ClientModel C
stopped client = record client { session = without_reading client.session }

-- so it is of each client
abbrev pub AreStopped : {C : Type 0} → FinMap nat_cmp (ClientModel C) → FinMap nat_cmp (ClientModel C) → Type 0
AreStopped old new = (number : ℕ) → get new number ≡ option_map stopped (get old number)

-- so it is of the client at this place, where one is there
abbrev pub StopsAt : {C : Type 0} → List (ℕ × ClientModel C) → ℕ → List (ℕ × ClientModel C) → Type 0
StopsAt {C} old place new =
    ((slice_get (values_of old) place ≡ None) × (new ≡ old))
    ⊎ ((client : ClientModel C) × (slice_get (values_of old) place ≡ Some client) × (new ≡ set_value_at old place (stopped client)))

module _ {C J : Type 0} where
  -- No further client is to come, and no further request is read of those that are there. All else stays.
  pub record Drains (old new : WorkerModel C J) : Type 0 where
    pub none_to_come : new.left ≡ Some 0
    pub clients : AreStopped old.clients new.clients
    pub kept : new ≡ record old { left = new.left; clients = new.clients }

  -- it takes no client, and reads no further request of those that it has
  pub record IsDraining (worker : WorkerModel C J) : Type 0 where
    pub none_to_come : worker.left ≡ Some 0
    pub reads_no_more : (number : ℕ) (client : ClientModel C) → get worker.clients number ≡ Some client → ReadsNoMore client.session

-- a request is read
abbrev pub reads_request : ClientEvent → Bool
reads_request (Read (Ok read)) = read
reads_request other = false

-- a client is taken, or a request of one is read
abbrev pub takes_more : WorkerEvent → Bool
takes_more (Did number event) = reads_request event
takes_more (Came number) = true
takes_more (TurnedAway number) = true
takes_more other = false

-- Once it was told so it is draining, and whatever it does from then on, it is: it takes no client, and reads no request.
pub record StaysDraining (C J : Type 0) (moves : Moves C) : Type 0 where
  pub begins : (old new : WorkerModel C J) → Drains old new → IsDraining new
  pub goes_on : (old new : WorkerModel C J) (events : List WorkerEvent) → FoldsTo (WorkerDoes moves) old events new → IsDraining old
      → IsDraining new × (list_any takes_more events ≡ false)
