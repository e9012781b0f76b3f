-- What each client is written: a front of the output of its requests and of the ends that it is told.
-- A worker's turns are a list of events. The requests are those that the client's own bytes spell.
use Rattle.std.specs.Prelude.{◌≡◌, ℕ, List, [], ◌∷◌, ◌++◌, false, Some, slice_get}
use Rattle.std.specs.List.{FoldsTo, flat_map}
use Rattle.std.specs.FinMap.{empty, get}
use mathlib.Core.List.{IsPrefix}
use Rattle.proxy_turns.specs.ClientModel.{ClientModel, IsClientServed}
use Rattle.proxy_turns.specs.ClientTurn.{Parted}
use Rattle.proxy_turns.specs.WorkerModel.{WorkerModel, WorkerEvent, Did, WorkerDoes}
use Rattle.turn_laws.specs.System.{System}
use Rattle.turn_laws.specs.PortsMay.{any_moves}
use Rattle.turn_laws.specs.Steps.{SystemEvent, AtWorker, SystemStep}
use Rattle.turn_laws.specs.Refines.{IsStart}
use Rattle.turn_laws.specs.ClientSees.{if_own, bytes_from, bytes_to, ends_for}
use Rattle.turn_laws.specs.Pipelines.{Pipeline, IsClosed, whole_output}

-- what clients are written by these events, which led to this worker
pub record AreWritten {C J : Type 0} (events : List WorkerEvent) (model : WorkerModel C J) : Type 0 where
  -- each client that ever came a front of its output,
  pub front : (number : ℕ) → (pipeline : Pipeline (flat_map (bytes_from number) events)) × IsPrefix (flat_map (bytes_to number) events) (whole_output pipeline (flat_map (ends_for number) events))
  -- and one that is served, before it leaves, all of it, up to the request or the fault that ended its session
  pub whole : (number : ℕ) (client : ClientModel C) → get model.clients number ≡ Some client → client.gone ≡ false → IsClientServed client
      → (pipeline : Pipeline (flat_map (bytes_from number) events)) × IsClosed pipeline × (flat_map (bytes_to number) events ≡ whole_output pipeline (flat_map (ends_for number) events))

-- the events of this worker
abbrev pub events_at : ℕ → SystemEvent → List WorkerEvent
events_at k (AtWorker other event) = if_own k other (event ∷ [])
events_at k event = []

module _ (C J : Type 0) where
  -- whatever a worker does that had no clients
  abbrev pub ClientsAreWritten : Type 0
  ClientsAreWritten = (old new : WorkerModel C J) (events : List WorkerEvent) → old.clients ≡ empty → FoldsTo (WorkerDoes any_moves) old events new → AreWritten events new

  -- and whatever a system does from its start
  abbrev pub AllClientsAreWritten : Type 0
  AllClientsAreWritten = (s s' : System C J) (events : List SystemEvent) → IsStart s → FoldsTo SystemStep s events s'
      → (k : ℕ) (model : WorkerModel C J) → slice_get s'.workers k ≡ Some model → AreWritten (flat_map (events_at k) events) model

  -- a client that parts is owed nothing more
  abbrev pub PartingOwesNothing : Type 0
  PartingOwesNothing =
      (events : List WorkerEvent) (number : ℕ) (old new : WorkerModel C J) → AreWritten events old → WorkerDoes any_moves old (Did number Parted) new
      → AreWritten (events ++ Did number Parted ∷ []) new
