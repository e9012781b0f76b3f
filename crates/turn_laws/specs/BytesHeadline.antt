-- The headline in bytes: what clients sent, what they were written, and the one legal history that joins the two.
-- A client is known by its worker and its number there. Its bytes are RESP2's (Redis serialization protocol specification).
use Rattle.std.specs.Prelude.{ℕ, List, length}
use Rattle.std.specs.List.{FoldsTo, flat_map}
use mathlib.Core.List.{IsPrefix}
use Rattle.node_model.specs.Store.{StoreModel}
use Rattle.turn_laws.specs.System.{System, Mark}
use Rattle.turn_laws.specs.Sharing.{SharedEvent, SharedSystemStep}
use Rattle.turn_laws.specs.Refines.{IsStart}
use Rattle.turn_laws.specs.ClientSees.{bytes_from, bytes_to}
use Rattle.turn_laws.specs.Pipelines.{Pipeline, whole_output}
use Rattle.turn_laws.specs.Arrivals.{AreSent, arrivals_for, own_events_at}
use Rattle.turn_laws.specs.LogOutput.{answers_to}
use Rattle.turn_laws.specs.SharedLog.{SharedLogHeadline}

-- `initial` is what the nodes held together at the start, `came` and `went` are the bytes that each client sent and was written, and the log
-- shows in order what arrived, what was executed and what was answered.
pub record BytesHeadline (initial : StoreModel) (workers : ℕ) (came went : ℕ → ℕ → List ℕ) (log : List Mark) : Type 0 where
  -- What arrived for a client is what its bytes spell: all parts of its requests, in order, and nothing else.
  pub sent : (k number : ℕ) → AreSent k number (came k number) (flat_map (arrivals_for k number) log)
  -- Each command that was answered was executed once, between its arrival and its answer, in one legal history of everybody's commands; in its
  -- client's order for each slot; at most once where the answer is a connection fault, and never where it was refused.
  pub headline : SharedLogHeadline initial workers log
  -- What a client was written is a front of the exact output of the requests that its bytes spell, by these answers.
  pub written : (k number : ℕ) → (pipeline : Pipeline (came k number)) × IsPrefix (went k number) (whole_output pipeline (flat_map (answers_to k number) log))

-- the bytes that the client of this worker sent, and those that it was written
abbrev pub sent_by : List SharedEvent → ℕ → ℕ → List ℕ
sent_by events k number = flat_map (bytes_from number) (flat_map (own_events_at k) events)

abbrev pub written_to : List SharedEvent → ℕ → ℕ → List ℕ
written_to events k number = flat_map (bytes_to number) (flat_map (own_events_at k) events)

-- whatever a system and others do from any sound start
abbrev pub HeadlineOfBytes : Type 0 → Type 0 → Type 0
HeadlineOfBytes C J = (s s' : System C J) (events : List SharedEvent) → IsStart s → FoldsTo SharedSystemStep s events s'
    → BytesHeadline s'.initial (length s'.workers) (sent_by events) (written_to events) s'.log
