-- The answers in a system's log, and what clients are written by them.
use Rattle.std.specs.Prelude.{◌≡◌, ℕ, List, [], ◌∷◌, Some, slice_get}
use Rattle.std.specs.List.{FoldsTo, flat_map}
use mathlib.Core.List.{IsPrefix}
use Rattle.key_split.specs.declared.travel.Ticket.{Ticket}
use Rattle.key_split.specs.declared.travel.Ended.{Ended}
use Rattle.session_order.specs.Output.{end_of}
use Rattle.turn_laws.specs.System.{System, Mark, Answered}
use Rattle.turn_laws.specs.Steps.{SystemEvent, SystemStep}
use Rattle.turn_laws.specs.Sharing.{SharedEvent, SharedSystemStep}
use Rattle.turn_laws.specs.Refines.{IsStart}
use Rattle.turn_laws.specs.ClientSees.{if_own, bytes_from, bytes_to, ends_for}
use Rattle.turn_laws.specs.Pipelines.{Pipeline, whole_output}
use Rattle.turn_laws.specs.ClientOutput.{events_at}
use Rattle.turn_laws.specs.Arrivals.{own_events_at}

-- the answers to this client of this worker that a log shows
abbrev pub answers_to : ℕ → ℕ → Mark → List (Ticket × Ended)
answers_to k number (Answered ticket end) = if_own k ticket.worker (if_own number ticket.client ((ticket, end) ∷ []))
answers_to k number mark = []

module _ (C J : Type 0) where
  -- what was answered is what the client was told of that part
  abbrev pub AnswersWereTold : Type 0
  AnswersWereTold = (s s' : System C J) (events : List SystemEvent) → IsStart s → FoldsTo SystemStep s events s'
      → (i : ℕ) (ticket : Ticket) (end : Ended) → slice_get s'.log i ≡ Some (Answered ticket end)
      → end_of (flat_map (ends_for ticket.client) (flat_map (events_at ticket.worker) events)) ticket.part ≡ Some end

  -- the log's answers are enough: the bytes that went to a client are a front of the output of its requests and of these
  abbrev pub LogIsWritten : Type 0
  LogIsWritten = (s s' : System C J) (events : List SystemEvent) → IsStart s → FoldsTo SystemStep s events s' → (k number : ℕ)
      → (pipeline : Pipeline (flat_map (bytes_from number) (flat_map (events_at k) events)))
      × IsPrefix (flat_map (bytes_to number) (flat_map (events_at k) events)) (whole_output pipeline (flat_map (answers_to k number) s'.log))

  -- the same where others act
  abbrev pub SharedAnswersWereTold : Type 0
  SharedAnswersWereTold = (s s' : System C J) (events : List SharedEvent) → IsStart s → FoldsTo SharedSystemStep s events s'
      → (i : ℕ) (ticket : Ticket) (end : Ended) → slice_get s'.log i ≡ Some (Answered ticket end)
      → end_of (flat_map (ends_for ticket.client) (flat_map (own_events_at ticket.worker) events)) ticket.part ≡ Some end

  abbrev pub SharedLogIsWritten : Type 0
  SharedLogIsWritten = (s s' : System C J) (events : List SharedEvent) → IsStart s → FoldsTo SharedSystemStep s events s' → (k number : ℕ)
      → (pipeline : Pipeline (flat_map (bytes_from number) (flat_map (own_events_at k) events)))
      × IsPrefix (flat_map (bytes_to number) (flat_map (own_events_at k) events)) (whole_output pipeline (flat_map (answers_to k number) s'.log))

  -- Of the log's answers the end of each part is enough: by any list that gives each part that end the bytes are such a front.
  abbrev pub EndsDecide : Type 0
  EndsDecide = LogIsWritten → (s s' : System C J) (events : List SystemEvent) → IsStart s → FoldsTo SystemStep s events s' → (k number : ℕ) (ends : List (Ticket × Ended))
      → ((part : ℕ) → end_of ends part ≡ end_of (flat_map (answers_to k number) s'.log) part)
      → (pipeline : Pipeline (flat_map (bytes_from number) (flat_map (events_at k) events)))
      × IsPrefix (flat_map (bytes_to number) (flat_map (events_at k) events)) (whole_output pipeline ends)
