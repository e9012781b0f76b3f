-- What arrives for a client: the parts of the requests that its own bytes spell.
-- RESP2 specification, "Sending commands to a Redis server"; Redis command reference, QUIT. The plan of a request is key_split's
-- (Plan.antt), a value's spelling resp_wire's (Spelling.antt).
use Rattle.std.specs.Prelude.{◌≡◌, ℕ, suc, List, [], ◌∷◌, ◌++◌, Result, Ok, Err}
use Rattle.std.specs.List.{FoldsTo, flat_map}
use Rattle.resp_wire.specs.Data.{Data, items_of}
use Rattle.resp_wire.specs.LimitsModel.{full}
use Rattle.resp_wire.specs.Spelling.{SpellsAll}
use Rattle.key_split.specs.PartModel.{PartModel}
use Rattle.key_split.specs.declared.planned.Planned.{Planned}
use Rattle.key_split.specs.declared.planned.Planned.TheVariants as planned
use Rattle.key_split.specs.declared.planned.PlanFault.{PlanFault}
use Rattle.key_split.specs.declared.travel.Ticket.{Ticket}
use Rattle.session_order.specs.PendingReply.{plan_for}
use Rattle.session_order.specs.Output.{until_quit}
use Rattle.proxy_turns.specs.WorkerModel.{WorkerEvent}
use Rattle.turn_laws.specs.System.{System, Mark, Arrived, Executed, Answered}
use Rattle.turn_laws.specs.Steps.{SystemEvent, SystemStep}
use Rattle.turn_laws.specs.Sharing.{SharedEvent, SharedSystemStep}
use Rattle.turn_laws.specs.Refines.{IsStart}
use Rattle.turn_laws.specs.ClientSees.{if_own, bytes_from}
use Rattle.turn_laws.specs.ClientOutput.{events_at}
use Rattle.turn_laws.specs.Pipelines.{AreAccepted, requests_of}

-- the parts of a plan: none of a request that is answered at once, that ends the session, or that has no plan
abbrev pub parts_in : Result Planned PlanFault → List PartModel
parts_in (Ok (planned.Parts how parts)) = parts
parts_in (Ok (planned.Local value)) = []
parts_in (Ok planned.Close) = []
parts_in (Err fault) = []

abbrev pub parts_for : List (List ℕ) → List PartModel
parts_for words = parts_in (plan_for words)

-- with the tickets of this client of this worker, numbered on from this one
abbrev pub ticketed : ℕ → ℕ → ℕ → List PartModel → List (Ticket × PartModel)
ticketed k number next [] = []
ticketed k number next (part ∷ parts) = (record { worker = k; client = number; part = next }, part) ∷ ticketed k number (suc next) parts

-- the arrivals for this client of this worker that a log shows
abbrev pub arrivals_for : ℕ → ℕ → Mark → List (Ticket × PartModel)
arrivals_for k number (Arrived ticket part) = if_own k ticket.worker (if_own number ticket.client ((ticket, part) ∷ []))
arrivals_for k number (Executed run) = []
arrivals_for k number (Answered ticket end) = []

-- What arrived is what this client sent. Its bytes are the spellings of some values, and a rest. None of these values is refused, and
-- no request among them stands behind one that ends the session. All parts of their plans arrived, in this order, and nothing else.
pub record AreSent (k number : ℕ) (sent : List ℕ) (arrived : List (Ticket × PartModel)) : Type 0 where
  pub values : List Data
  pub text : List ℕ
  pub rest : List ℕ
  pub are : sent ≡ text ++ rest
  pub spelled : SpellsAll full full.depth text (items_of values)
  pub accepted : AreAccepted values
  pub until : until_quit (requests_of values) ≡ requests_of values
  pub parts : arrived ≡ ticketed k number 0 (flat_map parts_for (requests_of values))

-- the events of this worker, where others act
abbrev pub own_events_at : ℕ → SharedEvent → List WorkerEvent
own_events_at k (SharedEvent.Ours event) = events_at k event
own_events_at k (SharedEvent.Led event) = []
own_events_at k (SharedEvent.Theirs node asking done) = []

module _ (C J : Type 0) where
  -- whatever a system does from its start, what arrived for a client is what the client sent,
  abbrev pub ArrivalsAreSent : Type 0
  ArrivalsAreSent = (s s' : System C J) (events : List SystemEvent) → IsStart s → FoldsTo SystemStep s events s' → (k number : ℕ)
      → AreSent k number (flat_map (bytes_from number) (flat_map (events_at k) events)) (flat_map (arrivals_for k number) s'.log)

  -- and where others act too
  abbrev pub SharedArrivalsAreSent : Type 0
  SharedArrivalsAreSent = (s s' : System C J) (events : List SharedEvent) → IsStart s → FoldsTo SharedSystemStep s events s' → (k number : ℕ)
      → AreSent k number (flat_map (bytes_from number) (flat_map (own_events_at k) events)) (flat_map (arrivals_for k number) s'.log)
