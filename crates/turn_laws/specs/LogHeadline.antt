-- The headline, said of the log alone: of what anyone sees who stands beside the system and notes, in order, which command arrived, which
-- were executed, and which was answered, and how.
-- A place in the log is a moment. A command is for keys of one slot, and its ticket, which names its client, is its own. What a node
-- executed at once is one mark, in its order.
use Rattle.std.specs.Prelude.{◌≡◌, ◌≢◌, ◌↔◌, ℕ, ◌<◌, List, [], ◌∷◌, Some, slice_get}
use Rattle.std.specs.List.{FoldsTo, flat_map}
use Rattle.std.specs.FinMap.{get}
use Rattle.resp_wire.specs.Seen.{data_of}
use Rattle.resp_wire.specs.declared.value.Value.{Value}
use Rattle.slot_hash.specs.Slot.{slot_of}
use Rattle.key_split.specs.PartModel.{PartModel}
use Rattle.key_split.specs.declared.travel.Ticket.{Ticket}
use Rattle.key_split.specs.declared.travel.Ended.{Ended}
use Rattle.key_split.specs.declared.travel.Ended.TheVariants as ended
use Rattle.node_model.specs.Nodes.{ClusterModel, at}
use Rattle.node_model.specs.Store.{StoreModel, store_after, reply_to}
use Rattle.world_laws.specs.Headline.{AnyTicket}
use Rattle.turn_laws.specs.Wire.{Execution}
use Rattle.turn_laws.specs.System.{System, Mark, Arrived, Executed, Answered}
use Rattle.turn_laws.specs.Steps.{SystemEvent, SystemStep}
use Rattle.turn_laws.specs.Refines.{IsStart}

-- x stands at k
abbrev pub At : {X : Type 0} → List X → ℕ → X → Type 0
At xs k x = slice_get xs k ≡ Some x

-- x stands in the list
abbrev pub IsIn : {X : Type 0} → List X → X → Type 0
IsIn xs x = (k : ℕ) × At xs k x

-- what a mark shows executed
abbrev pub executed_by : Mark → List Execution
executed_by (Executed run) = run
executed_by (Arrived ticket part) = []
executed_by (Answered ticket end) = []

-- all that was executed, in order
abbrev pub history : List Mark → List Execution
history log = flat_map executed_by log

-- each reply is the store's, after what stands before it
abbrev pub IsLegal : StoreModel → List Execution → Type 0
IsLegal store [] = Unit {0}
IsLegal store (e ∷ es) = (data_of e.value ≡ reply_to store e.part) × IsLegal (store_after store e.part) es

-- e was executed at this place of the log
abbrev pub IsExecutedAt : List Mark → ℕ → Execution → Type 0
IsExecutedAt log i e = (run : List Execution) × At log i (Executed run) × IsIn run e

-- at most one execution has the ticket
abbrev pub HasOne : List Mark → Ticket → Type 0
HasOne log ticket = (k l : ℕ) (e f : Execution) → At (history log) k e → At (history log) l f → e.ticket ≡ ticket → f.ticket ≡ ticket → k ≡ l

-- one client's, for one slot
abbrev pub SameTurn : Execution → Execution → Type 0
SameTurn e f = (e.ticket.client ≡ f.ticket.client) × (slot_of e.part.key ≡ slot_of f.part.key)

-- `initial` is what the nodes held together at the start. `Ours` says of a ticket whether a command of ours has it. What was executed with another is somebody else's: of this it is said that it is
-- legal, and that only what goes together was executed at once.
pub record LogHeadlineOf (initial : StoreModel) (Ours : Ticket → Type 0) (log : List Mark) : Type 0 where
  -- what was executed, of everybody's, in order, is one legal history of one store, which holds that at first
  pub legal : IsLegal initial (history log)
  -- a command that was answered with a value was executed, with that value, between its arrival and its answer
  pub answered : (n : ℕ) (ticket : Ticket) (value : Value) → At log n (Answered ticket (ended.Answered value))
      → (a : ℕ) × (i : ℕ) × (e : Execution) × At log a (Arrived ticket e.part) × IsExecutedAt log i e
      × (e.ticket ≡ ticket) × (data_of e.value ≡ data_of value) × (a < i) × (i < n)
  -- one that was answered with a connection fault was executed at most once
  pub lost : (n : ℕ) (ticket : Ticket) → At log n (Answered ticket Ended.Lost) → HasOne log ticket
  -- one that was refused was not executed
  pub refused : (n : ℕ) (ticket : Ticket) → At log n (Answered ticket ended.GaveUp)
      → (k : ℕ) (e : Execution) → At (history log) k e → e.ticket ≢ ticket
  -- of two commands of one client for one slot that were executed the one that arrived first was executed first, where it was answered with
  -- something other than a connection fault
  pub in_order : (k l : ℕ) (e f : Execution) → At (history log) k e → At (history log) l f → SameTurn e f
      → (a b : ℕ) → At log a (Arrived e.ticket e.part) → At log b (Arrived f.ticket f.part) → a < b
      → (n : ℕ) (end : Ended) → At log n (Answered e.ticket end) → end ≢ Ended.Lost → k < l
  -- what arrived has a ticket of ours; no command of ours was executed twice, and each that was executed arrived before
  pub ours : (a : ℕ) (ticket : Ticket) (part : PartModel) → At log a (Arrived ticket part) → Ours ticket
  pub once : (ticket : Ticket) → Ours ticket → HasOne log ticket
  pub arrived : (i : ℕ) (e : Execution) → IsExecutedAt log i e → Ours e.ticket → (a : ℕ) × At log a (Arrived e.ticket e.part) × (a < i)
  -- only commands of one client for one slot were executed at once
  pub together : (i : ℕ) (run : List Execution) (e f : Execution) → At log i (Executed run) → IsIn run e → IsIn run f → SameTurn e f
  -- no two commands arrived with one ticket
  pub own_ticket : (a b : ℕ) (ticket : Ticket) (part part' : PartModel) → At log a (Arrived ticket part) → At log b (Arrived ticket part') → a ≡ b
  -- what was answered arrived before, and no command was answered twice
  pub told : (n : ℕ) (ticket : Ticket) (end : Ended) → At log n (Answered ticket end)
      → (a : ℕ) × (part : PartModel) × At log a (Arrived ticket part) × (a < n)
  pub answered_once : (n m : ℕ) (ticket : Ticket) (end end' : Ended) → At log n (Answered ticket end) → At log m (Answered ticket end') → n ≡ m
  -- of two commands of one client the one that arrived first was answered first
  pub answered_in_order : (a b : ℕ) (ticket ticket' : Ticket) (part part' : PartModel) → At log a (Arrived ticket part) → At log b (Arrived ticket' part')
      → ticket.client ≡ ticket'.client → a < b
      → (n : ℕ) (end' : Ended) → At log n (Answered ticket' end') → (m : ℕ) × (end : Ended) × At log m (Answered ticket end) × (m < n)

-- where nobody else acts every ticket is ours
abbrev pub LogHeadline : StoreModel → List Mark → Type 0
LogHeadline initial log = LogHeadlineOf initial AnyTicket log

-- the store that these leave
abbrev pub left_by : StoreModel → List Execution → StoreModel
left_by store [] = store
left_by store (e ∷ es) = left_by (store_after store e.part) es

-- these nodes hold the store that the log leaves, each key at one node
pub record IsHeld (initial : StoreModel) (log : List Mark) (cluster : ClusterModel) : Type 0 where
  pub one_node : (key : List ℕ) (n m : ℕ) (a b : List ℕ) → at cluster n key ≡ Some a → at cluster m key ≡ Some b → n ≡ m
  pub union : (key value : List ℕ) → (get (left_by initial (history log)) key ≡ Some value) ↔ ((n : ℕ) × (at cluster n key ≡ Some value))

module _ (C J : Type 0) where
  -- whatever a system does from its start, the headline holds of its log,
  abbrev pub HeadlineOfLogs : Type 0
  HeadlineOfLogs = (s s' : System C J) (events : List SystemEvent) → IsStart s → FoldsTo SystemStep s events s' → LogHeadline s'.initial s'.log

  -- and its nodes hold the store that the log leaves
  abbrev pub LogsAreHeld : Type 0
  LogsAreHeld = (s s' : System C J) (events : List SystemEvent) → IsStart s → FoldsTo SystemStep s events s' → IsHeld s'.initial s'.log s'.cluster

-- Where nobody else acts, there is no more to its two fields that ask whether what was executed is ours: they hold of all.
abbrev pub NoneIsExecutedTwice : Type 0
NoneIsExecutedTwice = (initial : StoreModel) (log : List Mark) → LogHeadline initial log → (ticket : Ticket) → HasOne log ticket

abbrev pub EachExecutionArrived : Type 0
EachExecutionArrived = (initial : StoreModel) (log : List Mark) → LogHeadline initial log → (i : ℕ) (e : Execution) → IsExecutedAt log i e
    → (a : ℕ) × At log a (Arrived e.ticket e.part) × (a < i)
