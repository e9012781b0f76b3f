-- What holds after every schedule of clients, workers, nodes, slot moves and dropped connections:
--     each command for keys of one slot that ended with a reply stands exactly once in one legal history of one key-value
--     store, between its arrival and its answer, in its client's order for each slot, with that store's reply;
--     one that ended in a connection fault stands there at most once, and one refused by the proxy never.
-- It speaks of commands that have ended, whether their clients have been answered yet or not. The history is in the order
-- of its moments, and those of one run share theirs; a command is answered at most once.
-- Nothing is said of progress: a schedule may leave any command unanswered.
-- Where others act beside the proxy, it speaks of the proxy's commands, in one legal history of everybody's (shared_laws).
use Rattle.std.specs.Prelude.{◌≡◌, ◌≢◌, ◌↔◌, ℕ, ◌<◌, ◌≤◌, List, Some, None, length, slice_get}
use Rattle.std.specs.FinMap.{empty, get}
use Rattle.slot_hash.specs.Slot.{slot_of}
use Rattle.resp_wire.specs.Seen.{data_of}
use Rattle.resp_wire.specs.declared.value.Value.{Value}
use Rattle.key_split.specs.declared.travel.Ticket.{Ticket}
use Rattle.key_split.specs.declared.travel.Ended.{Ended}
use Rattle.key_split.specs.declared.travel.Ended.TheVariants.{Answered, GaveUp}
use Rattle.command_future.specs.declared.stage.Stage.TheVariants.{Over}
use Rattle.node_model.specs.Store.{StoreModel}
use Rattle.node_model.specs.History.{EntryModel, IsLegal, left_by}
use Rattle.node_model.specs.Moves.{phase_at}
use Rattle.node_model.specs.Nodes.{ClusterModel, at, standing_at}
use Rattle.node_model.specs.declared.standing.Phase.TheVariants.{Settled}
use Rattle.world_laws.specs.Homes.{home_in}
use Rattle.world_laws.specs.State.{WorldModel, Arrival, slot_for, start_from}
use Rattle.world_laws.specs.World.{SameTurn, WorldRun}
use Rattle.world_laws.specs.declared.event.Event.{Event}
use Rattle.world_laws.specs.declared.history.Answer.{Answer}

-- x stands at k
abbrev pub At : {X : Type 0} → List X → ℕ → X → Type 0
At xs k x = slice_get xs k ≡ Some x

-- x stands in the list
abbrev pub IsIn : {X : Type 0} → List X → X → Type 0
IsIn xs x = (k : ℕ) × At xs k x

-- the store that the history leaves, from the one that the nodes held at the start
abbrev pub store_of : WorldModel → StoreModel
store_of w = left_by w.initial w.history

-- at most one entry has the ticket
abbrev pub HasOne : WorldModel → Ticket → Type 0
HasOne w ticket = (k l : ℕ) (e f : EntryModel) → At w.history k e → At w.history l f → e.ticket ≡ ticket → f.ticket ≡ ticket → k ≡ l

-- c is a command, and has ended so
abbrev pub EndedAs : WorldModel → Arrival → Ended → Type 0
EndedAs w c ended = IsIn w.commands c × (c.command.stage ≡ Over ended)

-- e is an entry, of the command c
abbrev pub IsEntryOf : WorldModel → EntryModel → Arrival → Type 0
IsEntryOf w e c = IsIn w.history e × IsIn w.commands c × (e.ticket ≡ c.command.ticket)

-- `Ours` says of a ticket whether a command of ours has it. An entry with another is somebody else's: of these it is said that they are
-- legal, in the order of their moments, and what the nodes hold.
pub record HeadlineOf (Ours : Ticket → Type 0) (w : WorldModel) : Type 0 where
  -- the history, of everybody's commands, is one legal history of one store, from what the nodes held at the start,
  pub legal : IsLegal w.initial w.history
  -- in the order of its moments,
  pub timed : (k l : ℕ) (e f : EntryModel) → At w.history k e → At w.history l f → k < l → e.moment ≤ f.moment
  -- where only those of one run, one client's for one slot, share a moment, all of them ours or none,
  pub together : (k l : ℕ) (e f : EntryModel) → At w.history k e → At w.history l f → e.moment ≡ f.moment
      → (e.ticket.client ≡ f.ticket.client) × (slot_for e.part ≡ slot_for f.part) × (Ours e.ticket ↔ Ours f.ticket)
  -- and where no run of ours has more than one command, none of ours share one,
  pub apart : w.run_limit ≤ 1 → (k l : ℕ) (e f : EntryModel) → At w.history k e → At w.history l f
      → Ours e.ticket → Ours f.ticket → k < l → e.moment < f.moment
  -- which is what the nodes hold together, each key at one node
  pub one_node : (key : List ℕ) (n m : ℕ) (a b : List ℕ) → at w.cluster n key ≡ Some a → at w.cluster m key ≡ Some b → n ≡ m
  pub union : (key value : List ℕ) → (get (store_of w) key ≡ Some value) ↔ ((n : ℕ) × (at w.cluster n key ≡ Some value))
  -- each command has a ticket of ours and of its own, each answer tells the end of one, and when it arrived, and none has two answers
  pub ours : (c : Arrival) → IsIn w.commands c → Ours c.command.ticket
  pub own_ticket : (i j : ℕ) (c d : Arrival) → At w.commands i c → At w.commands j d → c.command.ticket ≡ d.command.ticket → i ≡ j
  pub told : (a : Answer) → IsIn w.answers a → (c : Arrival) × EndedAs w c a.ended × (c.command.ticket ≡ a.ticket) × (c.arrived ≡ a.arrived)
  pub answered_once : (k l : ℕ) (a b : Answer) → At w.answers k a → At w.answers l b → a.ticket ≡ b.ticket → k ≡ l
  -- each entry of ours is of a command that arrived earlier, and no command has two
  pub arrived : (e : EntryModel) → IsIn w.history e → Ours e.ticket
      → (c : Arrival) × IsEntryOf w e c × (e.part ≡ c.command.part) × (c.arrived < e.moment)
  pub once : (ticket : Ticket) → Ours ticket → HasOne w ticket
  -- a command that ended with a reply has its entry, with that reply, between its arrival and its answer
  pub answered : (c : Arrival) (reply : Value) → EndedAs w c (Answered reply)
      → (e : EntryModel) × IsEntryOf w e c × (e.reply ≡ data_of reply) × (c.arrived < e.moment)
      × ((a : Answer) → IsIn w.answers a → a.ticket ≡ c.command.ticket → e.moment < a.answered)
  -- of one client's commands for one slot the one that arrived first has the earlier entry, unless it ended in a connection fault
  pub in_order : (k l : ℕ) (e f : EntryModel) (c d : Arrival) → At w.history k e → At w.history l f → IsEntryOf w e c → IsEntryOf w f d
      → SameTurn c d → c.arrived < d.arrived → c.command.stage ≢ Over Ended.Lost → k < l
  -- one that ended in a connection fault has at most one entry
  pub lost : (c : Arrival) → EndedAs w c Ended.Lost → HasOne w c.command.ticket
  -- one that was refused by the proxy has none
  pub refused : (c : Arrival) → EndedAs w c GaveUp → (e : EntryModel) → IsEntryOf w e c → ⊥

-- where nobody else acts every ticket is ours
abbrev pub AnyTicket : Ticket → Type 0
AnyTicket ticket = Unit {0}

abbrev pub Headline : WorldModel → Type 0
Headline w = HeadlineOf AnyTicket w

-- A proxy may begin before such a cluster, which holds this store: each slot stands as the steps of moves may leave it, each key is
-- at no node but the one that may hold it then, so at no two, and the store is what the nodes hold together.
pub record IsSound (initial : StoreModel) (k : ClusterModel) : Type 0 where
  pub apart : (slot : ℕ) → phase_at k slot ≢ Settled → (standing_at k slot).source ≢ (standing_at k slot).target
  pub targets : (slot : ℕ) → phase_at k slot ≢ Settled → (standing_at k slot).target < length k.stores
  pub placed : (key value : List ℕ) (node : ℕ) → at k node key ≡ Some value → node ≡ home_in (standing_at k (slot_of key)) (λ n. at k n key)
  pub union : (key value : List ℕ) → (get initial key ≡ Some value) ↔ ((node : ℕ) × (at k node key ≡ Some value))

-- settled slots and no keys
pub record IsNew (k : ClusterModel) : Type 0 where
  pub settled : (slot : ℕ) → phase_at k slot ≡ Settled
  pub no_keys : (node : ℕ) (key : List ℕ) → at k node key ≡ None

-- a new cluster is sound, and holds nothing
abbrev pub NewIsSound : Type 0
NewIsSound = (k : ClusterModel) → IsNew k → IsSound empty k

-- a world that some schedule leaves, from a sound cluster
abbrev pub IsReached : WorldModel → Type 0
IsReached w = (workers : ℕ) × (run_limit : ℕ) × (initial : StoreModel) × (cluster : ClusterModel) × (events : List Event) × IsSound initial cluster
    × WorldRun (start_from workers run_limit initial cluster) events w

-- what a schedule leaves is sound, and holds what the history leaves: another proxy can begin there
abbrev pub EndsAreSound : Type 0
EndsAreSound = (w : WorldModel) → IsReached w → IsSound (store_of w) w.cluster

-- the headline holds after every schedule
abbrev pub EverySchedule : Type 0
EverySchedule = (workers run_limit : ℕ) (initial : StoreModel) (cluster : ClusterModel) (events : List Event) (w : WorldModel) → IsSound initial cluster
    → WorldRun (start_from workers run_limit initial cluster) events w → Headline w

-- There is no more to its three fields that ask whether an entry is ours: they hold of every entry.
abbrev pub NoneShareAMoment : Type 0
NoneShareAMoment = (w : WorldModel) → Headline w → w.run_limit ≤ 1 → (k l : ℕ) (e f : EntryModel) → At w.history k e → At w.history l f
    → k < l → e.moment < f.moment

abbrev pub EachEntryArrived : Type 0
EachEntryArrived = (w : WorldModel) → Headline w → (e : EntryModel) → IsIn w.history e
    → (c : Arrival) × IsEntryOf w e c × (e.part ≡ c.command.part) × (c.arrived < e.moment)

abbrev pub NoneIsExecutedTwice : Type 0
NoneIsExecutedTwice = (w : WorldModel) → Headline w → (ticket : Ticket) → HasOne w ticket
