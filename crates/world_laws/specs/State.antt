-- The core's state: commands, lanes, links, nodes, history and answers.
-- Lanes and requests carry tickets; a part stands with its command alone. All lanes are one list: a worker's lane is
-- those of its tickets, in order.
use Rattle.std.specs.Prelude.{◌≡◌, ℕ, Bool, true, false, if◌then◌else◌, List, [], ◌∷◌, ◌++◌, map}
use Rattle.std.specs.FinMap.{empty}
use Rattle.slot_hash.specs.Slot.{slot_of}
use Rattle.key_split.specs.PartModel.{PartModel}
use Rattle.key_split.specs.declared.travel.Ticket.{Ticket}
use Rattle.key_split.specs.declared.travel.Told.{Told}
use Rattle.key_split.specs.declared.travel.Ended.{Ended}
use Rattle.command_future.specs.CommandModel.{progress_told}
use Rattle.command_future.specs.declared.stage.Stage.TheVariants.{Awaits, Over}
use Rattle.node_model.specs.Nodes.{ClusterModel}
use Rattle.node_model.specs.Store.{StoreModel}
use Rattle.node_model.specs.History.{EntryModel}
use Rattle.world_laws.specs.declared.history.Answer.{Answer}
pub use Rattle.world_laws.specs.declared.state.Arrival.{Arrival}
pub use Rattle.world_laws.specs.declared.state.Posted.{Posted}
pub use Rattle.world_laws.specs.declared.state.LinkRequest.{LinkRequest}
pub use Rattle.world_laws.specs.declared.state.LinkRequest.TheVariants.{Asking, Runs}
pub use Rattle.world_laws.specs.declared.state.LinkReply.{LinkReply}
pub use Rattle.world_laws.specs.declared.state.LinkReply.TheVariants.{Welcome, To}

-- the slot of a command: that of its first key
abbrev pub slot_for : PartModel → ℕ
slot_for part = slot_of part.key

-- the command was posted
abbrev pub awaiting : Arrival → Arrival
awaiting c = record c { command = record (c.command) { stage = Awaits } }

-- the command was told this
abbrev pub after_told : Arrival → Told → Arrival
after_told c told = record c { command = progress_told c.command told }

abbrev pub HasEnded : Arrival → Type 0
HasEnded c = (ended : Ended) × (c.command.stage ≡ Over ended)

-- the commands of a run that were told something: their tickets, their parts, and what they were told
abbrev pub tickets_told : List (Arrival × Told) → List Ticket
tickets_told run = map (λ p. p.0.command.ticket) run

abbrev pub parts_told : List (Arrival × Told) → List PartModel
parts_told run = map (λ p. p.0.command.part) run

abbrev pub tolds_of : List (Arrival × Told) → List Told
tolds_of run = map (λ p. p.1) run

-- a link: its requests not yet taken, its replies not yet fetched, and the flag that ASKING sets
pub record Link : Type 0 where
  pub node : ℕ
  pub is_open : Bool
  pub requests : List LinkRequest
  pub backs : List LinkReply
  pub asking : Bool

abbrev pub new_link : ℕ → Link
new_link node = record { node = node; is_open = true; requests = []; backs = []; asking = false }

-- ASKING, where the run asks, and then the run
abbrev pub requests_of : Posted → List LinkRequest
requests_of b = if b.asking then Asking ∷ Runs b.tickets ∷ [] else Runs b.tickets ∷ []

abbrev pub sent : Link → Posted → Link
sent l b = record l { requests = l.requests ++ requests_of b }

-- an open link keeps the reply, a closed one throws it away
abbrev pub replied : Link → LinkReply → Link
replied l back = if l.is_open then record l { backs = l.backs ++ back ∷ [] } else l

-- the replies of a run: each command's is fetched by itself
abbrev pub replies_of : List (Arrival × Told) → List LinkReply
replies_of run = map (λ p. To p.0.command.ticket p.1) run

abbrev pub all_replied : Link → List (Arrival × Told) → Link
all_replied l run = if l.is_open then record l { backs = l.backs ++ replies_of run } else l

-- whose replies and requests still stand in a link, in order of sending
abbrev pub answered_of : List LinkReply → List Ticket
answered_of [] = []
answered_of (Welcome ∷ bs) = answered_of bs
answered_of (To ticket told ∷ bs) = ticket ∷ answered_of bs

abbrev pub sent_of : List LinkRequest → List Ticket
sent_of [] = []
sent_of (Asking ∷ rs) = sent_of rs
sent_of (Runs tickets ∷ rs) = tickets ++ sent_of rs

abbrev pub waiting : Link → List Ticket
waiting l = answered_of l.backs ++ sent_of l.requests

pub record WorldModel : Type 0 where
  pub workers : ℕ
  -- how many commands a run has at most
  pub run_limit : ℕ
  pub cluster : ClusterModel
  -- what the nodes held together at the start
  pub initial : StoreModel
  -- in order of arrival
  pub commands : List Arrival
  -- posted, not yet carried; a worker's up list is those of its tickets
  pub ups : List Posted
  -- by their numbers
  pub links : List Link
  -- not yet taken; a worker's down list is those of its tickets
  pub downs : List (Ticket × Told)
  pub history : List EntryModel
  pub answers : List Answer
  -- how many events there were
  pub moment : ℕ

-- nothing has happened yet, before nodes that hold this store
abbrev pub start_from : ℕ → ℕ → StoreModel → ClusterModel → WorldModel
start_from workers run_limit initial cluster =
    record {
      workers = workers;
      run_limit = run_limit;
      cluster = cluster;
      initial = initial;
      commands = [];
      ups = [];
      links = [];
      downs = [];
      history = [];
      answers = [];
      moment = 0;
    }

-- the same before nodes that hold nothing
abbrev pub start : ℕ → ℕ → ClusterModel → WorldModel
start workers run_limit cluster = start_from workers run_limit empty cluster
