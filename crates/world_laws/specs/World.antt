-- The core as a machine: its seventeen events, and which next state each has. An event is allowed where it has a next
-- state.
-- Redis Cluster specification for what nodes do: serving is node_model's (Serving.antt), and so are the steps of a move
-- (Moves.antt). A command's steps are command_future's (CommandModel.antt).
use Rattle.std.specs.Prelude.{◌≡◌, ◌≢◌, ◌⊎◌, ℕ, ◌+◌, ◌-◌, ◌%◌, ◌^◌, ◌<◌, ◌≤◌, ◌==◌, Bool, true, false, List, [], ◌∷◌, ◌++◌, length, map, take, Some, slice_get, slice_set, remove, count_by, All, position, IsTrue}
use Rattle.key_split.specs.PartModel.{PartModel, HasOneSlot}
use Rattle.key_split.specs.Same.{same_ticket}
use Rattle.resp_wire.specs.Seen.{data_of}
use Rattle.key_split.specs.declared.travel.Ticket.{Ticket}
use Rattle.key_split.specs.declared.travel.Told.{Told}
use Rattle.key_split.specs.declared.travel.Told.TheVariants.{Reply, Moved, Ask, TryAgain, ClusterDown, Unclear, Unsent}
use Rattle.key_split.specs.declared.travel.Ended.{Ended}
use Rattle.command_future.specs.CommandModel.{fresh, MayPostTo, asks_at}
use Rattle.command_future.specs.declared.stage.Stage.TheVariants.{Awaits, Over}
use Rattle.node_model.specs.History.{EntryModel}
use Rattle.node_model.specs.Nodes.{ClusterModel}
use Rattle.node_model.specs.Serving.{names_node}
use Rattle.node_model.specs.Moves.{MayImport, MayMigrate, MayMoveKey, MayOwn, MayRelease, MayForget, MayStay, import_done, migrate_done, move_key_done, own_done, release_done, forget_done, stay_done}
use Rattle.node_model.specs.declared.role.Verdict.{Verdict}
use Rattle.node_model.specs.declared.role.Verdict.TheVariants.{Plain}
use Rattle.node_model.specs.Runs.{deed_for, DoesRun}
use Rattle.world_laws.specs.State.{WorldModel, Arrival, Posted, Link, LinkRequest, LinkReply, HasEnded, slot_for, awaiting, after_told, new_link, sent, replied, all_replied, waiting, tickets_told, parts_told, tolds_of}
use Rattle.world_laws.specs.declared.state.LinkRequest.TheVariants.{Asking, Runs}
use Rattle.world_laws.specs.declared.state.LinkReply.TheVariants.{Welcome, To}
use Rattle.world_laws.specs.Places.{tally, asks}
use Rattle.world_laws.specs.declared.event.Event.{Event}
use Rattle.world_laws.specs.declared.event.Event.TheVariants.{Arrive, Post, Carry, Refuse, Serve, Fetch, Take, Drop, Discard, Import, Migrate, MoveKey, Own, Release, Forget, Stay, Answer}

-- the client's next ticket: its parts are numbered from 0, and its worker is its number modulo the workers
abbrev pub next_ticket : WorldModel → ℕ → Ticket
next_ticket w client = record { worker = client % w.workers; client = client; part = count_by (λ c. c.command.ticket.client == client) w.commands }

abbrev pub arrival : WorldModel → ℕ → PartModel → Arrival
arrival w client part = record { command = fresh (next_ticket w client) part; arrived = w.moment; answered = false }

-- x is the first that passes, at i
abbrev pub IsFirst : {X : Type 0} → (X → Bool) → List X → ℕ → X → Type 0
IsFirst p xs i x = (position p xs ≡ Some i) × (slice_get xs i ≡ Some x)

-- the command of a ticket
abbrev pub IsOf : Ticket → List Arrival → ℕ → Arrival → Type 0
IsOf ticket commands i c = IsFirst (λ (x : Arrival). same_ticket ticket x.command.ticket) commands i c

-- both are one client's, for one slot
abbrev pub SameTurn : Arrival → Arrival → Type 0
SameTurn c d = (d.command.ticket.client ≡ c.command.ticket.client) × (slot_for d.command.part ≡ slot_for c.command.part)

-- the ticket is one of these
abbrev pub IsAmong : List Ticket → Ticket → Type 0
IsAmong tickets ticket = (k : ℕ) × (slice_get tickets k ≡ Some ticket)

-- a run: its client, its slot, and whether it goes behind ASKING
pub record Way : Type 0 where
  pub client : ℕ
  pub slot : ℕ
  pub asking : Bool

-- the command may go this way to the node now
abbrev pub MayGo : Way → ℕ → Arrival → Type 0
MayGo way node c =
    (c.command.ticket.client ≡ way.client) × (slot_for c.command.part ≡ way.slot)
    × MayPostTo c.command.stage node × (asks_at c.command.stage ≡ way.asking)

-- the run's commands go out, each behind those before it: every earlier command of its turn has ended, or is one of
-- those
abbrev pub GoOut : Way → ℕ → List Ticket → List Ticket → List Arrival → List Arrival → Type 0
GoOut way node before [] commands commands' = commands' ≡ commands
GoOut way node before (t ∷ ts) commands commands' =
    (i : ℕ) × (c : Arrival) × IsOf t commands i c × MayGo way node c
    × All (λ d. SameTurn c d → HasEnded d ⊎ IsAmong before d.command.ticket) (take i commands)
    × GoOut way node (before ++ t ∷ []) ts (slice_set commands i (awaiting c)) commands'

-- a run is one command, or several of which none was refused yet; and no more than the limit
abbrev pub MayRun : WorldModel → List Ticket → Type 0
MayRun w tickets =
    (tickets ≢ []) × (length tickets ≤ w.run_limit)
    × ((length tickets ≡ 1) ⊎ All (λ c. IsAmong tickets c.command.ticket → c.command.followed ≡ 0) w.commands)

-- a run lies in the lane of its tickets' worker
abbrev pub starts_at : ℕ → List Ticket → Bool
starts_at lane [] = false
starts_at lane (t ∷ ts) = t.worker == lane

abbrev pub lies_in : ℕ → Posted → Bool
lies_in lane b = starts_at lane b.tickets

-- there is such a node
abbrev pub IsNode : ClusterModel → ℕ → Type 0
IsNode k node = node < length k.stores

-- a verdict of MOVED names one
abbrev pub NamesNode : ClusterModel → Verdict → Type 0
NamesNode k verdict = IsTrue (names_node verdict (length k.stores))

-- Links.

-- the run goes over an open link to its node, or over a new one
abbrev pub CarriesOver : WorldModel → ℕ → Posted → List Link → Type 0
CarriesOver w link b links =
    ((l : Link) × (slice_get w.links link ≡ Some l) × (l.is_open ≡ true) × (l.node ≡ b.node) × (links ≡ slice_set w.links link (sent l b)))
    ⊎ ((link ≡ length w.links) × (links ≡ w.links ++ sent (new_link b.node) b ∷ []))

-- the entry of a command that was told this: what a node replied to, it executed, now
abbrev pub entry_of : ℕ → Arrival → Told → List EntryModel
entry_of moment c (Reply value) = record { ticket = c.command.ticket; part = c.command.part; reply = data_of value; moment = moment } ∷ []
entry_of moment c (Moved slot node) = []
entry_of moment c (Ask slot node) = []
entry_of moment c TryAgain = []
entry_of moment c ClusterDown = []
entry_of moment c Unclear = []
entry_of moment c Told.Lost = []
entry_of moment c Unsent = []

-- the entries of a run, in its order
abbrev pub entries_of : ℕ → List (Arrival × Told) → List EntryModel
entries_of moment [] = []
entries_of moment (p ∷ ps) = entry_of moment p.0 p.1 ++ entries_of moment ps

-- the commands of a run stand among these
abbrev pub AreOf : List (Arrival × Told) → List Arrival → Type 0
AreOf [] commands = Unit {0}
AreOf (p ∷ ps) commands = ((i : ℕ) × IsOf p.0.command.ticket commands i p.0) × AreOf ps commands

-- ASKING is served: the flag is set, and the reply is `+OK`
abbrev pub ServesAsking : WorldModel → ℕ → Link → Verdict → WorldModel → Type 0
ServesAsking w link l verdict w' =
    (rest : List LinkRequest) × (l.requests ≡ Asking ∷ rest) × (verdict ≡ Plain)
    × (w' ≡ record w { links = slice_set w.links link (replied (record l { requests = rest; asking = true }) Welcome) })

-- a run is served by this node, all of it or none: the flag is read and cleared, and each command is told something
abbrev pub ServesRunAt : WorldModel → ℕ → ℕ → Link → Verdict → WorldModel → Type 0
ServesRunAt w node link l verdict w' =
    (rest : List LinkRequest) × (run : List (Arrival × Told)) × (k : ClusterModel)
    × (l.requests ≡ Runs (tickets_told run) ∷ rest) × AreOf run w.commands × NamesNode w.cluster verdict
    × DoesRun (deed_for w.cluster node l.asking (parts_told run) verdict) w.cluster node (parts_told run) (tolds_of run) k
    × (w' ≡ record w { cluster = k; links = slice_set w.links link (all_replied (record l { requests = rest; asking = false }) run); history = w.history ++ entries_of w.moment run })

-- by the node of the link
abbrev pub ServesRun : WorldModel → ℕ → Link → Verdict → WorldModel → Type 0
ServesRun w link l verdict w' = ServesRunAt w l.node link l verdict w'

-- the reply of ASKING is dropped
abbrev pub FetchesWelcome : WorldModel → ℕ → Link → WorldModel → Type 0
FetchesWelcome w link l w' =
    (rest : List LinkReply) × (l.backs ≡ Welcome ∷ rest) × (w' ≡ record w { links = slice_set w.links link (record l { backs = rest }) })

-- any other goes to its worker
abbrev pub FetchesReply : WorldModel → ℕ → Link → WorldModel → Type 0
FetchesReply w link l w' =
    (rest : List LinkReply) × (ticket : Ticket) × (told : Told) × (l.backs ≡ To ticket told ∷ rest)
    × (w' ≡ record w { links = slice_set w.links link (record l { backs = rest }); downs = w.downs ++ (ticket, told) ∷ [] })

-- no command for the slot that ASK sent to the node is on its way
abbrev pub NoneAsks : WorldModel → ℕ → ℕ → Type 0
NoneAsks w slot node = All (λ c. slot_for c.command.part ≡ slot → tally (asks node c.command.ticket) w ≡ 0) w.commands

-- the nodes step, and nothing else changes
abbrev pub with_nodes : WorldModel → ClusterModel → WorldModel
with_nodes w k = record w { cluster = k }

-- What may happen, and the state after it. The moment counts this event already.
abbrev pub WorldDoes : WorldModel → Event → WorldModel → Type 0
WorldDoes w (Arrive client part) w' = HasOneSlot part × (w' ≡ record w { commands = w.commands ++ arrival w client part ∷ [] })
WorldDoes w (Post tickets node) w' =
    (way : Way) × (commands : List Arrival) × MayRun w tickets × IsNode w.cluster node × GoOut way node [] tickets w.commands commands
    × (w' ≡ record w { commands = commands; ups = w.ups ++ record { tickets = tickets; node = node; asking = way.asking } ∷ [] })
WorldDoes w (Carry lane link) w' =
    (i : ℕ) × (b : Posted) × (links : List Link) × IsFirst (lies_in lane) w.ups i b × CarriesOver w link b links
    × (w' ≡ record w { ups = remove w.ups i; links = links })
WorldDoes w (Refuse lane) w' =
    (i : ℕ) × (b : Posted) × IsFirst (lies_in lane) w.ups i b
    × (w' ≡ record w { ups = remove w.ups i; downs = w.downs ++ map (λ t. (t, Unsent)) b.tickets })
WorldDoes w (Serve link verdict) w' =
    (l : Link) × (slice_get w.links link ≡ Some l) × (ServesAsking w link l verdict w' ⊎ ServesRun w link l verdict w')
WorldDoes w (Fetch link) w' =
    (l : Link) × (slice_get w.links link ≡ Some l) × (l.is_open ≡ true) × (FetchesWelcome w link l w' ⊎ FetchesReply w link l w')
WorldDoes w (Take lane) w' =
    (i : ℕ) × (j : ℕ) × (c : Arrival) × (told : Told)
    × IsFirst (λ (x : Ticket × Told). x.0.worker == lane) w.downs i (c.command.ticket, told)
    × IsOf c.command.ticket w.commands j c × (c.command.stage ≡ Awaits)
    × (w' ≡ record w { downs = remove w.downs i; commands = slice_set w.commands j (after_told c told) })
WorldDoes w (Drop link) w' =
    (l : Link) × (slice_get w.links link ≡ Some l) × (l.is_open ≡ true)
    × (w' ≡ record w { links = slice_set w.links link (record l { is_open = false; backs = [] }); downs = w.downs ++ map (λ t. (t, Told.Lost)) (waiting l) })
WorldDoes w (Discard link) w' =
    (l : Link) × (slice_get w.links link ≡ Some l) × (l.is_open ≡ false) × (l.requests ≢ [])
    × (w' ≡ record w { links = slice_set w.links link (record l { requests = [] }) })
WorldDoes w (Import slot target) w' = NoneAsks w slot target × MayImport w.cluster slot target × (w' ≡ with_nodes w (import_done w.cluster slot target))
WorldDoes w (Migrate slot) w' = MayMigrate w.cluster slot × (w' ≡ with_nodes w (migrate_done w.cluster slot))
WorldDoes w (MoveKey slot key) w' = MayMoveKey w.cluster slot key × (w' ≡ with_nodes w (move_key_done w.cluster slot key))
WorldDoes w (Own slot) w' = MayOwn w.cluster slot × (w' ≡ with_nodes w (own_done w.cluster slot))
WorldDoes w (Release slot) w' = MayRelease w.cluster slot × (w' ≡ with_nodes w (release_done w.cluster slot))
WorldDoes w (Forget slot) w' = MayForget w.cluster slot × (w' ≡ with_nodes w (forget_done w.cluster slot))
WorldDoes w (Stay slot) w' = MayStay w.cluster slot × (w' ≡ with_nodes w (stay_done w.cluster slot))
WorldDoes w (Answer client) w' =
    (i : ℕ) × (c : Arrival) × (ended : Ended)
    × (slice_get w.commands i ≡ Some c) × (c.command.ticket.client ≡ client) × (c.answered ≡ false) × (c.command.stage ≡ Over ended)
    × All (λ d. d.command.ticket.client ≡ client → d.answered ≡ true) (take i w.commands)
    × (w' ≡ record w { commands = slice_set w.commands i (record c { answered = true }); answers = w.answers ++ record { ticket = c.command.ticket; ended = ended; arrived = c.arrived; answered = w.moment } ∷ [] })

abbrev pub last_moment : ℕ
last_moment = 2 ^ 64 - 1

-- from w, this event may happen and leaves w'
abbrev pub WorldStep : WorldModel → Event → WorldModel → Type 0
WorldStep w e w' = (w.moment < last_moment) × WorldDoes (record w { moment = w.moment + 1 }) e w'

-- a whole schedule
abbrev pub WorldRun : WorldModel → List Event → WorldModel → Type 0
WorldRun w [] w' = w' ≡ w
WorldRun w (e ∷ es) w' = (mid : WorldModel) × WorldStep w e mid × WorldRun mid es w'
