-- Which world of the machine a system stands for. The core runs ahead: what is on its way down to a worker was told there already.
use Rattle.std.specs.Prelude.{◌≡◌, ◌≢◌, ◌⊎◌, ◌<◌, ◌≤◌, ◌+◌, ◌-◌, ◌%◌, ◌==◌, ℕ, suc, List, [], ◌∷◌, ◌++◌, Bool, true, false, Option, Some, None, IsSome, All, length, map, filter, slice_get, count_by}
use Rattle.std.specs.List.{flat_map}
use Rattle.std.specs.FinMap.{get}
use mathlib.Core.List.{IsPrefix}
use Rattle.resp_wire.specs.declared.value.Value.{Value}
use Rattle.key_split.specs.PartModel.{PartModel}
use Rattle.key_split.specs.Runs.{RunModel, IsTogether, batches_in}
use Rattle.key_split.specs.declared.travel.Batch.{Batch}
use Rattle.key_split.specs.declared.travel.Ticket.{Ticket}
use Rattle.key_split.specs.declared.travel.Told.{Told}
use Rattle.key_split.specs.declared.travel.Ended.{Ended}
use Rattle.command_future.specs.CommandModel.{CommandModel, fresh as new_command, progress_told}
use Rattle.command_future.specs.declared.stage.Stage.TheVariants.{WantsAsking, Awaits, Over}
use Rattle.slot_map.specs.Table.{Endpoint}
use Rattle.node_link.specs.LinkModel.{LinkModel}
use Rattle.node_link.specs.declared.link.Due.{Due}
use Rattle.node_link.specs.declared.link.Due.TheVariants as due
use Rattle.session_order.specs.SessionModel.{SessionModel}
use Rattle.session_order.specs.Replies.{parts_of}
use Rattle.session_order.specs.Steps.{IsHandedOut}
use Rattle.session_order.specs.declared.closing.Closing.TheVariants.{Quit}
use Rattle.session_order.specs.declared.queue.PartStage.{PartStage}
use Rattle.session_order.specs.declared.queue.PartStage.TheVariants.{Waiting, Out, Done}
use Rattle.proxy_lanes.specs.declared.ends.lane_ends.LaneEnds.{LaneEnds}
use Rattle.proxy_turns.specs.declared.newcomer.Newcomer.{Newcomer}
use Rattle.proxy_turns.specs.declared.pending_run.PendingRun.{PendingRun}
use Rattle.proxy_turns.specs.declared.backend.Backend.{Backend}
use Rattle.proxy_turns.specs.Commands.{CommandsModel, most_together}
use Rattle.proxy_turns.specs.ClientModel.{ClientModel}
use Rattle.proxy_turns.specs.WorkerModel.{WorkerModel, IsAbove}
use Rattle.proxy_turns.specs.CarrierModel.{CarrierModel}
use Rattle.world_laws.specs.State.{WorldModel, Link, HasEnded, slot_for}
use Rattle.world_laws.specs.declared.state.Arrival.{Arrival}
use Rattle.world_laws.specs.declared.state.Posted.{Posted}
use Rattle.world_laws.specs.declared.state.LinkRequest.{LinkRequest}
use Rattle.world_laws.specs.declared.state.LinkRequest.TheVariants as asked
use Rattle.world_laws.specs.declared.state.LinkReply.{LinkReply}
use Rattle.world_laws.specs.declared.state.LinkReply.TheVariants.{Welcome, To}
use Rattle.world_laws.specs.declared.history.Answer.{Answer}
use Rattle.node_model.specs.History.{EntryModel}
use Rattle.resp_wire.specs.Seen.{data_of}
use Rattle.world_laws.specs.World.{SameTurn, lies_in}
use Rattle.world_laws.specs.Places.{total, is}
use Rattle.turn_laws.specs.Wire.{Wire, Item, Part, Asks, Runs, Lists, tickets_for, heard_in, Execution}
use Rattle.turn_laws.specs.System.{System, Mark, Arrived, Executed, Answered, IsInStep, seat_of}
use Rattle.turn_laws.specs.Endpoints.{AreApart, most_nodes}
use Rattle.turn_laws.specs.Underway.{IsWorking, coming, ups_in, down_in, downs_of, DownInStep, Holds}

-- ---- links

-- the machine's requests: CLUSTER SLOTS is none
abbrev pub requests_in : List Item → List LinkRequest
requests_in [] = []
requests_in (Asks ∷ items) = asked.Asking ∷ requests_in items
requests_in (Runs parts ∷ items) = asked.Runs (tickets_for parts) ∷ requests_in items
requests_in (Lists ∷ items) = requests_in items

-- who waits for what a node says
abbrev pub dues_of : Item → List Due
dues_of Asks = due.Asking ∷ []
dues_of (Runs parts) = map (λ (part : Part). due.Command part.0) parts
dues_of Lists = due.Slots ∷ []

abbrev pub dues_in : List Item → List Due
dues_in items = flat_map dues_of items

-- what the machine hears in values, for those who wait for them
abbrev pub back_of : List Endpoint → ℕ → Due → Value → List LinkReply
back_of table node due.Asking value = Welcome ∷ []
back_of table node (due.Command ticket) value = To ticket (heard_in value node table).0 ∷ []
back_of table node due.Slots value = []

abbrev pub backs_in : List Endpoint → ℕ → List Due → List Value → List LinkReply
backs_in table node [] values = []
backs_in table node (d ∷ ds) [] = []
backs_in table node (d ∷ ds) (value ∷ values) = back_of table node d value ++ backs_in table node ds values

-- the part of a ticket is that of its command
abbrev pub HasPart : List Arrival → Ticket → PartModel → Type 0
HasPart commands ticket part = (j : ℕ) × (c : Arrival) × (slice_get commands j ≡ Some c) × (c.command.part ≡ part) × (c.command.ticket ≡ ticket)

-- and so is each of a run
abbrev pub IsKnown : List Arrival → Item → Type 0
IsKnown commands Asks = Unit {0}
IsKnown commands (Runs parts) = All (λ (part : Part). HasPart commands part.0 part.1) parts
IsKnown commands Lists = Unit {0}

-- an open link of the machine stands for a connection that works
pub record OpenShadow (table : List Endpoint) (commands : List Arrival) (link : LinkModel Wire) (l : Link) : Type 0 where
  pub node : l.node ≡ link.node
  pub wired : link.port.node ≡ link.node
  pub is_open : l.is_open ≡ true
  pub asking : l.asking ≡ link.port.asking
  pub requests : l.requests ≡ requests_in link.port.items
  pub known : All (IsKnown commands) link.port.items
  -- who waits: first those whose values came, then those whose requests were not served
  pub answered : List Due
  pub due : link.due ≡ answered ++ dues_in link.port.items
  pub matched : length answered ≡ length (coming link)
  pub backs : l.backs ≡ backs_in table link.node answered (coming link)

-- A closed one for a wire whose requests may still be served: these are the first of its requests, since a send that failed may
-- have written nothing.
pub record ClosedShadow (commands : List Arrival) (wire : Wire) (l : Link) : Type 0 where
  pub node : l.node ≡ wire.node
  pub is_open : l.is_open ≡ false
  pub asking : l.asking ≡ wire.asking
  pub requests : IsPrefix (requests_in wire.items) l.requests
  pub known : All (IsKnown commands) wire.items
  pub backs : l.backs ≡ []

-- no run went over it: the machine has no link for it
pub record IsIdle (link : LinkModel Wire) : Type 0 where
  pub wired : link.port.node ≡ link.node
  pub none : All (λ d. d ≡ due.Slots) link.due
  pub asking : link.port.asking ≡ false
  pub requests : requests_in link.port.items ≡ []
  pub answered : List Due
  pub due : link.due ≡ answered ++ dues_in link.port.items
  pub matched : length answered ≡ length (coming link)

-- The number of a connection in the machine: its place among those over which a run went, in that order.
abbrev pub Numbers : List ℕ → ℕ → ℕ → Type 0
Numbers ids id i = slice_get ids i ≡ Some id

abbrev pub IsUnnumbered : List ℕ → ℕ → Type 0
IsUnnumbered ids id = (i : ℕ) → slice_get ids i ≡ Some id → ⊥

-- each connection that works is that link, or idle
abbrev pub BackendShadow : List Endpoint → WorldModel → List ℕ → LinkModel Wire → Type 0
BackendShadow table w ids link =
    ((i : ℕ) × (l : Link) × Numbers ids link.port.id i × (slice_get w.links i ≡ Some l) × OpenShadow table w.commands link l)
    ⊎ (IsUnnumbered ids link.port.id × IsIdle link)

abbrev pub WireShadow : WorldModel → List ℕ → Wire → Type 0
WireShadow w ids wire =
    ((i : ℕ) × (l : Link) × Numbers ids wire.id i × (slice_get w.links i ≡ Some l) × ClosedShadow w.commands wire l)
    ⊎ (IsUnnumbered ids wire.id × (requests_in wire.items ≡ []))

-- the connection of this number works, or is one of the broken
abbrev pub SeenIn : {H : Type 0} → CarrierModel H Wire → List Wire → ℕ → Type 0
SeenIn carrier closed id =
    ((k : ℕ) × (link : LinkModel Wire) × IsWorking carrier k link × (link.port.id ≡ id))
    ⊎ ((j : ℕ) × (wire : Wire) × (slice_get closed j ≡ Some wire) × (wire.id ≡ id))

pub record LinksShadow {H : Type 0} (nodes : List Endpoint) (carrier : CarrierModel H Wire) (closed : List Wire) (opened : ℕ) (w : WorldModel) : Type 0 where
  pub ids : List ℕ
  pub all : length ids ≡ length w.links
  pub below : (i id : ℕ) → slice_get ids i ≡ Some id → id < opened
  pub once : (i j id : ℕ) → slice_get ids i ≡ Some id → slice_get ids j ≡ Some id → i ≡ j
  pub backends : (k : ℕ) (link : LinkModel Wire) → IsWorking carrier k link → (link.node ≡ k) × (link.port.id < opened) × BackendShadow nodes w ids link
  pub wires : (j : ℕ) (wire : Wire) → slice_get closed j ≡ Some wire → (wire.id < opened) × WireShadow w ids wire
  -- each link is that of a connection
  pub seen : (i id : ℕ) → slice_get ids i ≡ Some id → SeenIn carrier closed id
  -- no two connections have one number
  pub apart : (k m : ℕ) (a b : LinkModel Wire) → IsWorking carrier k a → IsWorking carrier m b → a.port.id ≡ b.port.id → k ≡ m
  pub aside : (k j : ℕ) (a : LinkModel Wire) (wire : Wire) → IsWorking carrier k a → slice_get closed j ≡ Some wire → a.port.id ≢ wire.id
  pub each : (i j : ℕ) (a b : Wire) → slice_get closed i ≡ Some a → slice_get closed j ≡ Some b → a.id ≡ b.id → i ≡ j

-- ---- lanes

-- the tickets of a run
abbrev pub tickets_in : RunModel → List Ticket
tickets_in run = map (λ (batch : Batch). batch.ticket) (batches_in run)

-- a run, as it lies in the machine's lane
abbrev pub lying : RunModel → Posted
lying run = record { tickets = tickets_in run; node = run.first.node; asking = run.first.asking }

-- this worker's command, on its way to a node
abbrev pub IsUnderWay : List Arrival → ℕ → Batch → Type 0
IsUnderWay commands k batch = HasPart commands batch.ticket batch.part × (batch.ticket.worker ≡ k)

-- this worker's commands that go together
abbrev pub RunShadow : List Arrival → ℕ → RunModel → Type 0
RunShadow commands k run = IsTogether run × All (IsUnderWay commands k) (batches_in run)

abbrev pub lane_of : ℕ → WorldModel → List Posted
lane_of k w = filter (lies_in k) w.ups

-- these runs lie in the machine's lane of this worker
abbrev pub ListShadow : WorldModel → ℕ → List RunModel → Type 0
ListShadow w k runs = (lane_of k w ≡ map lying runs) × All (RunShadow w.commands k) runs

abbrev pub LaneShadow : {C J : Type 0} → WorldModel → ℕ → WorkerModel C J → LaneEnds (Newcomer C J) → Option PendingRun → Type 0
LaneShadow w k model lane pending_run = ListShadow w k (ups_in model lane pending_run)

abbrev pub UpsShadow : {C J : Type 0} → List (WorkerModel C J) → CarrierModel (Newcomer C J) Wire → WorldModel → Type 0
UpsShadow {C} {J} workers carrier w =
    (k : ℕ) (model : WorkerModel C J) (lane : LaneEnds (Newcomer C J)) → slice_get workers k ≡ Some model → slice_get carrier.lanes k ≡ Some lane
    → LaneShadow w k model lane (slice_get carrier.pending_runs k)

-- ---- commands

-- a command, told already what is on its way down to it
abbrev pub ToldFrom : List (Ticket × Told) → CommandModel → CommandModel → Type 0
ToldFrom downs d c =
    ((c ≡ d) × (total (λ (p : Ticket × Told). is d.ticket p.0) downs ≡ 0))
    ⊎ ((told : Told) × (i : ℕ) × (slice_get downs i ≡ Some (d.ticket, told)) × (c ≡ progress_told d told))

-- it was not posted yet
abbrev pub IsAtFirst : CommandsModel → CommandModel → Type 0
IsAtFirst commands c = (i : ℕ) × (slice_get commands.fresh i ≡ Some c)

-- the command of this number that a client has, posted or not
abbrev pub HasCommand : CommandsModel → ℕ → CommandModel → Type 0
HasCommand commands number c = (IsAtFirst commands c × (c.ticket.part ≡ number)) ⊎ (get commands.posted number ≡ Some c)

-- each command is of a part that was handed out, and no two are of one part; those that were not posted are as they began
pub record CommandsShadow (session : SessionModel) (commands : CommandsModel) : Type 0 where
  pub posted : (number : ℕ) (c : CommandModel) → get commands.posted number ≡ Some c → (c.ticket.part ≡ number) × IsHandedOut session c.ticket
  pub fresh : (c : CommandModel) → IsAtFirst commands c → IsHandedOut session c.ticket × (c ≡ new_command c.ticket c.part) × (get commands.posted c.ticket.part ≡ None)
  pub apart : (i j : ℕ) (c d : CommandModel) → slice_get commands.fresh i ≡ Some c → slice_get commands.fresh j ≡ Some d → c.ticket.part ≡ d.ticket.part → i ≡ j

-- a part that was read and not drained
abbrev pub StageShadow : List (Ticket × Told) → Bool → CommandsModel → PartStage → Ended → Arrival → Type 0
-- it was not handed out
StageShadow downs gone commands (Waiting part) end c = c.command ≡ new_command c.command.ticket part
-- its command is on its way, or was dropped with its client before it was posted
StageShadow downs gone commands (Out slot) end c =
    (slot ≡ slot_for c.command.part)
    × (((d : CommandModel) × HasCommand commands c.command.ticket.part d × ToldFrom downs d c.command)
    ⊎ ((gone ≡ true) × (c.command ≡ new_command c.command.ticket c.command.part) × (get commands.posted c.command.ticket.part ≡ None)))
-- it has ended, and its end stands in the session
StageShadow downs gone commands Done end c = c.command.stage ≡ Over end

-- the command of one part that the session holds, or that was drained
abbrev pub KeptShadow : {C : Type 0} → List (Ticket × Told) → ClientModel C → Arrival → Type 0
KeptShadow downs client c =
    ((c.command.ticket.part < client.session.first) × (c.answered ≡ true) × ((ended : Ended) × (c.command.stage ≡ Over ended)))
    ⊎ ((client.session.first ≤ c.command.ticket.part) × (c.answered ≡ false) × ((stage : PartStage) × (end : Ended)
    × (slice_get client.session.stages (c.command.ticket.part - client.session.first) ≡ Some stage)
    × (slice_get client.session.ends (c.command.ticket.part - client.session.first) ≡ Some end)
    × StageShadow downs client.gone client.commands stage end c))

-- the client is gone, and of this part nothing is awaited
abbrev pub IsLetGo : {C : Type 0} → ClientModel C → Ticket → Type 0
IsLetGo client ticket = (client.gone ≡ true) × (IsHandedOut client.session ticket → ⊥)

-- the command of one part of a client
abbrev pub PartShadow : {C : Type 0} → List (Ticket × Told) → ClientModel C → Arrival → Type 0
PartShadow downs client c = KeptShadow downs client c ⊎ IsLetGo client c.command.ticket

-- a command of this ticket stands there
abbrev pub StandsAt : List Arrival → Ticket → Type 0
StandsAt arrivals ticket = (j : ℕ) × (c : Arrival) × (slice_get arrivals j ≡ Some c) × (c.command.ticket ≡ ticket)

-- all earlier commands of its client for its slot have ended, or are awaited as it is
abbrev pub IsInOrder : SessionModel → List Arrival → Ticket → Type 0
IsInOrder session arrivals ticket =
    (i j : ℕ) (c d : Arrival) → slice_get arrivals i ≡ Some c → slice_get arrivals j ≡ Some d → j < i → c.command.ticket ≡ ticket → SameTurn c d
    → HasEnded d ⊎ IsHandedOut session d.command.ticket

-- the ticket of a session's part
abbrev pub ticket_at : SessionModel → ℕ → Ticket
ticket_at session number = record { worker = session.worker; client = session.client; part = number }

pub record ClientShadow {C : Type 0} (downs : List (Ticket × Told)) (worker number : ℕ) (client : ClientModel C) (arrivals : List Arrival) : Type 0 where
  pub numbered : client.session.client ≡ number
  pub housed : client.session.worker ≡ worker
  -- the machine's commands of a client that is there are the parts that were read,
  pub all : client.gone ≡ false → count_by (λ (c : Arrival). c.command.ticket.client == number) arrivals ≡ client.session.first + length client.session.stages
  pub read : client.gone ≡ false → (part : ℕ) → part < client.session.first + length client.session.stages → StandsAt arrivals (ticket_at client.session part)
  -- each that is awaited stands there, in order,
  pub stands : (ticket : Ticket) → IsHandedOut client.session ticket → StandsAt arrivals ticket × IsInOrder client.session arrivals ticket
  -- each has this worker,
  pub homes : (j : ℕ) (c : Arrival) → slice_get arrivals j ≡ Some c → c.command.ticket.client ≡ number → c.command.ticket.worker ≡ worker
  -- and is as far as the session and the commands say
  pub parts : (j : ℕ) (c : Arrival) → slice_get arrivals j ≡ Some c → c.command.ticket.client ≡ number → PartShadow downs client c
  pub commands : CommandsShadow client.session client.commands
  -- the requests' parts are those that were not drained
  pub owed : parts_of client.session.requests ≡ length client.session.stages
  pub ends : length client.session.ends ≡ length client.session.stages
  -- of a client that is gone nothing is read
  pub quit : client.gone ≡ true → client.session.closing ≡ Quit

-- ---- what can be seen

-- the entry of a command that was executed at this moment
abbrev pub entry_at : ℕ → Execution → EntryModel
entry_at moment one = record { ticket = one.ticket; part = one.part; reply = data_of one.value; moment = moment }

-- the marks of each kind, each with the moment that the clock gives its place
module _ (clock : ℕ → ℕ) where
  abbrev pub arrived_in : ℕ → List Mark → List (Ticket × PartModel × ℕ)
  arrived_in n [] = []
  arrived_in n (Arrived ticket part ∷ marks) = (ticket, part, clock n) ∷ arrived_in (suc n) marks
  arrived_in n (Executed done ∷ marks) = arrived_in (suc n) marks
  arrived_in n (Answered ticket ended ∷ marks) = arrived_in (suc n) marks

  -- what was executed at once has one moment
  abbrev pub executed_in : ℕ → List Mark → List EntryModel
  executed_in n [] = []
  executed_in n (Arrived ticket part ∷ marks) = executed_in (suc n) marks
  executed_in n (Executed done ∷ marks) = map (entry_at (clock n)) done ++ executed_in (suc n) marks
  executed_in n (Answered ticket ended ∷ marks) = executed_in (suc n) marks

  abbrev pub answered_in : ℕ → List Mark → List (Ticket × Ended × ℕ)
  answered_in n [] = []
  answered_in n (Arrived ticket part ∷ marks) = answered_in (suc n) marks
  answered_in n (Executed done ∷ marks) = answered_in (suc n) marks
  answered_in n (Answered ticket ended ∷ marks) = (ticket, ended, clock n) ∷ answered_in (suc n) marks

-- The log and the machine tell one story: a clock that rises gives each mark the moment of its event.
pub record LogShadow (log : List Mark) (w : WorldModel) : Type 0 where
  pub clock : ℕ → ℕ
  pub rises : (i j : ℕ) → i < j → j < length log → clock i < clock j
  pub past : (i : ℕ) → i < length log → clock i ≤ w.moment
  pub arrived : arrived_in clock 0 log ≡ map (λ (c : Arrival). (c.command.ticket, c.command.part, c.arrived)) w.commands
  pub executed : executed_in clock 0 log ≡ w.history
  pub answered : answered_in clock 0 log ≡ map (λ (a : Answer). (a.ticket, a.ended, a.answered)) w.answers

-- ---- the whole

-- the table lists the node of each link
abbrev pub AreListed : {H P : Type 0} → CarrierModel H P → Type 0
AreListed {H} {P} carrier = (k : ℕ) (backend : Backend P) (link : LinkModel P) → slice_get carrier.backends k ≡ Some backend → backend.link ≡ Some link → k < length carrier.nodes

-- a run that is pending came from a lane that there is
abbrev pub AreSeated : {H P : Type 0} → CarrierModel H P → Type 0
AreSeated carrier = (k : ℕ) (pending_run : PendingRun) (run : RunModel) → slice_get carrier.pending_runs k ≡ Some pending_run → pending_run.run ≡ Some run → k < length carrier.lanes

pub record IsShadow {C J : Type 0} (s : System C J) (w : WorldModel) : Type 0 where
  pub workers : length s.workers ≡ w.workers
  -- the machine's runs may be as long as those that workers post
  pub limit : most_together ≤ w.run_limit
  pub cluster : w.cluster ≡ s.cluster
  pub initial : w.initial ≡ s.initial
  pub apart : AreApart s.nodes
  -- The carrier's table has room for each node of the cluster, or a redirect would be unclear to it and clear to the machine. It lists
  -- the first of them, and the node of each link.
  pub room : length s.nodes ≤ most_nodes
  pub table : IsPrefix s.carrier.nodes s.nodes
  pub listed : AreListed s.carrier
  pub numbered : (k : ℕ) (model : WorkerModel C J) → slice_get s.workers k ≡ Some model → seat_of model ≡ (k, w.workers)
  -- each worker has its lanes, of which nothing is taken that was not posted
  pub sides : length s.workers ≡ length s.carrier.lanes
  pub up_steps : (k : ℕ) (model : WorkerModel C J) (lane : LaneEnds (Newcomer C J)) → slice_get s.workers k ≡ Some model → slice_get s.carrier.lanes k ≡ Some lane → IsInStep model.outlet lane.up
  pub down_steps : (k : ℕ) (model : WorkerModel C J) (lane : LaneEnds (Newcomer C J)) → slice_get s.workers k ≡ Some model → slice_get s.carrier.lanes k ≡ Some lane → DownInStep lane model
  -- no lane to a worker is finished: no event of the carrier's turn does that, and that lanes are finished at the end is no event here yet
  pub unfinished : (k : ℕ) (lane : LaneEnds (Newcomer C J)) → slice_get s.carrier.lanes k ≡ Some lane → IsSome lane.down
  pub seated : AreSeated s.carrier
  -- who is told something has a worker, in whose lane it comes
  pub within : (i : ℕ) (pair : Ticket × Told) → slice_get (downs_of s) i ≡ Some pair → pair.0.worker < length s.carrier.lanes
  pub to_worker : (k : ℕ) (model : WorkerModel C J) (lane : LaneEnds (Newcomer C J)) → slice_get s.workers k ≡ Some model → slice_get s.carrier.lanes k ≡ Some lane
      → All (λ (pair : Ticket × Told). pair.0.worker ≡ k) (down_in lane.down model.inlet)
  -- the machine has told all that came down
  pub told : w.downs ≡ []
  pub lanes : UpsShadow s.workers s.carrier w
  pub links : LinksShadow s.nodes s.carrier s.closed s.opened w
  pub clients : (k : ℕ) (model : WorkerModel C J) (number : ℕ) (client : ClientModel C) → slice_get s.workers k ≡ Some model → get model.clients number ≡ Some client
      → (number % w.workers ≡ k) × ClientShadow (downs_of s) k number client w.commands
  -- a number that is still to come has no command, and no client
  pub unseen : (k : ℕ) (model : WorkerModel C J) (number : ℕ) → slice_get s.workers k ≡ Some model → number % w.workers ≡ k → IsAbove model.newest number
      → (count_by (λ (c : Arrival). c.command.ticket.client == number) w.commands ≡ 0) × (get model.clients number ≡ None)
  -- who is told something awaits it, and is told one thing
  pub downs : (t : Ticket) → total (λ (p : Ticket × Told). is t p.0) (downs_of s) ≤ 1
  pub awaited : (i : ℕ) (pair : Ticket × Told) → slice_get (downs_of s) i ≡ Some pair → (d : CommandModel) × Holds s.workers pair.0 d × (d.stage ≡ Awaits)
  -- what awaits in the machine awaits here
  pub waiting : (j : ℕ) (c : Arrival) → slice_get w.commands j ≡ Some c → c.command.stage ≡ Awaits → Holds s.workers c.command.ticket c.command
  -- what wants to ask in the machine was posted here, and has not ended
  pub asking : (j : ℕ) (c : Arrival) (node : ℕ) → slice_get w.commands j ≡ Some c → c.command.stage ≡ WantsAsking node → (d : CommandModel) × Holds s.workers c.command.ticket d
  pub log : LogShadow s.log w
