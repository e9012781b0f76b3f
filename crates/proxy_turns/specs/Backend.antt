-- What the carrier does at the backend of one node, step by step: Redis Cluster specification, "MOVED Redirection" and
-- "CLUSTER SLOTS".
-- A MOVED's slot is published before the worker is told. CLUSTER SLOTS is asked for after a MOVED, one at a time.
use Rattle.std.specs.Prelude.{◌≡◌, ◌≢◌, ◌++◌, ◌∷◌, [], ◌⊎◌, ◌≤◌, ◌<◌, ◌&&◌, ◌||◌, ℕ, List, Bool, true, false, Option, Some, None, Result, Ok, Err, IsSome, IfSome, is_none, is_some, length}
use Rattle.resp_wire.specs.declared.fault.NoMemory.{NoMemory}
use Rattle.resp_wire.specs.declared.value.Value.{Value}
use Rattle.key_split.specs.declared.travel.Ticket.{Ticket}
use Rattle.key_split.specs.declared.travel.Told.{Told}
use Rattle.key_split.specs.declared.travel.Told.TheVariants.{Reply, Moved, Ask, TryAgain, ClusterDown, Unclear, Lost, Unsent}
use Rattle.key_split.specs.Requests.{Request, Slots}
use Rattle.slot_map.specs.Table.{Endpoint}
use Rattle.slot_map.specs.Slots.{read_slots, SlotsReading}
use Rattle.slot_map.specs.declared.ops.MapOp.{MapOp}
use Rattle.slot_map.specs.declared.ops.MapOp.TheVariants.{SetSlot}
use Rattle.slot_map.specs.declared.fault.MapFault.{MapFault}
use Rattle.node_link.specs.LinkModel.{LinkModel}
use Rattle.proxy_lanes.specs.Publishing.{IsPublished}
use Rattle.node_link.specs.LinkCalls.{Sends, Receives, tickets_of}
use Rattle.node_link.specs.Waiting.{ReceivesNone}
use Rattle.node_link.specs.declared.link.Got.{Got}
use Rattle.node_link.specs.declared.link.Got.TheVariants as got
use Rattle.node_link.specs.declared.link.LinkFault.{LinkFault}
use Rattle.node_link.specs.declared.link.LinkFault.TheVariants as fault
use Rattle.node_link.specs.Port.{PortCalls}
use Rattle.proxy_turns.specs.declared.backend.Backend.{Backend}
use Rattle.proxy_turns.specs.declared.backend.PendingTold.{PendingTold}
use Rattle.proxy_turns.specs.declared.backend.MapTask.{MapTask}
use Rattle.proxy_turns.specs.declared.backend.MapTask.TheVariants as task
use Rattle.proxy_turns.specs.declared.backend_step.BackendStep.{BackendStep}
use Rattle.proxy_turns.specs.declared.backend_step.BackendStep.TheVariants.{Idle, Waited, Broke, Fetched, Answered, GaveUp, Closed, Published, Asked, Spared, Read, Unread, Renewed}

-- waiting is no move
abbrev pub is_backend_move : BackendStep → Bool
is_backend_move Idle = false
is_backend_move Waited = false
is_backend_move step = true

-- the steps by which a reply is fetched: something came, or the link failed and gives up what waits
abbrev pub is_fetch_step : BackendStep → Bool
is_fetch_step Idle = true
is_fetch_step Waited = true
is_fetch_step Broke = true
is_fetch_step Fetched = true
is_fetch_step Answered = true
is_fetch_step GaveUp = true
is_fetch_step Closed = true
is_fetch_step step = false

-- the steps by which the slot map is renewed
abbrev pub is_map_step : BackendStep → Bool
is_map_step Idle = true
is_map_step Published = true
is_map_step Asked = true
is_map_step Spared = true
is_map_step Read = true
is_map_step Unread = true
is_map_step Renewed = true
is_map_step step = false

-- a backend without a link
abbrev pub new_backend : {P : Type 0} → Backend P
new_backend = record { link = None; pending_told = None; answer = None; changes = None; to_ask = false; asked = false }

-- a link over which nothing was sent
abbrev pub fresh_link : {P : Type 0} → P → ℕ → LinkModel P
fresh_link port node = record { port = port; node = node; due = []; kept = None; failure = None }

-- a MOVED says which node has a slot
abbrev pub change_in : Told → Option MapOp
change_in (Moved slot node) = Some (SetSlot slot node)
change_in (Reply value) = None
change_in (Ask slot node) = None
change_in TryAgain = None
change_in ClusterDown = None
change_in Unclear = None
change_in Lost = None
change_in Unsent = None

-- what a ticket is told; what a MOVED says of its slot is to be published first
abbrev pub new_pending_told : Ticket → Told → PendingTold
new_pending_told ticket told = record { ticket = ticket; told = told; change = change_in told }

-- what came over the link is held
abbrev pub HoldOutcome : {P : Type 0} → Backend P → Got → BackendStep → Backend P → Type 0
HoldOutcome old (got.Ticket ticket told) step new = (step ≡ Fetched) × (new ≡ record old { pending_told = Some (new_pending_told ticket told) })
HoldOutcome old (got.Slots value) step new = (step ≡ Answered) × (new ≡ record old { answer = Some value; asked = false })

abbrev pub is_open : {P : Type 0} → Option (LinkModel P) → Bool
is_open None = false
is_open (Some link) = is_none link.failure

-- CLUSTER SLOTS is unanswered on an open link
abbrev pub is_unanswered : {P : Type 0} → Backend P → Bool
is_unanswered backend = backend.asked && is_open backend.link

-- a backend with an open link
abbrev pub has_open_link : {P : Type 0} → Backend P → Bool
has_open_link backend = is_open backend.link

-- a link that has failed
abbrev pub has_failed : {P : Type 0} → Option (LinkModel P) → Bool
has_failed None = false
has_failed (Some link) = is_some link.failure

-- nothing is to be taken off a failed link: it has not failed, or something that came is still held
abbrev pub HasNoneToTake : {P : Type 0} → Backend P → Type 0
HasNoneToTake backend = (has_failed backend.link ≡ false) ⊎ (IsSome backend.pending_told ⊎ IsSome backend.answer)

-- an open link to a node of the table gave nothing when it was last asked, where nothing that came over it is still held
abbrev pub HasReceived : {P : Type 0} → (LinkModel P → Type 0) → List Endpoint → Backend P → Type 0
HasReceived gave_none nodes backend = backend.pending_told ≡ None → backend.answer ≡ None
    → IfSome backend.link (λ link. link.failure ≡ None → link.node < length nodes → gave_none link)

-- what a task for the slot map leaves undone: nothing
abbrev pub IsDone : {P : Type 0} → MapTask → Backend P → Type 0
IsDone task.Publish backend = IfSome backend.pending_told (λ pending_told. pending_told.change ≡ None)
IsDone task.Ask backend = backend.to_ask ≡ false
IsDone task.Read backend = IsSome backend.changes ⊎ (backend.answer ≡ None)
IsDone task.Renew backend = backend.changes ≡ None

-- the slot of a MOVED is still to be published
abbrev pub is_unpublished : Option PendingTold → Bool
is_unpublished None = false
is_unpublished (Some pending_told) = is_some pending_told.change

-- something of the slot map is to go on
abbrev pub has_map_work : {P : Type 0} → Backend P → Bool
has_map_work backend = ((is_unpublished backend.pending_told || is_some backend.answer) || is_some backend.changes) || backend.to_ask

-- nothing of the slot map is left to publish, to ask for or to read
pub record HasNoMapWork {P : Type 0} (backend : Backend P) : Type 0 where
  pub published : IfSome backend.pending_told (λ pending_told. pending_told.change ≡ None)
  pub asked : backend.to_ask ≡ false
  pub read : backend.answer ≡ None
  pub renewed : backend.changes ≡ None

-- an answer to CLUSTER SLOTS can't be read: its link is gone, or the table lacks the node, or it is no listing of nodes
abbrev pub IsUnreadable : {P : Type 0} → Option (LinkModel P) → Value → List Endpoint → Type 0
IsUnreadable None value nodes = Unit {0}
IsUnreadable (Some link) value nodes = (length nodes ≤ link.node) ⊎ ((why : MapFault) × (read_slots value link.node nodes ≡ Err why))

-- one backend, beside the table of the nodes and what was published of the slot map
pub record BackendContext (P : Type 0) : Type 0 where
  pub backend : Backend P
  pub nodes : List Endpoint
  pub published : List MapOp

module _ {P : Type 0} (calls : PortCalls P) where
  -- a call that receives took the link and the table to these
  abbrev pub Fetches : BackendContext P → LinkModel P → Result (Option Got) LinkFault → LinkModel P → List Endpoint → Type 0
  Fetches old link given link' nodes = (old.backend.link ≡ Some link) × Receives calls link old.nodes given link' nodes

  -- the requests went over an open link, or it broke at them and they may have been sent
  abbrev pub GoesOut : LinkModel P → List Request → LinkModel P → Type 0
  GoesOut link requests link' = (given : Result (Unit {0}) LinkFault)
      × (link.failure ≡ None) × (given ≢ Err fault.NoMemory) × Sends calls link requests given link'

  -- memory ran out: nothing changed, or the link alone went on, and what it took it keeps
  abbrev pub Starves : BackendContext P → BackendContext P → Type 0
  Starves old new = (new ≡ old) ⊎ ((link : LinkModel P) × (link' : LinkModel P) × (old.backend.link ≡ Some link)
      × (Receives calls link old.nodes (Err fault.NoMemory) link' new.nodes
      ⊎ (((requests : List Request) × Sends calls link requests (Err fault.NoMemory) link') × (new.nodes ≡ old.nodes)))
      × (new ≡ record old { backend = record old.backend { link = Some link' }; nodes = new.nodes }))

  -- the last call that received over the link gave nothing: the port gave none, or the reply to ASKING came
  abbrev pub GaveNone : LinkModel P → Type 0
  GaveNone link = (before : LinkModel P) × (nodes : List Endpoint) × (nodes' : List Endpoint)
      × Receives calls before nodes (Ok None) link nodes' × ReceivesNone calls.gives_none before (Ok None) link

  -- what a step does, where CLUSTER SLOTS is unanswered on some open link or is not
  abbrev pub BackendDoes : Bool → BackendContext P → BackendStep → BackendContext P → Type 0
  BackendDoes unanswered old Idle new = new ≡ old
  BackendDoes unanswered old Waited new = (link : LinkModel P) × (link' : LinkModel P) × Fetches old link (Ok None) link' new.nodes
      × ReceivesNone calls.gives_none link (Ok None) link'
      × (new ≡ record old { backend = record old.backend { link = Some link' }; nodes = new.nodes })
  BackendDoes unanswered old Broke new = (link : LinkModel P) × (link' : LinkModel P) × (why : LinkFault) × (why ≢ fault.NoMemory)
      × Fetches old link (Err why) link' new.nodes
      × (new ≡ record old { backend = record old.backend { link = Some link' }; nodes = new.nodes })
  BackendDoes unanswered old Fetched new = (link : LinkModel P) × (link' : LinkModel P) × (ticket : Ticket) × (told : Told)
      × (old.backend.pending_told ≡ None) × Fetches old link (Ok (Some (got.Ticket ticket told))) link' new.nodes
      × (new ≡ record old { backend = record old.backend { link = Some link'; pending_told = Some (new_pending_told ticket told) }; nodes = new.nodes })
  BackendDoes unanswered old Answered new = (link : LinkModel P) × (link' : LinkModel P) × (value : Value)
      × (old.backend.answer ≡ None) × Fetches old link (Ok (Some (got.Slots value))) link' new.nodes
      × (new ≡ record old { backend = record old.backend { link = Some link'; answer = Some value; asked = false }; nodes = new.nodes })
  BackendDoes unanswered old GaveUp new = (link : LinkModel P) × (link' : LinkModel P) × (ticket : Ticket)
      × (old.backend.pending_told ≡ None) × (old.backend.link ≡ Some link) × IsSome link.failure
      × (tickets_of link.due ≡ ticket ∷ tickets_of link'.due) × (link' ≡ record link { due = link'.due })
      × (new ≡ record old { backend = record old.backend { link = Some link'; pending_told = Some (new_pending_told ticket Lost) } })
  -- only where no ticket waits
  BackendDoes unanswered old Closed new = (link : LinkModel P)
      × (old.backend.pending_told ≡ None) × (old.backend.link ≡ Some link) × IsSome link.failure × (tickets_of link.due ≡ [])
      × (new ≡ record old { backend = record old.backend { link = None; asked = false } })
  BackendDoes unanswered old Published new = (pending_told : PendingTold) × (op : MapOp) × (old.backend.pending_told ≡ Some pending_told) × (pending_told.change ≡ Some op)
      × (new ≡ record old {
        backend = record old.backend { pending_told = Some (record pending_told { change = None }); to_ask = true };
        published = new.published;
      })
      × IsPublished old.published op new.published
  BackendDoes unanswered old Asked new = (link : LinkModel P) × (link' : LinkModel P)
      × (old.backend.to_ask ≡ true) × (unanswered ≡ false) × (old.backend.link ≡ Some link) × GoesOut link (Slots ∷ []) link'
      × (new ≡ record old { backend = record old.backend { link = Some link'; to_ask = false; asked = true } })
  BackendDoes unanswered old Spared new =
      (old.backend.to_ask ≡ true) × ((unanswered ≡ true) ⊎ (is_open old.backend.link ≡ false))
      × (new ≡ record old { backend = record old.backend { to_ask = false } })
  BackendDoes unanswered old Read new = (link : LinkModel P) × (value : Value) × (reading : SlotsReading)
      × (old.backend.link ≡ Some link) × (old.backend.answer ≡ Some value) × (old.backend.changes ≡ None)
      × (read_slots value link.node old.nodes ≡ Ok reading)
      × (new ≡ record old { backend = record old.backend { answer = None; changes = Some reading.ops }; nodes = reading.table })
  BackendDoes unanswered old Unread new = (value : Value) × (old.backend.answer ≡ Some value) × IsUnreadable old.backend.link value old.nodes
      × (new ≡ record old { backend = record old.backend { answer = None } })
  BackendDoes unanswered old Renewed new = (ops : List MapOp) × (old.backend.changes ≡ Some ops)
      × (new ≡ record old { backend = record old.backend { changes = None }; published = old.published ++ ops })

  -- a reply is fetched, or nothing is to be taken, or memory ran out
  abbrev pub BackendFetches : Bool → BackendContext P → Result BackendStep NoMemory → BackendContext P → Type 0
  BackendFetches unanswered old (Ok step) new =
      BackendDoes unanswered old step new × (is_fetch_step step ≡ true)
      × (is_backend_move step ≡ false → HasNoneToTake new.backend × HasReceived GaveNone new.nodes new.backend)
  BackendFetches unanswered old (Err _) new = Starves old new

  -- a task for the slot map is done by one step, or none of it is left, or memory ran out
  abbrev pub BackendRenews : MapTask → Bool → BackendContext P → Result BackendStep NoMemory → BackendContext P → Type 0
  BackendRenews which unanswered old (Ok step) new =
      BackendDoes unanswered old step new × (is_map_step step ≡ true) × (is_backend_move step ≡ false → IsDone which new.backend)
  BackendRenews which unanswered old (Err _) new = Starves old new
