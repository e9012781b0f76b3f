-- A connection: the requests sent and the values got are two lists, and the k-th value belongs to the k-th request.
-- RESP2 specification, "Request-response model": a server answers the requests of a connection in order. The reply to
-- ASKING is awaited too, and nobody is told it.
use Rattle.std.specs.Prelude.{◌≡◌, ◌⊎◌, List, [], ◌∷◌, ◌++◌, Option, Some, None, Result, Ok, Err, map}
use Rattle.resp_wire.specs.declared.value.Value.{Value}
use Rattle.key_split.specs.declared.travel.Ticket.{Ticket}
use Rattle.key_split.specs.Requests.{Request, Asking, Command, Slots}
use Rattle.slot_map.specs.Table.{Endpoint}
use Rattle.node_link.specs.declared.link.Due.{Due}
use Rattle.node_link.specs.declared.link.Due.TheVariants as due
use Rattle.node_link.specs.declared.link.Got.{Got}
use Rattle.node_link.specs.declared.link.Got.TheVariants as got
use Rattle.node_link.specs.declared.link.Failure.{Failure}
use Rattle.node_link.specs.declared.link.Failure.TheVariants as failure
use Rattle.node_link.specs.declared.link.LinkFault.{LinkFault}
use Rattle.node_link.specs.declared.link.LinkFault.TheVariants.{NoMemory, PortFailed, Stray, BadWire}
use Rattle.node_link.specs.Port.{PortCalls, Rose, SendsAllOrNone}
use Rattle.node_link.specs.LinkModel.{LinkModel}
use Rattle.node_link.specs.Telling.{told_by, IsToNewNode}

-- what a failed link answers
abbrev pub fault_of : Failure → LinkFault
fault_of failure.PortFailed = PortFailed
fault_of failure.Stray = Stray
fault_of failure.BadWire = BadWire

-- what the sender of a request waits for
abbrev pub due_of : Request → Due
due_of Asking = due.Asking
due_of (Command ticket part) = due.Command ticket
due_of Slots = due.Slots

-- the tickets whose commands have no value, oldest first
abbrev pub tickets_of : List Due → List Ticket
tickets_of [] = []
tickets_of (due.Command ticket ∷ ds) = ticket ∷ tickets_of ds
tickets_of (due.Asking ∷ ds) = tickets_of ds
tickets_of (due.Slots ∷ ds) = tickets_of ds

-- the link failed in this call, where this holds, or had so failed before and nothing changed
abbrev pub Fails : {P : Type 0} → LinkModel P → Failure → Type 0 → LinkModel P → Type 0
Fails old why now new = ((old.failure ≡ Some why) × (new ≡ old)) ⊎ ((old.failure ≡ None) × (new.failure ≡ Some why) × now)

-- the value belongs to a command, and leads it to a node that would have to be added to the table: nothing else takes memory
abbrev pub WantsMemory : {P : Type 0} → Value → LinkModel P → List Endpoint → Type 0
WantsMemory value link table =
    (ticket : Ticket) × (later : List Due) × (link.due ≡ due.Command ticket ∷ later) × IsToNewNode value link.node table

-- what a value does that is given to the request that is next
abbrev pub LinkGives : {P : Type 0} → Value → LinkModel P → List Endpoint → Result (Option Got) LinkFault → LinkModel P → List Endpoint → Type 0
LinkGives value old table (Ok (Some (got.Ticket ticket told))) new table' =
    (old.due ≡ due.Command ticket ∷ new.due) × (told_by value old.node table ≡ (told, table')) × (new ≡ record old { due = new.due })
LinkGives value old table (Ok (Some (got.Slots given))) new table' =
    (given ≡ value) × (old.due ≡ due.Slots ∷ new.due) × (table' ≡ table) × (new ≡ record old { due = new.due })
LinkGives value old table (Ok None) new table' = (old.due ≡ due.Asking ∷ new.due) × (table' ≡ table) × (new ≡ record old { due = new.due })
LinkGives value old table (Err NoMemory) new table' = WantsMemory value old table × (table' ≡ table) × (new ≡ record old { kept = Some value })
LinkGives value old table (Err Stray) new table' = (old.due ≡ []) × (table' ≡ table) × (new ≡ record old { failure = Some failure.Stray })
LinkGives value old table (Err PortFailed) new table' = ⊥
LinkGives value old table (Err BadWire) new table' = ⊥

module _ {P : Type 0} (calls : PortCalls P) where
  -- what a call that sends requests does
  abbrev pub Sends : LinkModel P → List Request → Result (Unit {0}) LinkFault → LinkModel P → Type 0
  Sends old requests (Ok _) new =
      (old.failure ≡ None) × calls.exchange old.port requests [] new.port
      × (new ≡ record old { port = new.port; due = old.due ++ map due_of requests })
  -- nothing was sent, and nothing waits
  Sends old requests (Err NoMemory) new =
      (old.failure ≡ None) × calls.exchange old.port [] [] new.port × (new ≡ record old { port = new.port })
  -- the requests were sent, once, or none was; so they wait
  Sends old requests (Err PortFailed) new = Fails old failure.PortFailed (Rose (calls.failures old.port) (calls.failures new.port)
      × SendsAllOrNone calls.exchange old.port requests new.port
      × (new ≡ record old { port = new.port; due = old.due ++ map due_of requests; failure = new.failure })) new
  Sends old requests (Err BadWire) new = Fails old failure.BadWire (calls.is_garbled new.port
      × SendsAllOrNone calls.exchange old.port requests new.port
      × (new ≡ record old { port = new.port; due = old.due ++ map due_of requests; failure = new.failure })) new
  Sends old requests (Err Stray) new = (old.failure ≡ Some failure.Stray) × (new ≡ old)

  -- the value that is next: one that was kept, or else one that the port gives
  abbrev pub Comes : LinkModel P → Option Value → P → Type 0
  Comes old (Some value) port = ((old.kept ≡ Some value) × (port ≡ old.port)) ⊎ ((old.kept ≡ None) × calls.exchange old.port [] (value ∷ []) port)
  Comes old None port = (old.kept ≡ None) × calls.exchange old.port [] [] port

  -- what a call that receives does to the connection and to the table of nodes
  abbrev pub Receives : LinkModel P → List Endpoint → Result (Option Got) LinkFault → LinkModel P → List Endpoint → Type 0
  Receives old table (Ok (Some (got.Ticket ticket told))) new table' =
      (value : Value) × (old.failure ≡ None) × Comes old (Some value) new.port × (old.due ≡ due.Command ticket ∷ new.due)
      × (told_by value old.node table ≡ (told, table'))
      × (new ≡ record old { port = new.port; due = new.due; kept = None })
  Receives old table (Ok (Some (got.Slots value))) new table' =
      (old.failure ≡ None) × Comes old (Some value) new.port × (old.due ≡ due.Slots ∷ new.due) × (table' ≡ table)
      × (new ≡ record old { port = new.port; due = new.due; kept = None })
  -- the port gave none, or the reply to ASKING came
  Receives old table (Ok None) new table' = (old.failure ≡ None) × (table' ≡ table)
      × ((Comes old None new.port × (new ≡ record old { port = new.port }))
      ⊎ ((value : Value) × Comes old (Some value) new.port × (old.due ≡ due.Asking ∷ new.due)
      × (new ≡ record old { port = new.port; due = new.due; kept = None })))
  -- the port gave none, or a command's redirection came whose node must be added to the table: it is kept for the next call
  Receives old table (Err NoMemory) new table' = (old.failure ≡ None) × (table' ≡ table)
      × ((Comes old None new.port × (new ≡ record old { port = new.port }))
      ⊎ ((value : Value) × Comes old (Some value) new.port × WantsMemory value old table
      × (new ≡ record old { port = new.port; kept = Some value })))
  -- no value came, and none that was kept was given
  Receives old table (Err PortFailed) new table' = (table' ≡ table) × Fails old failure.PortFailed
      (Rose (calls.failures old.port) (calls.failures new.port) × Comes old None new.port
      × (new ≡ record old { port = new.port; failure = new.failure })) new
  Receives old table (Err BadWire) new table' = (table' ≡ table) × Fails old failure.BadWire
      (calls.is_garbled new.port × Comes old None new.port
      × (new ≡ record old { port = new.port; failure = new.failure })) new
  -- a value came that nothing waits for
  Receives old table (Err Stray) new table' = (table' ≡ table) × Fails old failure.Stray
      ((value : Value) × Comes old (Some value) new.port × (old.due ≡ [])
      × (new ≡ record old { port = new.port; kept = None; failure = new.failure })) new
