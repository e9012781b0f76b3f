-- All clients of a worker.
-- A turn is a list of events, and moved exactly where one of them is a move. That each client has its turn is said
-- of those that moved nothing (WorkerRest.antt).
use Rattle.std.specs.Prelude.{◌||◌, ◌≡◌, ◌⊎◌, ◌<◌, ◌+◌, ◌-◌, ◌%◌, ◌^◌, ◌++◌, ◌∷◌, [], ℕ, List, Bool, true, false, Option, Some, None, Result, Ok, Err, min, ⊤}
use Rattle.std.specs.List.{FoldsTo, list_all, list_any}
use Rattle.std.specs.Ordering.{nat_cmp}
use Rattle.std.specs.FinMap.{FinMap, empty, get, insert, remove, from_entries}
use mathlib.Core.List.{IsPrefix}
use Rattle.resp_wire.specs.LimitsModel.{full}
use Rattle.slot_map.specs.declared.ops.MapOp.{MapOp}
use Rattle.resp_wire.specs.declared.fault.NoMemory.{NoMemory}
use Rattle.key_split.specs.Runs.{RunModel}
use Rattle.key_split.specs.declared.travel.Ticket.{Ticket}
use Rattle.key_split.specs.declared.travel.Told.{Told}
use Rattle.key_split.specs.declared.travel.Ended.{Ended}
use Rattle.proxy_lanes.specs.declared.ring.Outlet.{Outlet}
use Rattle.proxy_lanes.specs.declared.ring.Inlet.{Inlet}
use Rattle.proxy_lanes.specs.Lane.{Takes}
use Rattle.proxy_lanes.specs.View.{ViewModel}
use Rattle.proxy_turns.specs.declared.newcomer.Newcomer.{Newcomer}
use Rattle.proxy_turns.specs.Port.{Moves}
use Rattle.proxy_turns.specs.Commands.{AwaitsIn, Hears}
use Rattle.proxy_turns.specs.ClientModel.{ClientModel, IsDone, new_client}
use Rattle.proxy_turns.specs.ClientTurn.{ClientEvent, ClientDoes, Finishes, is_client_move}

-- The worker's number, and how many workers there are; its clients by their numbers; the number of the last client that came, `None` before the first; the lane
-- of new clients, and how many are still to come, `None` without end; the lane into which the worker posts, its view of the map, and the lane from which it is told what came; how many parts
-- have ended; and the ports that it keeps of the clients that it has let go.
pub record WorkerModel (C J : Type 0) : Type 0 where
  pub worker : ℕ
  pub workers : ℕ
  pub clients : FinMap nat_cmp (ClientModel C)
  pub newest : Option ℕ
  pub newcomers : Inlet (Newcomer C J)
  pub left : Option ℕ
  pub outlet : Outlet RunModel
  pub view : ViewModel
  pub inlet : Inlet (Ticket × Told)
  pub answered : ℕ
  pub ports : List C

abbrev pub clients_in : {C : Type 0} → List (ℕ × ClientModel C) → FinMap nat_cmp (ClientModel C)
clients_in entries = from_entries entries

pub data WorkerEvent : Type 0 where
  Did : ℕ → ClientEvent → WorkerEvent
  Finished : ℕ → Ticket → Ended → WorkerEvent
  Took : Ticket → Told → WorkerEvent
  FoundNone : WorkerEvent
  Came : ℕ → WorkerEvent
  TurnedAway : ℕ → WorkerEvent
  FoundNobody : WorkerEvent
  Left : ℕ → WorkerEvent

-- whether it moved something
abbrev pub is_worker_move : WorkerEvent → Bool
is_worker_move (Did number event) = is_client_move event
is_worker_move (Finished number ticket end) = true
is_worker_move (Took ticket told) = true
is_worker_move FoundNone = false
is_worker_move (Came number) = true
is_worker_move (TurnedAway number) = true
is_worker_move FoundNobody = false
is_worker_move (Left number) = true

-- Which events one part of a turn may make.

-- the next new client is taken, or none is there
abbrev pub admits : WorkerEvent → Bool
admits (Came number) = true
admits (TurnedAway number) = true
admits FoundNobody = true
admits other = false

-- what came down the lane is taken and told, or nothing is there
abbrev pub takes_told : WorkerEvent → Bool
takes_told (Took ticket told) = true
takes_told FoundNone = true
takes_told other = false

-- the commands that are due end or are posted again
abbrev pub settles : WorkerEvent → Bool
settles (Did number event) = true
settles (Finished number ticket end) = true
settles other = false

-- a client has its turn
abbrev pub turns_client : WorkerEvent → Bool
turns_client (Did number event) = true
turns_client other = false

-- a client that is done leaves
abbrev pub removes_client : WorkerEvent → Bool
removes_client (Left number) = true
removes_client other = false

-- a client has its turn, and leaves where it is done
abbrev pub serves_client : WorkerEvent → Bool
serves_client other = turns_client other || removes_client other

-- A pair goes to the client of its ticket, whose command it is told; where no command awaits it, nothing changes.
abbrev pub Tells : {C : Type 0} → FinMap nat_cmp (ClientModel C) → Ticket → Told → Bool → FinMap nat_cmp (ClientModel C) → Type 0
Tells {C} old ticket told true new =
    (client : ClientModel C) × (client' : ClientModel C) × (get old ticket.client ≡ Some client) × Hears client.commands ticket told true client'.commands
    × (client' ≡ record client { commands = client'.commands }) × (new ≡ insert old ticket.client client')
Tells {C} old ticket told false new =
    ((client : ClientModel C) → get old ticket.client ≡ Some client → AwaitsIn client.commands ticket → ⊥) × (new ≡ old)

-- the client of this number, with which nothing is left to do, leaves with its port
abbrev pub Leaves : {C : Type 0} → FinMap nat_cmp (ClientModel C) → ℕ → C → FinMap nat_cmp (ClientModel C) → Type 0
Leaves {C} old number port new =
    (client : ClientModel C) × (get old number ≡ Some client) × IsDone client × (port ≡ client.port) × (new ≡ remove old number)

-- one more part has ended; the count stays at the last value of 64 bits
abbrev pub one_more : ℕ → ℕ
one_more answered = min (answered + 1) (2 ^ 64 - 1)

-- this number is greater than that of the last client that came
abbrev pub IsAbove : Option ℕ → ℕ → Type 0
IsAbove None number = ⊤
IsAbove (Some newest) number = newest < number

-- no client that came before had this number, and none that is there has it
abbrev pub IsNew : {C : Type 0} → FinMap nat_cmp (ClientModel C) → Option ℕ → ℕ → Type 0
IsNew clients newest number = IsAbove newest number × (get clients number ≡ None)

-- clients are dealt to the workers by their numbers
abbrev pub IsDealtTo : ℕ → ℕ → ℕ → Type 0
IsDealtTo workers worker number = (0 < workers) × (number % workers ≡ worker)

-- the client of this number is dealt to this one of the workers, and none before had its number
abbrev pub MayCome : {C : Type 0} → ℕ → ℕ → FinMap nat_cmp (ClientModel C) → Option ℕ → ℕ → Type 0
MayCome workers worker clients newest number = IsDealtTo workers worker number × IsNew clients newest number

-- one client came of those that were to come; without end as many are to come as before
abbrev pub OneCame : Option ℕ → Option ℕ → Type 0
OneCame None new = new ≡ None
OneCame (Some n) new = (0 < n) × (new ≡ Some (n - 1))

-- the view learns what a new client brings of what was published
abbrev pub Learns : ViewModel → Option (List MapOp) → ViewModel → Type 0
Learns old None new = new ≡ old
Learns old (Some front) new = IsPrefix old.known new.known × IsPrefix front new.known × ((new ≡ old) ⊎ (new ≡ record old { known = front }))

-- The ports with one more, of a client that was let go. A worker that is to take clients without end keeps none.
abbrev pub with_port : {C : Type 0} → Option ℕ → List C → C → List C
with_port None ports port = ports
with_port (Some n) ports port = ports ++ port ∷ []

module _ {C J : Type 0} (moves : Moves C) where
  abbrev pub WorkerDoes : WorkerModel C J → WorkerEvent → WorkerModel C J → Type 0
  -- this happens to one client
  WorkerDoes old (Did number event) new =
      (client : ClientModel C) × (client' : ClientModel C) × (get old.clients number ≡ Some client)
      × ClientDoes moves (record { client = client; outlet = old.outlet; view = old.view }) event (record { client = client'; outlet = new.outlet; view = new.view })
      × (new ≡ record old { clients = insert old.clients number client'; outlet = new.outlet; view = new.view })
  -- a part of one client ends, which counts
  WorkerDoes old (Finished number ticket end) new =
      (client : ClientModel C) × (client' : ClientModel C) × (get old.clients number ≡ Some client) × Finishes moves client ticket end client'
      × (new ≡ record old { clients = insert old.clients number client'; answered = one_more old.answered })
  -- what was taken from the lane is told to its command
  WorkerDoes old (Took ticket told) new =
      Takes old.inlet new.inlet (Some (ticket, told))
      × ((heard : Bool) × Tells old.clients ticket told heard new.clients)
      × (new ≡ record old { clients = new.clients; inlet = new.inlet })
  WorkerDoes old FoundNone new = Takes old.inlet new.inlet None × (new ≡ record old { inlet = new.inlet })
  -- The next new client comes, which is dealt to this worker, under a number that no client of this worker had before. So the numbers
  -- of those that come rise.
  WorkerDoes old (Came number) new =
      (newcomer : Newcomer C J) × Takes old.newcomers new.newcomers (Some newcomer) × (newcomer.number ≡ number)
      × OneCame old.left new.left × MayCome old.workers old.worker old.clients old.newest number × Learns old.view newcomer.front new.view
      × (new ≡ record old { clients = insert old.clients number (new_client old.worker number full newcomer.port); newest = Some number; newcomers = new.newcomers; left = new.left; view = new.view })
  -- the next new client is let go at once, since it is not dealt to this worker or its number is not new; its port is closed
  WorkerDoes old (TurnedAway number) new =
      (newcomer : Newcomer C J) × (port : C) × Takes old.newcomers new.newcomers (Some newcomer) × (newcomer.number ≡ number)
      × OneCame old.left new.left × (MayCome old.workers old.worker old.clients old.newest number → ⊥) × Learns old.view newcomer.front new.view × moves.between newcomer.port [] [] [] port
      × (new ≡ record old { newcomers = new.newcomers; left = new.left; view = new.view; ports = with_port old.left old.ports port })
  WorkerDoes old FoundNobody new = Takes old.newcomers new.newcomers None × (new ≡ record old { newcomers = new.newcomers })
  -- a client with which nothing is left to do leaves, and its port is closed
  WorkerDoes old (Left number) new =
      (last : C) × (port : C) × Leaves old.clients number last new.clients × moves.between last [] [] [] port
      × (new ≡ record old { clients = new.clients; ports = with_port old.left old.ports port })

  -- some of these took one to the other, and this says whether one of them moved something
  abbrev pub WorkerGoes : WorkerModel C J → Bool → WorkerModel C J → Type 0
  WorkerGoes old moved new = (events : List WorkerEvent) × FoldsTo WorkerDoes old events new × (moved ≡ list_any is_worker_move events)

  -- what a call that may find no memory did: all of it, or what was done before
  abbrev pub WorkerTurns : WorkerModel C J → Result Bool NoMemory → WorkerModel C J → Type 0
  WorkerTurns old (Ok moved) new = WorkerGoes old moved new
  WorkerTurns old (Err refused) new = (moved : Bool) × WorkerGoes old moved new

  -- the same by events of one kind alone
  abbrev pub WorkerGoesBy : (WorkerEvent → Bool) → WorkerModel C J → Bool → WorkerModel C J → Type 0
  WorkerGoesBy may old moved new =
      (events : List WorkerEvent) × FoldsTo WorkerDoes old events new × (moved ≡ list_any is_worker_move events) × (list_all may events ≡ true)

  abbrev pub WorkerTurnsBy : (WorkerEvent → Bool) → WorkerModel C J → Result Bool NoMemory → WorkerModel C J → Type 0
  WorkerTurnsBy may old (Ok moved) new = WorkerGoesBy may old moved new
  WorkerTurnsBy may old (Err refused) new = (moved : Bool) × WorkerGoesBy may old moved new

  -- new clients are taken
  abbrev pub AdmitsClients : WorkerModel C J → Result Bool NoMemory → WorkerModel C J → Type 0
  AdmitsClients = WorkerTurnsBy admits

  -- what came down the lane is taken and told
  abbrev pub TakesTold : WorkerModel C J → Result Bool NoMemory → WorkerModel C J → Type 0
  TakesTold = WorkerTurnsBy takes_told

  -- the commands that are due end or are posted again
  abbrev pub SettlesDue : WorkerModel C J → Result Bool NoMemory → WorkerModel C J → Type 0
  SettlesDue = WorkerTurnsBy settles

  -- a client has its turn
  abbrev pub TurnsClient : WorkerModel C J → Result Bool NoMemory → WorkerModel C J → Type 0
  TurnsClient = WorkerTurnsBy turns_client

  -- a client that is done leaves
  abbrev pub RemovesClient : WorkerModel C J → Result Bool NoMemory → WorkerModel C J → Type 0
  RemovesClient = WorkerTurnsBy removes_client

  -- clients have their turns, and leave where they are done
  abbrev pub ServesClients : WorkerModel C J → Result Bool NoMemory → WorkerModel C J → Type 0
  ServesClients = WorkerTurnsBy serves_client

-- all clients that were to come came, and none is left
abbrev pub AreAllServed : {C J : Type 0} → WorkerModel C J → Type 0
AreAllServed model = (model.left ≡ Some 0) × (model.clients ≡ empty)

-- all ports are given back: those that are kept, and then those of the clients that are left, which leave as they are, in this order
abbrev pub GivesBack : {C : Type 0} → FinMap nat_cmp (ClientModel C) → List C → List ℕ → List C → Type 0
GivesBack clients ports [] all = (clients ≡ empty) × (all ≡ ports)
GivesBack {C} clients ports (number ∷ numbers) all =
    (client : ClientModel C) × (get clients number ≡ Some client) × GivesBack (remove clients number) (ports ++ client.port ∷ []) numbers all
