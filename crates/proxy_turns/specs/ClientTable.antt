-- What calls on one of a worker's clients do to all of them.
-- Only that client changes.
use Rattle.std.specs.Prelude.{◌≡◌, ◌≢◌, ◌⊎◌, ◌<◌, ◌≤◌, ℕ, List, true, false, Option, Some, None, Result, Ok, length, slice_get}
use Rattle.std.specs.Option.{ForSome}
use Rattle.std.specs.Ordering.{nat_cmp}
use Rattle.std.specs.FinMap.{FinMap, empty, get, insert, remove}
use Rattle.resp_wire.specs.declared.fault.NoMemory.{NoMemory}
use Rattle.key_split.specs.declared.travel.Ticket.{Ticket}
use Rattle.key_split.specs.Runs.{RunModel}
use Rattle.proxy_lanes.specs.declared.ring.Outlet.{Outlet}
use Rattle.proxy_lanes.specs.View.{ViewModel}
use Rattle.proxy_turns.specs.ClientModel.{ClientModel, IsDone}
use Rattle.proxy_turns.specs.Port.{Moves}
use Rattle.proxy_turns.specs.ClientTurn.{ClientContext, FinishOutcome}
use Rattle.proxy_turns.specs.ClientRest.{IsClientAtRest}
use Rattle.proxy_turns.specs.declared.turned.Finish.{Finish}
use Rattle.proxy_turns.specs.declared.turned.Finish.TheVariants as finish
use Rattle.proxy_turns.specs.declared.turned.Turned.{Turned}
use Rattle.proxy_turns.specs.WorkerModel.{Leaves, clients_in}

-- The clients by their numbers, in the order of their turns, a mark for the place of each that sleeps, and for how many more there is room.
pub record ClientTableModel (C : Type 0) : Type 0 where
  pub entries : List (ℕ × ClientModel C)
  pub marks : List ℕ
  pub spare : ℕ

-- where the client of this number stands; `None` exactly where none has it
abbrev pub HasPlace : {C : Type 0} → List (ℕ × ClientModel C) → ℕ → Option ℕ → Type 0
HasPlace entries number None = get (clients_in entries) number ≡ None
HasPlace {C} entries number (Some place) = (client : ClientModel C) × (slice_get entries place ≡ Some (number, client))

-- The clients beside the lane into which the worker posts and its view of the map.
pub record ClientsContext (C : Type 0) : Type 0 where
  pub clients : FinMap nat_cmp (ClientModel C)
  pub outlet : Outlet RunModel
  pub view : ViewModel

-- One client's step, with the lane and the view. Where none has the number nothing happens, and the answer is this.
abbrev pub AtClient : {C : Type 0} → ClientsContext C → ℕ → (ClientContext C → ClientContext C → Type 0) → Type 0 → ClientsContext C → Type 0
AtClient {C} old number step answers_none new =
    ((get old.clients number ≡ None) × answers_none × (new ≡ old))
    ⊎ ((client : ClientModel C) × (client' : ClientModel C) × (get old.clients number ≡ Some client)
    × step (record { client = client; outlet = old.outlet; view = old.view }) (record { client = client'; outlet = new.outlet; view = new.view })
    × (new.clients ≡ insert old.clients number client'))

-- The same for the client at this place. Nothing happens exactly where none is there.
abbrev pub AtPlace : {C : Type 0} → List (ℕ × ClientModel C) → ℕ → ClientsContext C → (ClientContext C → ClientContext C → Type 0) → Type 0 → ClientsContext C → Type 0
AtPlace {C} entries place old step answers_none new =
    (answers_none × (new ≡ old) × (slice_get entries place ≡ None))
    ⊎ ((number : ℕ) × (client : ClientModel C) × (client' : ClientModel C) × (get old.clients number ≡ Some client)
    × step (record { client = client; outlet = old.outlet; view = old.view }) (record { client = client'; outlet = new.outlet; view = new.view })
    × (new.clients ≡ insert old.clients number client') × (slice_get entries place ≡ Some (number, client)))

-- The command of this ticket ends, where it has an end; nothing happens exactly where it has none.
abbrev pub ClientFinishes : {C : Type 0} → Moves C → FinMap nat_cmp (ClientModel C) → Ticket → Result Finish NoMemory → FinMap nat_cmp (ClientModel C) → Type 0
ClientFinishes {C} moves old ticket result new =
    ((get old ticket.client ≡ None) × (result ≡ Ok finish.Open) × (new ≡ old))
    ⊎ ((client : ClientModel C) × (client' : ClientModel C) × (get old ticket.client ≡ Some client)
    × FinishOutcome moves client ticket.part result client' × (new ≡ insert old ticket.client client'))

-- nothing is left to do for the client at this place
abbrev pub IsDoneAt : {C : Type 0} → List (ℕ × ClientModel C) → ℕ → Type 0
IsDoneAt {C} entries place =
    (number : ℕ) × (client : ClientModel C) × (slice_get entries place ≡ Some (number, client)) × (get (clients_in entries) number ≡ Some client) × IsDone client

-- a client with which nothing is left to do leaves with its port where that is so of the one at this place, and only there
abbrev pub LeavesAt : {C : Type 0} → List (ℕ × ClientModel C) → ℕ → Option C → FinMap nat_cmp (ClientModel C) → Type 0
LeavesAt entries place None new = (IsDoneAt entries place → ⊥) × (new ≡ clients_in entries)
LeavesAt {C} entries place (Some port) new =
    (number : ℕ) × Leaves (clients_in entries) number port new × ((client : ClientModel C) × (slice_get entries place ≡ Some (number, client)))

-- one of the clients leaves as it is, with its port; `None` where there is none
abbrev pub TakesAny : {C : Type 0} → FinMap nat_cmp (ClientModel C) → Option C → FinMap nat_cmp (ClientModel C) → Type 0
TakesAny old None new = (old ≡ empty) × (new ≡ old)
TakesAny {C} old (Some port) new = (number : ℕ) × (client : ClientModel C) × (get old number ≡ Some client) × (port ≡ client.port) × (new ≡ remove old number)

-- The client at this place had its turn: it rests after one that moved nothing, and the answer says whether it is done.
pub record IsTurnedAt {C : Type 0} (gives_none takes_none : C → Type 0) (old : List (ℕ × ClientModel C)) (place : ℕ) (turned : Turned) (outlet : Outlet RunModel) (new : List (ℕ × ClientModel C)) : Type 0 where
  pub others : (other : ℕ) → other ≢ place → slice_get new other ≡ slice_get old other
  pub rests : turned.moved ≡ false → ForSome (slice_get new place) (λ entry. IsClientAtRest gives_none takes_none entry.1 outlet)
  pub done : turned.done ≡ true → IsDoneAt new place
  pub undone : turned.done ≡ false → ForSome (slice_get new place) (λ entry. IsDone entry.1 → ⊥)

-- the client at this place is at rest, and not done
abbrev pub IsAtRestAt : {C : Type 0} → (C → Type 0) → (C → Type 0) → List (ℕ × ClientModel C) → Outlet RunModel → ℕ → Type 0
IsAtRestAt gives_none takes_none entries outlet place = ForSome (slice_get entries place) (λ entry. (IsDone entry.1 → ⊥) × IsClientAtRest gives_none takes_none entry.1 outlet)

-- a turn of the client at this place moved nothing, and it is at rest and not done
pub record IsStillAt {C : Type 0} (gives_none takes_none : C → Type 0) (old : List (ℕ × ClientModel C)) (place : ℕ) (outlet : Outlet RunModel) (new : List (ℕ × ClientModel C)) : Type 0 where
  pub others : (other : ℕ) → other ≢ place → slice_get new other ≡ slice_get old other
  pub here : IsAtRestAt gives_none takes_none new outlet place
  pub len : length new ≡ length old

-- no client came or went; each that was at rest is, and each from the one place on and before the other
pub record RestBetween {C : Type 0} (gives_none takes_none : C → Type 0) (from end : ℕ) (old : List (ℕ × ClientModel C)) (outlet : Outlet RunModel) (new : List (ℕ × ClientModel C)) (outlet' : Outlet RunModel) : Type 0 where
  pub rests : (place : ℕ) → IsAtRestAt gives_none takes_none old outlet place ⊎ ((from ≤ place) × (place < end)) → IsAtRestAt gives_none takes_none new outlet' place
  pub len : length new ≡ length old
