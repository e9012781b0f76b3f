-- The commands in order of arrival, and what the tables by which they are found say of them.
-- Only private functions cite it.
use Rattle.std.specs.Prelude.{◌≡◌, ◌⊎◌, ◌↔◌, ◌==◌, ◌&&◌, not, ℕ, Bool, true, List, length, take, Option, Some, None, All, count_by, position, slice_get, slice_set}
use Rattle.key_split.specs.declared.travel.Ticket.{Ticket}
use Rattle.key_split.specs.Same.{same_ticket}
use Rattle.command_future.specs.CommandModel.{MayPostTo}
use Rattle.command_future.specs.declared.stage.Stage.TheVariants.{Awaits}
use Rattle.world_laws.specs.State.{HasEnded, slot_for}
use Rattle.world_laws.specs.World.{IsAmong, SameTurn}
use Rattle.world_laws.specs.declared.state.Arrival.{Arrival}
use Rattle.cluster_world.specs.declared.rows.Row.{Row}
use Rattle.cluster_world.specs.declared.tables.Tables.{Tables}
use Rattle.cluster_world.specs.Rows.{rank, IsRow, IsRowSoFar}
use Rattle.cluster_world.specs.Tables.{place_in, client_in, turn_in}

-- the place of the ticket's command
abbrev pub place_for : List Arrival → Ticket → Option ℕ
place_for commands ticket = position (λ (c : Arrival). same_ticket ticket c.command.ticket) commands

-- how many commands of the client there are
abbrev pub count_for : List Arrival → ℕ → ℕ
count_for commands client = count_by (λ (c : Arrival). c.command.ticket.client == client) commands

-- the place of the client's oldest unanswered command
abbrev pub unanswered_for : List Arrival → ℕ → Option ℕ
unanswered_for commands client = position (λ (c : Arrival). (c.command.ticket.client == client) && not c.answered) commands

-- all commands of its turn before it have ended, or are among these
abbrev pub HasTurn : List Ticket → List Arrival → ℕ → Arrival → Type 0
HasTurn before commands place c = All (λ d. SameTurn c d → HasEnded d ⊎ IsAmong before d.command.ticket) (take place commands)

-- no two commands have one ticket
abbrev pub AreApart : List Arrival → Type 0
AreApart commands = (i j : ℕ) (c d : Arrival) → slice_get commands i ≡ Some c → slice_get commands j ≡ Some d → c.command.ticket ≡ d.command.ticket → i ≡ j

-- the command at the place may be posted at the node
abbrev pub MayPostAt : List Arrival → ℕ → ℕ → Type 0
MayPostAt commands place node = (c : Arrival) × (slice_get commands place ≡ Some c) × MayPostTo c.command.stage node

-- the command at the place awaits what it is told
abbrev pub AwaitsAt : List Arrival → ℕ → Type 0
AwaitsAt commands place = (c : Arrival) × (slice_get commands place ≡ Some c) × (c.command.stage ≡ Awaits)

-- the command at the place is this one from now on
abbrev pub Becomes : List Arrival → ℕ → (Arrival → Arrival) → List Arrival → Type 0
Becomes old place change new = (c : Arrival) → slice_get old place ≡ Some c → new ≡ slice_set old place (change c)

-- it was answered
abbrev pub once_answered : Arrival → Arrival
once_answered c = record c { answered = true }

-- The tables.

-- the client's
abbrev pub of_client : ℕ → Arrival → Bool
of_client client c = c.command.ticket.client == client

-- the client's, for the slot
abbrev pub of_turn : ℕ → ℕ → Arrival → Bool
of_turn client slot c = (c.command.ticket.client == client) && (slot_for c.command.part == slot)

-- how many commands of its turn stand before it
abbrev pub turn_rank : List Arrival → ℕ → Arrival → ℕ
turn_rank commands place c = rank (of_turn c.command.ticket.client (slot_for c.command.part)) commands place

abbrev pub IsAnswered : Arrival → Type 0
IsAnswered c = c.answered ≡ true

-- the client's part of this number stands there
abbrev pub StandsAt : List Arrival → ℕ → ℕ → ℕ → Type 0
StandsAt commands client part place =
    (c : Arrival) × (slice_get commands place ≡ Some c) × (c.command.ticket.client ≡ client) × (c.command.ticket.part ≡ part)

-- where it stands, or that it stands nowhere
abbrev pub StandsSo : List Arrival → ℕ → ℕ → Option ℕ → Type 0
StandsSo commands client part None = (place : ℕ) → StandsAt commands client part place → ⊥
StandsSo commands client part (Some place) = StandsAt commands client part place

-- The parts of a client are numbered as they came; each is found by its number, and each client and each turn has its row. The
-- row of a turn may lag behind where a later command ended first, which events bring about nowhere.
pub record AreFound (commands : List Arrival) (ranks : List ℕ) (place : ℕ → ℕ → Option ℕ) (client : ℕ → Row) (turn : ℕ → ℕ → Row) : Type 0 where
  pub numbered : (i : ℕ) (c : Arrival) → slice_get commands i ≡ Some c → c.command.ticket.part ≡ rank (of_client c.command.ticket.client) commands i
  pub placed : (n part i : ℕ) → (place n part ≡ Some i) ↔ StandsAt commands n part i
  pub clients : (n : ℕ) → IsRow (of_client n) IsAnswered commands (client n)
  pub turns : (n slot : ℕ) → IsRowSoFar (of_turn n slot) HasEnded commands (turn n slot)
  pub lengths : length ranks ≡ length commands
  pub ranked : (i : ℕ) (c : Arrival) → slice_get commands i ≡ Some c → slice_get ranks i ≡ Some (turn_rank commands i c)

-- the same of the tables
abbrev pub Find : List Arrival → Tables → Type 0
Find commands t = AreFound commands t.ranks.items (place_in t) (client_in t) (turn_in t)
