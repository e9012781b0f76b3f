-- Which commands of a worker have something to do, and that each of them is noted.
-- Only private functions cite it.
use Rattle.std.specs.Prelude.{◌≡◌, ◌≢◌, ◌⊎◌, ◌||◌, ◌&&◌, ◌++◌, ◌<◌, ◌∷◌, [], ℕ, Bool, true, false, List, Option, Some, None, Result, Ok, Err, IsSomeAnd, length, nat_eq, nat_lt, ⊤}
use Rattle.std.specs.List.{list_any}
use Rattle.std.specs.List.Sorted.{IsPermutation}
use Rattle.std.specs.Ordering.{nat_cmp}
use Rattle.std.specs.FinMap.{FinMap, get}
use Rattle.std.specs.declared.cmp.Reverse.{Reverse}
use Rattle.std.specs.BinaryHeap.{heap_items, heap_len, heap_capacity}
use Rattle.std.specs.VecDeque.{deque_len, deque_capacity}
use Rattle.resp_wire.specs.declared.fault.NoMemory.{NoMemory}
use Rattle.key_split.specs.Runs.{RunModel}
use Rattle.key_split.specs.declared.travel.Ticket.{Ticket}
use Rattle.command_future.specs.declared.stage.Stage.TheVariants.{Awaits}
use Rattle.command_future.specs.CommandModel.{CommandModel, WantsPost}
use Rattle.session_order.specs.SessionModel.{SessionModel}
use Rattle.session_order.specs.Behind.{IsOutFor}
use Rattle.proxy_lanes.specs.declared.ring.Outlet.{Outlet}
use Rattle.proxy_turns.specs.declared.due_commands.DueCommands.{DueCommands}
use Rattle.proxy_turns.specs.declared.due_commands.PausedCommand.{PausedCommand}
use Rattle.proxy_turns.specs.declared.turned.NextStep.{NextStep}
use Rattle.proxy_turns.specs.declared.turned.NextStep.TheVariants as next_step
use Rattle.proxy_turns.specs.declared.turned.Settled.{Settled}
use Rattle.proxy_turns.specs.declared.turned.Settled.TheVariants as settled
use Rattle.proxy_turns.specs.ClientModel.{ClientModel}
use Rattle.proxy_turns.specs.ClientRest.{HasNoPlace}
use Rattle.proxy_turns.specs.Pause.{pause_at}
use Rattle.proxy_turns.specs.Waiting.{AreLater, EndsThen}

-- whether this is a ticket for this part of this client
abbrev pub is_ticket : ℕ → ℕ → Ticket → Bool
is_ticket client part ticket = nat_eq client ticket.client && nat_eq part ticket.part

abbrev pub is_pause_of : ℕ → ℕ → Reverse PausedCommand → Bool
is_pause_of client part paused = nat_eq client paused.0.client && nat_eq part paused.0.part

-- Whether the command for this part of this client is noted, as one with this pause before its next post, or as one that
-- has ended.
abbrev pub is_noted : DueCommands → ℕ → ℕ → Option ℕ → Bool
is_noted due client part None = list_any (is_ticket client part) due.ended.items
is_noted due client part (Some pause) =
    list_any (is_ticket client part) due.due.items || (nat_lt 0 pause && list_any (is_pause_of client part) (heap_items due.paused))

-- what was noted is noted
abbrev pub KeepsNoted : DueCommands → DueCommands → Type 0
KeepsNoted old new = (client part : ℕ) (pause : Option ℕ) → is_noted old client part pause ≡ true → is_noted new client part pause ≡ true

-- there is room for one more, wherever it is noted
abbrev pub HasRoom : DueCommands → Type 0
HasRoom due = (deque_len due.ended < deque_capacity due.ended) × (deque_len due.due < deque_capacity due.due) × (heap_len due.paused < heap_capacity due.paused)

-- A refused command is due now, or waits until then.
abbrev pub NotesUntil : DueCommands → Ticket → Option ℕ → DueCommands → Type 0
NotesUntil old ticket None new = (new.due.items ≡ old.due.items ++ ticket ∷ []) × (heap_items new.paused ≡ heap_items old.paused)
NotesUntil old ticket (Some due) new = (new.due ≡ old.due)
    × ((paused : Reverse PausedCommand) × (paused.0 ≡ record { due = due; client = ticket.client; part = ticket.part }) × IsPermutation (paused ∷ heap_items old.paused) (heap_items new.paused))

-- The same, until its pause ends, which began at a time that the gate told.
abbrev pub NotesRefused : (Option ℕ → Type 0) → DueCommands → Ticket → ℕ → DueCommands → Type 0
NotesRefused tells old ticket pause new = (due : Option ℕ) × EndsThen tells pause due × NotesUntil old ticket due new

-- A command that was told something is noted so, where it has a pause before its next post.
abbrev pub NotesPause : (Option ℕ → Type 0) → DueCommands → Ticket → Option ℕ → DueCommands → Type 0
NotesPause tells old ticket None new = ⊤
NotesPause tells old ticket (Some pause) new = NotesRefused tells old ticket pause new

-- One pause ended; or none did, and each that waits is due later than at this time.
abbrev pub EndedOne : Option ℕ → List (Reverse PausedCommand) → Result Bool NoMemory → List (Reverse PausedCommand) → Type 0
EndedOne time old (Ok true) new = length new < length old
EndedOne time old (Ok false) new = AreLater time new
EndedOne time old (Err refused) new = ⊤

-- one of those that wait is taken off, or none
abbrev pub TakesPaused : DueCommands → Option Ticket → DueCommands → Type 0
TakesPaused old None new = (new.ended ≡ old.ended) × (new.due ≡ old.due) × (heap_items new.paused ≡ heap_items old.paused)
TakesPaused old (Some ticket) new = (new.ended ≡ old.ended) × (new.due ≡ old.due)
    × ((client part : ℕ) → list_any (is_pause_of client part) (heap_items old.paused) ≡ (is_ticket client part ticket || list_any (is_pause_of client part) (heap_items new.paused)))
    × ((taken : Reverse PausedCommand) × IsPermutation (heap_items old.paused) (taken ∷ heap_items new.paused))

-- no earlier part for the slot of this one is out
abbrev pub IsFirstOut : SessionModel → ℕ → Type 0
IsFirstOut session part = (slot number : ℕ) → IsOutFor session slot part → IsOutFor session slot number → number < part → ⊥

-- the command for the part of this number was posted, and has ended, or wants its post and its turn has come
abbrev pub IsToSettle : {C : Type 0} → ClientModel C → ℕ → CommandModel → Type 0
IsToSettle client part command = (get client.commands.posted part ≡ Some command) × (command.stage ≢ Awaits) × (WantsPost command.stage → command.ticket.part ≡ part → IsFirstOut client.session part)

-- the same of one of a worker's clients
abbrev pub IsToSettleAt : {C : Type 0} → FinMap nat_cmp (ClientModel C) → ℕ → ℕ → CommandModel → Type 0
IsToSettleAt {C} clients number part command = (client : ClientModel C) × (get clients number ≡ Some client) × IsToSettle client part command

-- What a posted command has to do, once its turn has come: nothing, or to end, or to be posted after this pause.
abbrev pub StepOf : NextStep → CommandModel → Type 0
StepOf next_step.Rest command = command.stage ≡ Awaits
StepOf next_step.End command = (command.stage ≢ Awaits) × (pause_at command.stage command.followed ≡ None)
StepOf (next_step.Post pause) command = WantsPost command.stage × (pause_at command.stage command.followed ≡ Some pause)

-- What one that has something to do has to do.
abbrev pub NextStepOf : NextStep → CommandModel → Type 0
NextStepOf next_step.Rest command = ⊥
NextStepOf next_step.End command = pause_at command.stage command.followed ≡ None
NextStepOf (next_step.Post pause) command = pause_at command.stage command.followed ≡ Some pause

-- each posted command that has ended, or wants its post and whose turn has come, is noted
abbrev pub AreNoted : {C : Type 0} → FinMap nat_cmp (ClientModel C) → DueCommands → Type 0
AreNoted clients due =
    (number part : ℕ) (command : CommandModel) → IsToSettleAt clients number part command → is_noted due number part (pause_at command.stage command.followed) ≡ true

-- What an attempt to post a command again leaves of it: the lane took nothing and it wants its post, or it wants none.
abbrev pub IsSettled : Result Settled NoMemory → (CommandModel → Type 0) → Outlet RunModel → Type 0
IsSettled (Ok settled.Posted) is_left outlet = (command : CommandModel) → is_left command → WantsPost command.stage → ⊥
IsSettled (Ok settled.Held) is_left outlet = HasNoPlace outlet
IsSettled (Ok settled.Nothing) is_left outlet = (command : CommandModel) → is_left command → WantsPost command.stage → ⊥
IsSettled (Err refused) is_left outlet = ⊤

-- each posted command that has something to do pauses before its next post, or the lane takes nothing more
abbrev pub AreSettled : {C : Type 0} → FinMap nat_cmp (ClientModel C) → Outlet RunModel → Type 0
AreSettled clients outlet =
    (number part : ℕ) (command : CommandModel) → IsToSettleAt clients number part command
    → WantsPost command.stage × (IsSomeAnd (pause_at command.stage command.followed) (λ pause. 0 < pause) ⊎ HasNoPlace outlet)
