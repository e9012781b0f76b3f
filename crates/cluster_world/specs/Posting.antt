-- When a run may be posted, said of the commands as they stand.
-- world_laws says it step by step, over commands of which those before have gone (GoOut); both say the same. Only private
-- functions cite it.
use Rattle.std.specs.Prelude.{◌≡◌, ◌≢◌, ◌⊎◌, ◌≤◌, ◌<◌, ℕ, true, List, [], ◌∷◌, ◌++◌, length, Option, Some, None, All, slice_get}
use Rattle.key_split.specs.declared.travel.Ticket.{Ticket}
use Rattle.command_future.specs.CommandModel.{asks_at}
use Rattle.world_laws.specs.State.{HasEnded, slot_for}
use Rattle.world_laws.specs.World.{Way, GoOut, IsAmong, IsOf, MayGo}
use Rattle.world_laws.specs.declared.state.Arrival.{Arrival}
use Rattle.cluster_world.specs.Commands.{of_turn, HasTurn}
use Rattle.cluster_world.specs.Machine.{run_limit}
use Rattle.cluster_world.specs.Rows.{rank}

-- the way of a run whose first command this is
abbrev pub way_for : Arrival → Way
way_for c = record { client = c.command.ticket.client; slot = slot_for c.command.part; asking = asks_at c.command.stage }

-- the command is that of a run's first ticket
abbrev pub IsHead : List Ticket → List Arrival → Arrival → Type 0
IsHead tickets commands c = (t : Ticket) × (later : List Ticket) × (i : ℕ) × (tickets ≡ t ∷ later) × IsOf t commands i c

abbrev pub HeadIs : List Ticket → List Arrival → Option Arrival → Type 0
HeadIs tickets commands None = (c : Arrival) → IsHead tickets commands c → ⊥
HeadIs tickets commands (Some c) = IsHead tickets commands c

-- the ticket's command may go this way, behind those before it
abbrev pub MayFollow : Way → ℕ → List Ticket → Ticket → List Arrival → Type 0
MayFollow way node before t commands = (IsAmong before t → ⊥) × ((i : ℕ) × (c : Arrival) × IsOf t commands i c × MayGo way node c × HasTurn before commands i c)

abbrev pub GoTogether : Way → ℕ → List Ticket → List Ticket → List Arrival → Type 0
GoTogether way node before [] commands = Unit {0}
GoTogether way node before (t ∷ ts) commands = MayFollow way node before t commands × GoTogether way node (before ++ t ∷ []) ts commands

-- of the commands of the way's turn the first `count` have ended, or are among these
abbrev pub ArePast : Way → List Ticket → ℕ → List Arrival → Type 0
ArePast way before count commands = (i : ℕ) (c : Arrival) → slice_get commands i ≡ Some c → of_turn way.client way.slot c ≡ true
    → rank (of_turn way.client way.slot) commands i < count → HasEnded c ⊎ IsAmong before c.command.ticket

-- one more follows, and this number is past then; or it may not
abbrev pub Follows : Way → ℕ → List Ticket → Ticket → List Arrival → Option ℕ → Type 0
Follows way node before t commands None = MayFollow way node before t commands → ⊥
Follows way node before t commands (Some past) = MayFollow way node before t commands × ArePast way (before ++ t ∷ []) past commands

-- the ticket's command was not refused yet
abbrev pub IsFresh : List Arrival → Ticket → Type 0
IsFresh commands t = (i : ℕ) (c : Arrival) → IsOf t commands i c → c.command.followed ≡ 0

-- the tickets may be a run
abbrev pub IsRun : List Ticket → List Arrival → Type 0
IsRun tickets commands = (tickets ≢ []) × (length tickets ≤ run_limit) × ((length tickets ≡ 1) ⊎ All (IsFresh commands) tickets)

-- the run goes out, and leaves these
abbrev pub GoesOut : ℕ → List Ticket → List Arrival → List Arrival → Type 0
GoesOut node tickets commands after = (way : Way) × GoOut way node [] tickets commands after
