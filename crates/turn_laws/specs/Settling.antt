-- What came down to the workers is told to its commands at once: the machine may run ahead of the code that way.
use Rattle.std.specs.Prelude.{◌≡◌, ℕ, List, [], ◌∷◌, slice_set}
use Rattle.key_split.specs.declared.travel.Ticket.{Ticket}
use Rattle.key_split.specs.declared.travel.Told.{Told}
use Rattle.command_future.specs.declared.stage.Stage.TheVariants.{Awaits}
use Rattle.world_laws.specs.State.{WorldModel, after_told}
use Rattle.world_laws.specs.declared.state.Arrival.{Arrival}
use Rattle.world_laws.specs.World.{WorldDoes, IsOf}
use Rattle.world_laws.specs.declared.event.Event.{Event}
use Rattle.turn_laws.specs.Walks.{ticked, Walk, IsSharedWalked}

-- the command of this ticket, which awaits it, is told this
abbrev pub Tells : List Arrival → Ticket × Told → List Arrival → Type 0
Tells old pair new =
    (j : ℕ) × (c : Arrival) × IsOf pair.0 old j c × (c.command.ticket ≡ pair.0) × (c.command.stage ≡ Awaits)
    × (new ≡ slice_set old j (after_told c pair.1))

abbrev pub TellsAll : List Arrival → List (Ticket × Told) → List Arrival → Type 0
TellsAll old [] new = new ≡ old
TellsAll old (pair ∷ pairs) new = (mid : List Arrival) × Tells old pair mid × TellsAll mid pairs new

-- all that came down was told, and nothing else changed but the moment
abbrev pub Settles : WorldModel → WorldModel → Type 0
Settles w w' =
    (commands : List Arrival) × (moment : ℕ) × TellsAll w.commands w.downs commands
    × (w' ≡ record w { commands = commands; downs = []; moment = moment })

-- in a world that events reach, what came down can be told at once
abbrev pub Settling : Type 0
Settling = (w : WorldModel) → IsSharedWalked w → (events : List Event) × (w' : WorldModel) × Walk w events w' × Settles w w'

-- and so it can after any event
abbrev pub SettlingAfter : Type 0
SettlingAfter = (w mid : WorldModel) (event : Event) → IsSharedWalked w → WorldDoes (ticked w) event mid
    → (events : List Event) × (w' : WorldModel) × Walk w (event ∷ events) w' × Settles mid w' × IsSharedWalked w'
