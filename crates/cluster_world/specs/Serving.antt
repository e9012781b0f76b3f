-- The parts of a run that a link's node is to serve.
-- Only private functions cite it.
use Rattle.std.specs.Prelude.{◌≡◌, ℕ, List, [], ◌∷◌, Vec, Result, Ok, Err, None}
use Rattle.std.specs.declared.alloc.Global.{Global}
use Rattle.key_split.specs.PartModel.{PartModel, HasOneSlot}
use Rattle.key_split.specs.declared.travel.Ticket.{Ticket}
use Rattle.world_laws.specs.World.{IsAmong, IsOf}
use Rattle.world_laws.specs.declared.state.Arrival.{Arrival}
use Rattle.cluster_world.specs.Commands.{place_for}
use Rattle.cluster_world.specs.declared.fault.WorldFault.{WorldFault}
use Rattle.cluster_world.specs.declared.fault.WorldFault.TheVariants.{NoMemory, NotNow}

-- the part of the ticket's command
abbrev pub IsPartOf : List Arrival → Ticket → PartModel → Type 0
IsPartOf commands t p = (i : ℕ) × (c : Arrival) × IsOf t commands i c × (p ≡ c.command.part) × HasOneSlot p

-- those of the tickets' commands, in order
abbrev pub AreParts : List Arrival → List Ticket → List PartModel → Type 0
AreParts commands [] [] = Unit {0}
AreParts commands (t ∷ ts) (p ∷ ps) = IsPartOf commands t p × AreParts commands ts ps
AreParts commands [] (p ∷ ps) = ⊥
AreParts commands (t ∷ ts) [] = ⊥

-- the parts; or a command did not arrive; or there is no memory
abbrev pub GivesParts : List Arrival → List Ticket → Result (Vec PartModel Global) WorldFault → Type 0
GivesParts commands tickets (Ok parts) = AreParts commands tickets parts.items
GivesParts commands tickets (Err NotNow) = (t : Ticket) × IsAmong tickets t × (place_for commands t ≡ None)
GivesParts commands tickets (Err NoMemory) = Unit {0}
