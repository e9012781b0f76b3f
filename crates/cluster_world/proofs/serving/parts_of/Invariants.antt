use Rattle.std.proofs.Common.{◌++◌, List, length}
use Rattle.key_split.specs.PartModel.{PartModel}
use Rattle.key_split.specs.declared.travel.Ticket.{Ticket}
use Rattle.world_laws.specs.World.{IsAmong}
use Rattle.cluster_world.specs.Serving.{AreParts}
use Rattle.cluster_world.proofs.serving.parts_of.Given as goal

-- whatever more comes, those of the rest make the whole; and the rest are of them
abbrev pub invariant-loop-rest : goal.invariant-loop-rest
invariant-loop-rest l =
    ((more : List PartModel) → AreParts l.commands l.rest more → AreParts l.commands l.tickets (l.parts.items ++ more))
    × ((t : Ticket) → IsAmong l.rest t → IsAmong l.tickets t)

abbrev pub decreases-loop-rest : goal.decreases-loop-rest
decreases-loop-rest l = length l.rest
