use Rattle.std.proofs.Common.{List, length}
use Rattle.key_split.specs.declared.travel.Ticket.{Ticket}
use Rattle.world_laws.specs.World.{Way, GoOut}
use Rattle.world_laws.specs.declared.state.Arrival.{Arrival}
use Rattle.cluster_world.specs.Posting.{GoesOut}
use Rattle.cluster_world.proofs.posting.go_out.Given as goal

-- the rest can go out, and leaves what the whole does
abbrev pub invariant-loop-rest : goal.invariant-loop-rest
invariant-loop-rest l =
    ((after : List Arrival) × (way : Way) × (before : List Ticket) × GoOut way l.node before l.rest l.commands after)
    × ((after : List Arrival) → GoesOut l.node l.tickets l.fn.commands after → (way : Way) × (before : List Ticket) × GoOut way l.node before l.rest l.commands after)

abbrev pub decreases-loop-rest : goal.decreases-loop-rest
decreases-loop-rest l = length l.rest
