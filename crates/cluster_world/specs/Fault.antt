-- The faults of the nodes' steps, as the world's.
-- Only private functions cite it.
use Rattle.node_model.specs.declared.standing.MoveFault.{MoveFault}
use Rattle.node_model.specs.declared.standing.MoveFault.TheVariants as move
use Rattle.node_model.specs.declared.role.ServeFault.{ServeFault}
use Rattle.node_model.specs.declared.role.ServeFault.TheVariants as serve
use Rattle.cluster_world.specs.declared.fault.WorldFault.{WorldFault}
use Rattle.cluster_world.specs.declared.fault.WorldFault.TheVariants.{NoMemory, NotNow}

-- why a step of a move was not made
abbrev pub of_move : MoveFault → WorldFault
of_move move.NoMemory = NoMemory
of_move move.NotNow = NotNow

-- why a command was not served
abbrev pub of_serve : ServeFault → WorldFault
of_serve serve.NoMemory = NoMemory
of_serve serve.NoSuchNode = NotNow
of_serve serve.NotThisVerdict = NotNow
