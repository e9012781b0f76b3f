-- What a play calls the fault of a node, and of a turn.
use Rattle.node_model.specs.declared.role.ServeFault.{ServeFault}
use Rattle.node_model.specs.declared.role.ServeFault.TheVariants as serve
use Rattle.proxy_engine.specs.declared.turned.EngineFault.{EngineFault}
use Rattle.proxy_engine.specs.declared.turned.EngineFault.TheVariants as turn
use Rattle.turn_play.specs.declared.fault.PlayFault.{PlayFault}
use Rattle.turn_play.specs.declared.fault.PlayFault.TheVariants.{NoMemory, NotServed, OutOfOrder}

abbrev pub of_serve : ServeFault → PlayFault
of_serve serve.NoMemory = NoMemory
of_serve serve.NoSuchNode = NotServed
of_serve serve.NotThisVerdict = NotServed

abbrev pub of_turn : EngineFault → PlayFault
of_turn turn.NoMemory = NoMemory
of_turn turn.OutOfOrder = OutOfOrder
