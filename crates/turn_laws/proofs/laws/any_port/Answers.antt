use Rattle.turn_laws.proofs.OverCarrier.{any-ports}
use Rattle.turn_laws.proofs.laws.any_port.Goals as goal

pub returns : goal.returns
returns g c = any-ports g.P.WiredPort.wired g.P.NodePort.calls g.D.Dial.opens g.P.RunPort.longest g.met.P.WiredPort.stands
