use Rattle.turn_play.proofs.Turning.{engines-play}
use Rattle.turn_play.proofs.laws.engines_play.Goals as goal

pub returns : goal.returns
returns g c =
    engines-play g.row.C.Denot g.row.J.Denot g.C.ClientPort.moves g.P.WiredPort.wired g.P.NodePort.calls g.D.Dial.opens g.P.RunPort.longest c.any_client.ensures.events c.any_port.ensures c.turns_are_events.ensures
