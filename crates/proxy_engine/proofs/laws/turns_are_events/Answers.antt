use Rattle.proxy_engine.proofs.Events.{turns-are-events}
use Rattle.proxy_engine.proofs.laws.turns_are_events.Goals as goal

pub returns : goal.returns
returns g c =
    turns-are-events g.row.C.Denot g.row.J.Denot g.C.ClientPort.moves g.P.NodePort.calls g.D.Dial.opens g.P.RunPort.longest
