use Rattle.proxy_turns.specs.CarrierModel.{CarrierGoes}
use Rattle.proxy_engine.proofs.Draining.{turns-stay-draining}
use Rattle.proxy_engine.proofs.laws.turns_stay_draining.Goals as goal

pub returns : goal.returns
returns g c =
    let node = g.P.NodePort in
    turns-stay-draining g.C.ClientPort.moves (CarrierGoes node.calls g.D.Dial.opens g.P.RunPort.longest)
