use Rattle.proxy_turns.specs.declared.newcomer.Newcomer.{Newcomer}
use Rattle.proxy_engine.proofs.Unseen.{worker-unseen}
use Rattle.proxy_engine.proofs.UnseenCarrier.{carrier-unseen}
use Rattle.proxy_engine.proofs.laws.looks_are_unseen.Goals as goal

pub returns-clause-worker : goal.returns-clause-worker
returns-clause-worker g c = worker-unseen g.C.ClientPort.moves

pub returns-clause-carrier : goal.returns-clause-carrier
returns-clause-carrier g c =
    carrier-unseen (Newcomer g.row.C.Denot g.row.J.Denot) g.P.NodePort.calls g.D.Dial.opens g.P.RunPort.longest
