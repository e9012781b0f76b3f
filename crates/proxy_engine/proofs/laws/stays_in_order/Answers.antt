use Rattle.proxy_engine.proofs.Growing.{carrier-stays, worker-stays}
use Rattle.proxy_engine.proofs.laws.stays_in_order.Goals as goal

pub returns-clause-worker : goal.returns-clause-worker
returns-clause-worker g c = worker-stays g.C.ClientPort.moves

pub returns-clause-carrier : goal.returns-clause-carrier
returns-clause-carrier g c = carrier-stays g.P.NodePort.calls g.D.Dial.opens g.P.RunPort.longest
