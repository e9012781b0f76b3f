use Rattle.node_link.proofs.Telling.{receives_grow}
use Rattle.node_link.proofs.link.Link.receive.Goals as goal

pub returns-clause-grown : goal.returns-clause-grown
returns-clause-grown g c = receives_grow g.P.NodePort.calls _ _ _ _ _ c.receive_next.ensures.does
