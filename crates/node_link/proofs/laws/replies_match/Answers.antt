use Rattle.node_link.proofs.Matching as matching
use Rattle.node_link.proofs.laws.replies_match.Goals as goal

pub returns : goal.returns
returns g c = matching.replies_match g.P.NodePort.calls
