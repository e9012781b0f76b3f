use Rattle.local_cluster.proofs.Served.{serving-keeps}
use Rattle.local_cluster.proofs.laws.serving_keeps.Goals as goal

pub returns : goal.returns
returns c = serving-keeps
