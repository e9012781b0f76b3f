use Rattle.local_cluster.proofs.Moving.{move-kept}
use Rattle.local_cluster.proofs.laws.moving_keeps.Goals as goal

pub returns : goal.returns
returns c = move-kept
