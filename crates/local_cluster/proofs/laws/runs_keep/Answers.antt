use Rattle.local_cluster.proofs.RunServed.{runs-keep}
use Rattle.local_cluster.proofs.laws.runs_keep.Goals as goal

pub returns : goal.returns
returns c = runs-keep
