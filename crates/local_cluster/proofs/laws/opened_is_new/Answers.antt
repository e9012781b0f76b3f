use Rattle.local_cluster.proofs.Opened.{opened-new}
use Rattle.local_cluster.proofs.laws.opened_is_new.Goals as goal

pub returns : goal.returns
returns c = opened-new
