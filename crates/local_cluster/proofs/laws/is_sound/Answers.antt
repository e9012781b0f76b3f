use Rattle.local_cluster.proofs.Sound.{new-kept, sound}
use Rattle.local_cluster.proofs.laws.is_sound.Goals as goal

pub returns : goal.returns
returns c = (new-kept, sound)
