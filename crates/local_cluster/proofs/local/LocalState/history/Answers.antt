use Rattle.local_cluster.proofs.Sound.{sound}
use Rattle.local_cluster.proofs.local.LocalState.history.Goals as goal

pub returns-clause-sound : goal.returns-clause-sound
returns-clause-sound c = rw (← c.self.view_is) (sound _ c.self.invariant)
