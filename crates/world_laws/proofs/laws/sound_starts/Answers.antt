use Rattle.world_laws.proofs.Runs.{end-sound}
use Rattle.world_laws.proofs.Sound.{new-sound}
use Rattle.world_laws.proofs.laws.sound_starts.Goals as goal

pub returns-clause-new : goal.returns-clause-new
returns-clause-new c = new-sound

pub returns-clause-ends : goal.returns-clause-ends
returns-clause-ends c = end-sound
