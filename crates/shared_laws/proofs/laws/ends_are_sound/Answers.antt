use Rattle.shared_laws.proofs.SharedRuns.{shared-end-sound}
use Rattle.shared_laws.proofs.laws.ends_are_sound.Goals as goal

pub returns : goal.returns
returns c = shared-end-sound
