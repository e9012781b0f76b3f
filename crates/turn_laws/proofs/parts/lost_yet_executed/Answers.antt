use Rattle.turn_laws.proofs.Stories.{lost-yet-executed}
use Rattle.turn_laws.proofs.parts.lost_yet_executed.Goals as goal

pub returns : goal.returns
returns c = lost-yet-executed
