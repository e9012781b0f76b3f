use Rattle.turn_laws.proofs.SingleSteps.{earlier-ones-end}
use Rattle.turn_laws.proofs.parts.earlier_ones_end.Goals as goal

pub returns : goal.returns
returns c = earlier-ones-end
