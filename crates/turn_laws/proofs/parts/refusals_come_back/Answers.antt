use Rattle.turn_laws.proofs.SingleSteps.{refusals-come-back}
use Rattle.turn_laws.proofs.parts.refusals_come_back.Goals as goal

pub returns : goal.returns
returns c = refusals-come-back
