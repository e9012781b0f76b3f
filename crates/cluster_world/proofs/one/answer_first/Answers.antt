use Rattle.cluster_world.proofs.Ended.{unwritten}
use Rattle.cluster_world.proofs.one.answer_first.Goals as goal

pub returns-in_err-first-clause-failed : goal.returns-in_err-first-clause-failed
returns-in_err-first-clause-failed g c = unwritten _ _ _

pub returns-in_err-outcome-clause-failed : goal.returns-in_err-outcome-clause-failed
returns-in_err-outcome-clause-failed g c = unwritten _ _ _
