use Rattle.cluster_world.proofs.Ended.{unwritten}
use Rattle.script_runs.proofs.scripts.run.play_scripts.Goals as goal

pub returns-in_err-input-clause-failed : goal.returns-in_err-input-clause-failed
returns-in_err-input-clause-failed g c = unwritten _ _ _

pub returns-in_err-outcome-clause-failed : goal.returns-in_err-outcome-clause-failed
returns-in_err-outcome-clause-failed g c = unwritten _ _ _
