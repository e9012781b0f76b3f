use Rattle.cluster_world.proofs.Runs.{bad_writes}
use Rattle.cluster_world.proofs.simulate.outcome_of_script.Goals as goal

pub returns-in_ok-text-in-Err-BadLine-clause-text : goal.returns-in_ok-text-in-Err-BadLine-clause-text
returns-in_ok-text-in-Err-BadLine-clause-text c = bad_writes c.args.script.now _ _ (rw c.in-Err-BadLine.field-0-is at c.in-Err-BadLine.ensures.text) c.in_ok-text-in-Err-BadLine.ensures
