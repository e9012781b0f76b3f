use Rattle.cluster_world.specs.One.{WritesFor}
use Rattle.cluster_world.proofs.Ended.{ends_early}
use Rattle.cluster_world.proofs.one.run_one.Goals as goal

pub returns-in-Err-clause-ends : goal.returns-in-Err-clause-ends
returns-in-Err-clause-ends g c = λ input known. ends_early (WritesFor 1048576 input) _ _ _ c.in-Err.ensures.failed
