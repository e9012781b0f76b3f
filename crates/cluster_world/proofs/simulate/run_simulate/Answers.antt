use Rattle.cluster_world.specs.Simulate.{WritesFor}
use Rattle.cluster_world.proofs.Ended.{ends_early}
use Rattle.cluster_world.proofs.simulate.run_simulate.Goals as goal

pub returns-in-Err-clause-ends : goal.returns-in-Err-clause-ends
returns-in-Err-clause-ends g c = λ input known. ends_early (WritesFor 1048576 input c.args.reader.now.reads c.run_script.new.reader) _ _ _ c.in-Err.ensures.failed
