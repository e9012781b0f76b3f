use Rattle.script_runs.specs.RunText.{WritesFor}
use Rattle.cluster_world.proofs.Ended.{ends_early}
use Rattle.script_runs.proofs.scripts.run.run_scripts.Goals as goal

pub returns-in-Err-clause-ends : goal.returns-in-Err-clause-ends
returns-in-Err-clause-ends g c = λ input known. ends_early (WritesFor 1048576 c.args.workers input c.args.reader.now.reads c.play_scripts.new.reader) _ _ _ c.in-Err.ensures.failed
