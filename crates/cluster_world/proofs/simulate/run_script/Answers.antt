use Rattle.std.proofs.Common.{subst, sym}
use Rattle.cluster_world.specs.Simulate.{WritesFor}
use Rattle.cluster_world.proofs.Ended.{unwritten}
use Rattle.cluster_world.proofs.Runs.{written}
use Rattle.cluster_world.proofs.simulate.run_script.Goals as goal

pub returns-in-Ok-clause-exact : goal.returns-in-Ok-clause-exact
returns-in-Ok-clause-exact g c = λ input known. (
  c.in_ok-outcome.outcome.text.items,
  subst (λ status. WritesFor 1048576 input c.args.reader.now.reads c.read_input.new.reader status c.in_ok-outcome.outcome.text.items) (sym c.in-Ok.ensures.status)
      (written 1048576 input c.args.reader.now.reads c.read_input.new.reader c.in_ok-input.input c.in_ok-outcome.outcome (c.in_ok-input.ensures.whole input known) c.in_ok-outcome.ensures.text),
  c.in-Ok.ensures.appends,
)

pub returns-in_err-input-clause-failed : goal.returns-in_err-input-clause-failed
returns-in_err-input-clause-failed g c = unwritten _ _ _

pub returns-in_err-outcome-clause-failed : goal.returns-in_err-outcome-clause-failed
returns-in_err-outcome-clause-failed g c = unwritten _ _ _
