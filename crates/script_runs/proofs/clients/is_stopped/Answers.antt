use Rattle.script_runs.proofs.Judging.{stopped-told}
use Rattle.script_runs.proofs.clients.is_stopped.Goals as goal

pub returns : goal.returns
returns c = stopped-told c.args.stopped.now c.args.worker c.contains.result c.contains.ensures.cases
