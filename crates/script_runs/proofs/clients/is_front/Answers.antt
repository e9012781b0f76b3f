use Rattle.script_runs.proofs.Judging.{front-told}
use Rattle.script_runs.proofs.clients.is_front.Goals as goal

pub returns : goal.returns
returns c = front-told c.args.bytes.now c.args.whole.now c.eq.result c.eq.ensures
