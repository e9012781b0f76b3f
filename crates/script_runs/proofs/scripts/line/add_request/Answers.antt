use Rattle.script_runs.specs.Scripts.{spelled, task_of}
use Rattle.script_runs.proofs.Saying.{added}
use Rattle.script_runs.proofs.scripts.line.add_request.Goals as goal

pub returns : goal.returns
returns c =
    added (task_of c.args.scripts.now) c.args.scripts.now.clients.items c.pop.new.self.items c.push.new.self.items c.in-Some.last (spelled c.args.words)
    c.in_ok-longer.longer c.in-Some.ensures.items c.in_ok-longer.ensures c.in_ok-push.ensures.items
