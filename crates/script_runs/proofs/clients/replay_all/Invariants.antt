use Rattle.script_runs.proofs.Judging.{Reaches}
use Rattle.script_runs.proofs.clients.replay_all.Given as goal

abbrev pub invariant-loop-client : goal.invariant-loop-client
invariant-loop-client l = Reaches l.workers l.stopped l.ends l.scripts l.replies l.client l.parts.items l.are_answered
