use Rattle.std.proofs.Common.{drop}
use Rattle.script_runs.proofs.Texting.{TextReaches}
use Rattle.script_runs.proofs.scripts.text.push_replies.Given as goal

abbrev pub invariant-loop-client : goal.invariant-loop-client
invariant-loop-client l = TextReaches l.replies l.fn.out.items l.client (drop l.client l.replies) l.out.items
