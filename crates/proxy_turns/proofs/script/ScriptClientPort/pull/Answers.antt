use Rattle.std.proofs.lemmas.Result.{err_from_is_err_and}
use Rattle.std.proofs.Common.{arith}
use Rattle.proxy_turns.proofs.Counting.{front_played, plays_nothing}
use Rattle.proxy_turns.proofs.script.ScriptClientPort.pull.Goals as goal

pub returns-clause-pulled : goal.returns-clause-pulled
returns-clause-pulled c =
    let count = c.copy_front-count.ensures in
    let copied = rw c.as_slice.ensures at count.copied in
    rw (← c.in_ok-is_served.ensures.kept, ← c.self.view_is) (
      omega (arith, count.count, count.len),
      front_played c.self.inside.client c.self.inside.bytes c.copy_front-count.new.buffer c.self.inside.replies c.self.inside.ends.items c.self.inside.pulled _ copied,
    )

pub returns-in_err-is_served-clause-pulled : goal.returns-in_err-is_served-clause-pulled
returns-in_err-is_served-clause-pulled c =
    let is = (err_from_is_err_and c.from_residual.result c.from_residual.ensures.1).1 in
    rw is (rw c.in_err-is_served.ensures.kept (plays_nothing _))

pub returns-then-branch-clause-pulled : goal.returns-then-branch-clause-pulled
returns-then-branch-clause-pulled c = rw c.in_ok-is_served.ensures.kept (plays_nothing _, c.in_ok-is_served.ensures.served.0 c.if-branch.true)

pub returns-then-branch-clause-answer : goal.returns-then-branch-clause-answer
returns-then-branch-clause-answer c = c.in_ok-is_served.ensures.served.0 c.if-branch.true

pub returns-then-is_empty-clause-pulled : goal.returns-then-is_empty-clause-pulled
returns-then-is_empty-clause-pulled c = rw c.in_ok-is_served.ensures.kept (plays_nothing _)
