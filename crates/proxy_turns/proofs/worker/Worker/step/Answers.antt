use Rattle.std.proofs.Common.{refl}
use Rattle.proxy_turns.proofs.worker.Worker.step.Goals as goal

pub returns-then-not-pass-clause-does : goal.returns-then-not-pass-clause-does
returns-then-not-pass-clause-does g c = (rw c.if-not-pass.true at c.pass.ensures, refl)

pub returns-in-Err-clause-does : goal.returns-in-Err-clause-does
returns-in-Err-clause-does g c = (rw c.if-not-pass.false at c.pass.ensures, c.in-Err.ensures.turns, (c.pass-in-Err.result, c.pass-in-Err.ensures))

pub returns-then-is_served-clause-does : goal.returns-then-is_served-clause-does
returns-then-is_served-clause-does g c =
    (rw c.if-not-pass.false at c.pass.ensures, (c.in-Ok.moved, c.in-Ok.ensures.turns), c.if-is_served.ensures.0 refl, (c.pass-then-is_served.result, c.pass-then-is_served.ensures))
