use Rattle.std.proofs.Common.{arith, refl, sym}
use Rattle.proxy_turns.proofs.Backends.{never, none_unless, too_long_for}
use Rattle.proxy_turns.proofs.backend.Backend.send.Goals as goal

pub returns-then-is_starved : goal.returns-then-is_starved
returns-then-is_starved g c =
    (c.in-Some.link, c.send_run-sent.new.self, c.in-Some.is, rw (c.if-is_starved.ensures.0 refl) at c.send_run-sent.ensures, refl)

pub returns-then-len-longest_run : goal.returns-then-len-longest_run
returns-then-len-longest_run g c = (
  (λ i. record c.args.self.now { link = sym c.in-Some.is i }),
  too_long_for g.P.RunPort.longest c.args.run.now c.args.self.now.link c.in-Some.link c.in-Some.is (none_unless _ c.if-failed.ensures.1) (omega (arith, c.if-len-longest_run.true, c.len.ensures, c.longest_run.ensures.exact))
      (omega (arith, c.if-len-longest_run.true, c.len.ensures, c.longest_run.ensures.some)),
)

pub returns : goal.returns
returns g c = (
  c.in-Some.link,
  c.send_run-sent.new.self,
  c.in-Some.is,
  omega (arith, c.if-len-longest_run.false, c.len.ensures, c.longest_run.ensures.exact),
  (c.send_run-sent.result, none_unless _ c.if-failed.ensures.1, (λ e. never c.if-is_starved.ensures.1 e), c.send_run-sent.ensures),
  refl,
)
