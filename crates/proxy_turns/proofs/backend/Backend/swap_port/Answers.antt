use Rattle.std.proofs.Common.{Some}
use Rattle.proxy_turns.proofs.Backends.{none_unless}
use Rattle.proxy_turns.proofs.backend.Backend.swap_port.Goals as goal

pub returns : goal.returns
returns g c = (
  c.in-Some.link,
  c.in-Some.is,
  none_unless _ c.if-failed.ensures.1,
  c.swap_port.ensures.taken,
  (λ i. record c.args.self.now { link = Some (c.swap_port.ensures.link i) }),
)
