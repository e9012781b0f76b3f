use Rattle.std.proofs.Common.{arith}
use Rattle.resp_wire.proofs.PlaceLaws.{wants_at}
use Rattle.resp_wire.proofs.counts.Counts.wants_item.Goals as goal

pub returns-then-self-gt0 : goal.returns-then-self-gt0
returns-then-self-gt0 c = wants_at c.self.inside.counts c.args.self.now c.self.inside.len c.if-self-gt0.true (omega (arith, c.self.invariant)) c.self.view_is
