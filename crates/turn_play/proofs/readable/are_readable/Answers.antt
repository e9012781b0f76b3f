use Rattle.std.proofs.Common.{arith}
use Rattle.turn_play.proofs.ReadBack.{one-more-readable}
use Rattle.turn_play.proofs.Overlong.{one-unreadable}
use Rattle.turn_play.proofs.readable.are_readable.Goals as goal

pub loop-at-preserved : goal.loop-at-preserved
loop-at-preserved c =
    one-more-readable c.args.values.now.items c.loop-at.at c.index.result.now (omega (arith, c.loop-at-test.true, c.len-at-end.ensures, c.args.values.now.ok.0)) c.index.ensures (c.is_readable.ensures.0 c.if-not-is_readable.false) c.loop-at.invariant

pub returns-then-not-is_readable : goal.returns-then-not-is_readable
returns-then-not-is_readable c =
    one-unreadable c.args.values.now.items c.loop-at.at c.index.result.now c.is_readable.result (omega (arith, c.loop-at-test.true, c.len-at-end.ensures, c.args.values.now.ok.0)) c.index.ensures c.is_readable.ensures.1 c.if-not-is_readable.true
