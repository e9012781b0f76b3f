use Rattle.std.proofs.Common.{arith, ◌<◌}
use Rattle.resp_wire.proofs.SkipLaws.{empty_skipped, words_kept, other_skipped}
use Rattle.resp_wire.proofs.skip.skipped_array.Goals as goal

pub returns-then-len-eq0 : goal.returns-then-len-eq0
returns-then-len-eq0 c = empty_skipped c.args.limits.now c.args.limits.now.depth c.args.len c.args.rest.now (omega arith)

pub returns-then-are_bulks : goal.returns-then-are_bulks
returns-then-are_bulks c =
    let some : 0 < c.args.len = omega (arith, c.if-len-eq0.false) in
    words_kept c.args.limits.now c.args.limits.now.depth c.args.len c.args.rest.now some (rw c.if-are_bulks.true at c.are_bulks.ensures)

pub returns : goal.returns
returns c = other_skipped c.args.limits.now c.args.limits.now.depth c.args.len c.args.rest.now (rw c.if-are_bulks.false at c.are_bulks.ensures)
