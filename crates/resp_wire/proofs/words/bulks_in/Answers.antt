use Rattle.std.proofs.Common.{ap, length, arith}
use Rattle.resp_wire.proofs.WordLaws.{taken_more}
use Rattle.resp_wire.proofs.words.bulks_in.Goals as goal

pub loop-item-preserved : goal.loop-item-preserved
loop-item-preserved c =
    let left = ap length c.in-Some.ensures.steps.0 in (
      tt,
      tt,
      taken_more c.loop-item.words.items c.push.new.self.items c.in-Some-into_bulk.word _ _ c.in-Some.item _ c.in-Some.ensures.steps.0 c.in-Some-into_bulk.ensures (rw c.unwrap.ensures at c.push.ensures.items) c.loop-item.invariant.2,
      omega (arith, left, c.push.ensures.upper_bound, c.push.ensures.capacity, c.loop-item.invariant.3),
    )
