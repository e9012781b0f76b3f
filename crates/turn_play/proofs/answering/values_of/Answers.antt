use Rattle.std.proofs.Common.{◌≡◌, suc, ap, arith, length}
use Rattle.std.specs.Vec.Iter.{into_iter_items}
use Rattle.turn_play.specs.Answering.{replies_in}
use Rattle.turn_play.proofs.Answered.{value-more, values-end}
use Rattle.turn_play.proofs.answering.values_of.Goals as goal

pub loop-told-preserved : goal.loop-told-preserved
loop-told-preserved c =
    let i = c.loop-told.invariant in
    let rest = into_iter_items c.next.new.self in
    let left = c.in-Some.ensures.steps.0 in
    let fewer : length (into_iter_items c.loop-told.told-iterator) ≡ suc (length rest) = ap length left in
    record {
      replies = value-more c.loop-told.values.items c.push_reserved.new.self.items c.in-Some.told c.in-Ok.value rest (into_iter_items c.loop-told.told-iterator) (replies_in c.args.tolds.items) i.replies left c.in-Ok.ensures c.push_reserved.ensures.items;
      room = omega (arith, i.room, fewer, c.push_reserved.ensures.len, c.push_reserved.ensures.capacity);
    }

pub returns-in-Err : goal.returns-in-Err
returns-in-Err c =
    values-end c.loop-told.values.items c.in-Some.told (into_iter_items c.next.new.self) (into_iter_items c.loop-told.told-iterator) (replies_in c.args.tolds.items) c.loop-told.invariant.replies c.in-Some.ensures.steps.0 c.in-Err.ensures.1
