use Rattle.std.proofs.Common.{◌≡◌, List, suc, arith, ap, length, sym, subst}
use Rattle.resp_wire.specs.declared.value.Value.{Value}
use Rattle.std.proofs.lemmas.Grind.{common_steps}
use Rattle.std.specs.Vec.Iter.{into_iter_items}
use Rattle.turn_laws.specs.Writing.{AreWritten}
use Rattle.turn_play.proofs.Said.{written-more}
use Rattle.turn_play.proofs.serving.write_all.Goals as goal

pub loop-told-preserved : goal.loop-told-preserved
loop-told-preserved c =
    let i = c.loop-told.invariant in
    let rest = into_iter_items c.next.new.self in
    let left = c.in-Some.ensures.steps.0 in
    let fewer : length (into_iter_items c.loop-told.told-iterator) ≡ suc (length rest) = ap length left in
    record {
      all = grind (arith, common_steps, left, i.all);
      written = subst (AreWritten c.args.nodes.now _) (sym {A = List Value} c.push_back_reserved.ensures.items) (written-more c.args.nodes.now c.loop-told.yielded c.loop-told.said.items c.in-Some.told c.in_ok-value.value i.written c.in_ok-value.ensures);
      room = omega (arith, i.room, fewer, c.push_back_reserved.ensures.len, c.push_back_reserved.ensures.capacity);
    }
