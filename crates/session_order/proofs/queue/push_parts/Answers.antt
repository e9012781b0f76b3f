use Rattle.std.proofs.Common.{arith, ap, subst, ◌∙◌, ◌≡◌, ◌∷◌, [], length, length-append, suc}
use Rattle.std.proofs.lemmas.Grind.{common_steps}
use Rattle.std.specs.Vec.Iter.{into_iter_items}
use Rattle.session_order.specs.declared.queue.PartStage.TheVariants.{Waiting}
use Rattle.session_order.specs.Tables.{HasRoom}
use Rattle.session_order.proofs.queue.push_parts.Goals as goal

pub loop-part-preserved : goal.loop-part-preserved
loop-part-preserved c =
    let i = c.loop-part.invariant in
    let rest = into_iter_items c.next.new.self in
    let left = c.in-Some.ensures.steps.0 in
    let fewer : length (into_iter_items c.loop-part.part-iterator) ≡ suc (length rest) = ap length left in
    let longer = length-append c.loop-part.tables.stages.items (Waiting c.in-Some.part ∷ []) in
    record {
      all = grind (arith, common_steps, left, i.all);
      sound = c.push_part.ensures.sound;
      first = c.push_part.ensures.first ∙ i.first;
      stages = grind (arith, common_steps, i.stages, c.push_part.ensures.stages);
      numbered = omega (arith, i.numbered, fewer, longer, c.push_part.ensures.first, ap length c.push_part.ensures.stages);
      room = c.push_part.ensures.room (length rest) (subst (λ n. HasRoom c.loop-part.tables n) fewer i.room);
    }
