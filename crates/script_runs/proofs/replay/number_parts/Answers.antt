use Rattle.std.proofs.Common.{◌≡◌, arith, ap, ◌∙◌, length, suc}
use Rattle.std.specs.Vec.Iter.{into_iter_items}
use Rattle.script_runs.proofs.Replaying.{numbered-more}
use Rattle.script_runs.proofs.replay.number_parts.Goals as goal

pub loop-part-preserved : goal.loop-part-preserved
loop-part-preserved c =
    let i = c.loop-part.invariant in
    let left = c.in-Some.ensures.steps.0 in
    let fewer : length (into_iter_items c.loop-part.part-iterator) ≡ suc (length (into_iter_items c.next.new.self)) = ap length left in
    record {
      all = rw c.in_ok-push.ensures.items (numbered-more c.args.client_id c.loop-part.next c.loop-part.parts.items c.in-Some.part (into_iter_items c.next.new.self)
          (into_iter_items c.loop-part.part-iterator) c.ticket.result c.ticket.ensures left ∙ i.all);
      numbered = omega (arith, i.numbered, fewer);
    }
