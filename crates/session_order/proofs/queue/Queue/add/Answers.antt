use Rattle.std.proofs.Common.{arith, sym, ap, ◌∙◌}
use Rattle.std.proofs.lemmas.Grind.{common_steps}
use Rattle.session_order.specs.DoneParts.{done_at_front}
use Rattle.session_order.proofs.Fronting.{front_push}
use Rattle.session_order.proofs.queue.Queue.add.Goals as goal

pub invariant_of-self-2 : goal.invariant_of-self-2
invariant_of-self-2 c =
    let room = rw (← c.self.view_is) at c.requires in
    let same = c.make_room.ensures.same in (
      grind (arith, common_steps, room, same, c.push_parts.ensures.first, c.push_parts.ensures.stages),
      c.push_parts.ensures.sound,
      c.self.invariant.2 ∙ sym (ap done_at_front c.push_parts.ensures.stages ∙ front_push c.make_room.new.tables.stages.items c.args.parts.items ∙ ap done_at_front same.1),
    )
