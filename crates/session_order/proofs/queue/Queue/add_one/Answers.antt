use Rattle.std.proofs.Common.{[], ◌∷◌, arith, sym, ap, ◌∙◌, length-drop}
use Rattle.std.proofs.lemmas.Grind.{common_steps}
use Rattle.session_order.specs.DoneParts.{done_at_front}
use Rattle.session_order.proofs.Fronting.{front_push}
use Rattle.session_order.proofs.queue.Queue.add_one.Goals as goal

pub invariant_of-self-2 : goal.invariant_of-self-2
invariant_of-self-2 c =
    let numbered = rw (← c.self.view_is) at c.requires.numbered in
    let same = c.make_room.ensures.same in (
      grind (arith, common_steps, numbered, same, c.push_part.ensures.first, c.push_part.ensures.stages),
      c.push_part.ensures.sound,
      c.self.invariant.2 ∙ sym (ap done_at_front c.push_part.ensures.stages ∙ front_push c.make_room.new.tables.stages.items (c.taken.result ∷ []) ∙ ap done_at_front same.1),
    )
