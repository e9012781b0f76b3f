use Rattle.std.proofs.Common.{arith, ap, refl, ◌∙◌, ◌+◌, ◌≡◌, drop, length, length-drop, nat_eq}
use Rattle.std.specs.HashMap.{get}
use Rattle.std.specs.BinaryHeap.{heap_items}
use Rattle.session_order.specs.DoneParts.{done_at_front}
use Rattle.session_order.specs.Tables.{tally}
use Rattle.session_order.proofs.Fronting.{front_least, front_drop}
use Rattle.session_order.proofs.Tabling.{dropped}
use Rattle.session_order.proofs.Turning.{waiting_drop}
use Rattle.session_order.proofs.queue.Queue.drop_front.Goals as goal

pub overflow_sub-self : goal.overflow_sub-self
overflow_sub-self c =
    let fits = rw (← c.self.view_is) at c.requires.fits in
    let done = rw (← c.self.view_is) at c.requires.done in
    omega (arith, c.self.invariant.2, front_least c.self.inside.tables.stages.items c.args.count fits done)

pub invariant_of-self : goal.invariant_of-self
invariant_of-self c =
    let t = c.self.inside.tables in
    let n = c.args.count in
    let fits = rw (← c.self.view_is) at c.requires.fits in
    let done = rw (← c.self.view_is) at c.requires.done in
    let sound = c.self.invariant.1 in
    let stages_are : c.drop.new.self.0.items ≡ drop n t.stages.items = c.drop.ensures.items ∙ c.drain.ensures.kept in
    let later_are : c.drop-2.new.self.0.items ≡ drop n t.later.items = c.drop-2.ensures.items ∙ c.drain-2.ensures.kept in
    let earlier_are : c.drop-3.new.self.0.items ≡ drop n t.earlier.items = c.drop-3.ensures.items ∙ c.drain-3.ensures.kept in (
      omega (arith, c.self.invariant.0, fits, ap length stages_are, length-drop n t.stages.items),
      record {
        tabled = rw (stages_are, later_are, earlier_are) (dropped t.first (t.first + n) n t.stages.items t.later.items t.earlier.items (get nat_eq t.last) (tally (heap_items t.turns)) refl done fits sound.tabled);
        ordered = sound.ordered;
        room = rw stages_are (omega (arith, waiting_drop n t.stages.items, sound.room));
      },
      omega (arith, c.self.invariant.2, front_drop t.stages.items n fits done, ap done_at_front stages_are),
    )
