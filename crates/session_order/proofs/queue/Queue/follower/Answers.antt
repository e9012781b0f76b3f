use Rattle.std.proofs.Common.{arith, refl, sym, ap, subst, ◌∙◌, ◌-◌, ◌≡◌, ◌≤◌, List, Some, nat_eq}
use Rattle.std.specs.Prelude.{slice_get, slice_set}
use Rattle.std.specs.HashMap.{get}
use Rattle.std.specs.BinaryHeap.{heap_items, heap_capacity}
use Rattle.slot_hash.specs.Slot.{slot_of}
use Rattle.session_order.specs.declared.queue.PartStage.{PartStage}
use Rattle.session_order.specs.declared.queue.PartStage.TheVariants.{Waiting, Out}
use Rattle.session_order.specs.Turn.{FollowOutcome, QueueModel}
use Rattle.session_order.specs.Tables.{IsTabled, tally, waiting}
use Rattle.session_order.proofs.Fronting.{front_followed, followed_numbered}
use Rattle.session_order.proofs.Following.{same_follower}
use Rattle.session_order.proofs.Tabling.{handed_behind}
use Rattle.session_order.proofs.Turning.{part_waits, waiting_set}
use Rattle.session_order.proofs.queue.Queue.follower.Goals as goal

pub returns-in_default : goal.returns-in_default
returns-in_default c = (c.in_default.ensures, refl)

pub overflow_sub-i : goal.overflow_sub-i
overflow_sub-i c = (rw (← c.self.view_is) at c.in-Some.ensures).1

pub take_part-part-requires : goal.take_part-part-requires
take_part-part-requires c = (let follows = rw (← c.self.view_is) at c.in-Some.ensures in part_waits _ follows.0 follows.2.waits)

pub invariant_of-self : goal.invariant_of-self
invariant_of-self c =
    let t = c.self.inside.tables in
    let follows = rw (← c.self.view_is) at c.in-Some.ensures in
    let i = c.args.number - t.first in
    let next = c.in-Some.next in
    let part = c.take_part-part.result in
    let at : slice_get t.stages.items (next - t.first) ≡ Some (Waiting part) = c.take_part-part.ensures.part in
    let follower = same_follower t.stages.items i (next - t.first) follows.0 part follows.2 at in
    let stages_are : c.take_part-part.new.stages.items ≡ slice_set t.stages.items (next - t.first) (Out (slot_of part.key)) = c.take_part-part.ensures.stages in
    let after = waiting_set t.stages.items (next - t.first) (Waiting part) (Out (slot_of part.key)) at in
    let tabled = handed_behind t.first i (next - t.first) t.stages.items t.later.items t.earlier.items (get nat_eq t.last) (tally (heap_items t.turns)) part at follower.out follower.in_order c.self.invariant.1.tabled in
    let room : waiting (slice_set t.stages.items (next - t.first) (Out (slot_of part.key))) ≤ heap_capacity t.turns = omega (arith, after, c.self.invariant.1.room) in
    let made : List PartStage → QueueModel = λ ss. record { first = t.first; stages = ss } in
    let does : FollowOutcome (made t.stages.items) c.args.number (Some (next, part)) (made c.take_part-part.new.stages.items) = (next - t.first, follower, omega (arith, follows.1), ap made stages_are) in (
      followed_numbered (made t.stages.items) (made c.take_part-part.new.stages.items) c.args.number (Some (next, part)) does c.self.invariant.0,
      record {
        tabled = subst (λ ss. IsTabled t.first ss t.later.items t.earlier.items (get nat_eq t.last) (tally (heap_items t.turns))) (sym stages_are) tabled;
        ordered = c.self.invariant.1.ordered;
        room = subst (λ ss. waiting ss ≤ heap_capacity t.turns) (sym stages_are) room;
      },
      c.self.invariant.2 ∙ sym (front_followed (made t.stages.items) (made c.take_part-part.new.stages.items) c.args.number (Some (next, part)) does),
    )

pub returns : goal.returns
returns c =
    let t = c.self.inside.tables in
    let follows = rw (← c.self.view_is) at c.in-Some.ensures in
    let i = c.args.number - t.first in
    let next = c.in-Some.next in
    let part = c.take_part-part.result in
    let at : slice_get t.stages.items (next - t.first) ≡ Some (Waiting part) = c.take_part-part.ensures.part in
    let follower = same_follower t.stages.items i (next - t.first) follows.0 part follows.2 at in
    let stages_are : c.take_part-part.new.stages.items ≡ slice_set t.stages.items (next - t.first) (Out (slot_of part.key)) = c.take_part-part.ensures.stages in
    let made : List PartStage → QueueModel = λ ss. record { first = t.first; stages = ss } in
    rw (← c.self.view_is) (next - t.first, follower, omega (arith, follows.1), ap made stages_are)
