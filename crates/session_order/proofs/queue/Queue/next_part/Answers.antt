use Rattle.std.proofs.Common.{refl, arith, sym, ap, subst, ◌∙◌, ◌+◌, ◌-◌, ◌≤◌, ◌≡◌, ℕ, List, Some, cond, nat_eq}
use Rattle.std.specs.Prelude.{slice_get, slice_set}
use Rattle.std.proofs.lemmas.List.{nil_from_length}
use Rattle.std.specs.BinaryHeap.{heap_items, heap_capacity}
use Rattle.std.specs.HashMap.{get}
use Rattle.slot_hash.specs.Slot.{slot_of}
use Rattle.session_order.specs.declared.queue.PartStage.TheVariants.{Waiting, Out}
use Rattle.session_order.specs.declared.queue.PartStage.{PartStage}
use Rattle.session_order.specs.Turn.{HandOutcome, QueueModel}
use Rattle.session_order.specs.Tables.{IsTabled, tally, waiting}
use Rattle.session_order.proofs.Turning.{top_turn, turn_waits, turn_above, turn_may, top_next, none_next, tally_pop, waiting_set}
use Rattle.session_order.proofs.Fronting.{front_handed, handed_numbered}
use Rattle.session_order.proofs.Tabling.{handed_first}
use Rattle.session_order.proofs.queue.Queue.next_part.Goals as goal

pub returns-in_default : goal.returns-in_default
returns-in_default c =
    rw (← c.self.view_is) (none_next _ _ _ _ _ _ c.self.invariant.1.tabled (nil_from_length (heap_items c.self.inside.tables.turns) (sym c.self.inside.tables.turns.data.ok.0 ∙ c.in_default.ensures.none)), refl)

pub overflow_sub-i : goal.overflow_sub-i
overflow_sub-i c = turn_above _ _ _ (top_turn _ _ _ _ _ _ _ _ c.self.invariant.1.tabled c.in-Some.ensures.permutation)

pub take_part-part-requires : goal.take_part-part-requires
take_part-part-requires c = turn_waits _ _ _ (top_turn _ _ _ _ _ _ _ _ c.self.invariant.1.tabled c.in-Some.ensures.permutation)

pub invariant_of-self-2 : goal.invariant_of-self-2
invariant_of-self-2 c =
    let t = c.self.inside.tables in
    let n = c.in-Some.field-0.0 in
    let part = c.take_part-part.result in
    let turn = top_turn _ _ _ _ _ _ _ _ c.self.invariant.1.tabled c.in-Some.ensures.permutation in
    let place : n ≡ t.first + (n - t.first) = omega (arith, turn_above _ _ _ turn) in
    let at : slice_get t.stages.items (n - t.first) ≡ Some (Waiting part) = c.take_part-part.ensures.part in
    let stages_are : c.take_part-part.new.stages.items ≡ slice_set t.stages.items (n - t.first) (Out (slot_of part.key)) =
    c.take_part-part.ensures.stages in
    let after = waiting_set t.stages.items (n - t.first) (Waiting part) (Out (slot_of part.key)) at in
    let left : (m : ℕ) → tally (heap_items t.turns) m ≡ cond (nat_eq m (t.first + (n - t.first))) 1 0 + tally (heap_items c.pop.new.self) m =
    λ m. tally_pop _ _ _ c.in-Some.ensures.permutation m ∙ ap (λ k. cond {A = ℕ} (nat_eq m k) 1 0 + tally (heap_items c.pop.new.self) m) place in
    let tabled : IsTabled t.first (slice_set t.stages.items (n - t.first) (Out (slot_of part.key))) t.later.items t.earlier.items (get nat_eq t.last) (tally (heap_items c.pop.new.self)) =
    handed_first t.first (n - t.first) t.stages.items t.later.items t.earlier.items (get nat_eq t.last) (tally (heap_items t.turns)) (tally (heap_items c.pop.new.self)) part at (turn_may _ _ _ turn) left c.self.invariant.1.tabled in
    let room : waiting (slice_set t.stages.items (n - t.first) (Out (slot_of part.key))) ≤ heap_capacity c.pop.new.self =
    omega (arith, after, c.in-Some.ensures.capacity, c.self.invariant.1.room) in
    let next = top_next _ _ _ _ _ _ _ _ part c.self.invariant.1.tabled c.in-Some.ensures.permutation (c.in-Some.ensures.heap_order c.self.invariant.1.ordered).1 at in
    let made : List PartStage → QueueModel = λ ss. record { first = t.first; stages = ss } in
    let does : HandOutcome (made t.stages.items) (Some (n, part)) (made c.take_part-part.new.stages.items) = (n - t.first, next, omega (arith, turn_above _ _ _ turn), ap made stages_are) in (
      handed_numbered (made t.stages.items) (made c.take_part-part.new.stages.items) (Some (n, part)) does c.self.invariant.0,
      record {
        tabled = subst (λ ss. IsTabled t.first ss t.later.items t.earlier.items (get nat_eq t.last) (tally (heap_items c.pop.new.self))) (sym stages_are) tabled;
        ordered = (c.in-Some.ensures.heap_order c.self.invariant.1.ordered).0;
        room = subst (λ ss. waiting ss ≤ heap_capacity c.pop.new.self) (sym stages_are) room;
      },
      c.self.invariant.2 ∙ sym (front_handed (made t.stages.items) (made c.take_part-part.new.stages.items) (Some (n, part)) does),
    )

pub returns : goal.returns
returns c =
    let t = c.self.inside.tables in
    let n = c.in-Some.field-0.0 in
    let part = c.take_part-part.result in
    let turn = top_turn _ _ _ _ _ _ _ _ c.self.invariant.1.tabled c.in-Some.ensures.permutation in
    let at : slice_get t.stages.items (n - t.first) ≡ Some (Waiting part) = c.take_part-part.ensures.part in
    let stages_are : c.take_part-part.new.stages.items ≡ slice_set t.stages.items (n - t.first) (Out (slot_of part.key)) =
    c.take_part-part.ensures.stages in
    let next = top_next _ _ _ _ _ _ _ _ part c.self.invariant.1.tabled c.in-Some.ensures.permutation (c.in-Some.ensures.heap_order c.self.invariant.1.ordered).1 at in
    let made : List PartStage → QueueModel = λ ss. record { first = t.first; stages = ss } in
    rw (← c.self.view_is) (n - t.first, next, omega (arith, turn_above _ _ _ turn), ap made stages_are)
