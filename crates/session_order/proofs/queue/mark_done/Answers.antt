use Rattle.std.proofs.Common.{arith, refl, sym, ap, ◌∙◌, ◌+◌, ◌-◌, ◌∷◌, ◌≡◌, ℕ, Some, None, cond, nat_eq}
use Rattle.std.specs.Prelude.{slice_get, slice_set}
use Rattle.std.proofs.lemmas.List.{length-set}
use Rattle.std.specs.HashMap.{get}
use Rattle.std.specs.BinaryHeap.{heap_items, heap_capacity}
use Rattle.session_order.specs.declared.queue.PartStage.TheVariants.{Out, Done}
use Rattle.session_order.specs.Tables.{IsTabled, tally, taken_up}
use Rattle.session_order.proofs.Tabling.{ended, puts_none, puts_no_more, puts_next, follows_within}
use Rattle.session_order.proofs.Turning.{got, on_ok, tally_push, heap_few, waiting_set, waits_if, stands_if}
use Rattle.session_order.proofs.queue.mark_done.Goals as goal

pub returns-in_default-clause-sound : goal.returns-in_default-clause-sound
returns-in_default-clause-sound c =
    let t = c.args.tables.now in
    let i = c.args.number - t.first in
    let slot = c.number.result in
    let out : slice_get t.stages.items i ≡ Some (Out slot) = c.slot_out-slot.ensures ∙ ap (λ n. Some (Out n)) (sym c.number.ensures.value) in
    let fewer = waiting_set t.stages.items i (Out slot) Done out in
    let puts = puts_none t.first i slot t.stages.items (sym c.in_default.is ∙ c.unlink-next.ensures.follows) in
    let tabled = ended t.first i slot t.stages.items t.later.items t.earlier.items (get nat_eq t.last) (tally (heap_items t.turns)) None out puts c.requires.sound.tabled _ _ (get nat_eq c.unlink-next.new.tables.last) (tally (heap_items t.turns))
    c.unlink-next.ensures.linked (λ m. omega arith) in
    record {
      tabled = rw (c.unlink-next.ensures.first, c.unlink-next.ensures.stages, c.unlink-next.ensures.turns) tabled;
      ordered = rw c.unlink-next.ensures.turns c.requires.sound.ordered;
      room = rw (c.unlink-next.ensures.stages, c.unlink-next.ensures.turns) (omega (arith, fewer, c.requires.sound.room));
    }

pub index-requires : goal.index-requires
index-requires c =
    let t = c.args.tables.now in
    let i = c.args.number - t.first in
    let slot = c.number.result in
    let within = (follows_within t.first i slot c.in-Some.next t.stages.items (sym c.in-Some.is ∙ c.unlink-next.ensures.follows)).1 in
    rw (c.unlink-next.ensures.first, c.unlink-next.ensures.stages) (omega (arith, within, t.stages.ok.0))

pub returns-then-not-is_waiting-clause-sound : goal.returns-then-not-is_waiting-clause-sound
returns-then-not-is_waiting-clause-sound c =
    let t = c.args.tables.now in
    let i = c.args.number - t.first in
    let slot = c.number.result in
    let out : slice_get t.stages.items i ≡ Some (Out slot) = c.slot_out-slot.ensures ∙ ap (λ n. Some (Out n)) (sym c.number.ensures.value) in
    let fewer = waiting_set t.stages.items i (Out slot) Done out in
    let next = c.in-Some.next in
    let follows = sym c.in-Some.is ∙ c.unlink-next.ensures.follows in
    let within = (follows_within t.first i slot next t.stages.items follows).1 in
    let there : slice_get (slice_set t.stages.items i Done) (next - t.first) ≡ Some c.index.result.now = got (slice_set t.stages.items i Done) (next - t.first) _ (omega (arith, within, length-set t.stages.items i Done))
    (rw (c.unlink-next.ensures.first, c.unlink-next.ensures.stages) at c.index.ensures) in
    let puts = puts_no_more t.first i slot next t.stages.items follows (stands_if _ c.index.result.now there (sym c.is_waiting.ensures ∙ c.if-not-is_waiting.true)) in
    let tabled = ended t.first i slot t.stages.items t.later.items t.earlier.items (get nat_eq t.last) (tally (heap_items t.turns)) None out puts c.requires.sound.tabled _ _ (get nat_eq c.unlink-next.new.tables.last) (tally (heap_items t.turns))
    c.unlink-next.ensures.linked (λ m. omega arith) in
    record {
      tabled = rw (c.unlink-next.ensures.first, c.unlink-next.ensures.stages, c.unlink-next.ensures.turns) tabled;
      ordered = rw c.unlink-next.ensures.turns c.requires.sound.ordered;
      room = rw (c.unlink-next.ensures.stages, c.unlink-next.ensures.turns) (omega (arith, fewer, c.requires.sound.room));
    }

pub returns-clause-sound : goal.returns-clause-sound
returns-clause-sound c =
    let t = c.args.tables.now in
    let i = c.args.number - t.first in
    let slot = c.number.result in
    let out : slice_get t.stages.items i ≡ Some (Out slot) = c.slot_out-slot.ensures ∙ ap (λ n. Some (Out n)) (sym c.number.ensures.value) in
    let fewer = waiting_set t.stages.items i (Out slot) Done out in
    let next = c.in-Some.next in
    let follows = sym c.in-Some.is ∙ c.unlink-next.ensures.follows in
    let within = (follows_within t.first i slot next t.stages.items follows).1 in
    let there : slice_get (slice_set t.stages.items i Done) (next - t.first) ≡ Some c.index.result.now = got (slice_set t.stages.items i Done) (next - t.first) _ (omega (arith, within, length-set t.stages.items i Done))
    (rw (c.unlink-next.ensures.first, c.unlink-next.ensures.stages) at c.index.ensures) in
    let puts = puts_next t.first i slot next t.stages.items follows (waits_if _ c.index.result.now there (sym c.is_waiting.ensures ∙ c.if-not-is_waiting.false)) in
    let is_turns = c.unlink-next.ensures.turns in
    let left = c.unlink-next.new.tables in
    let made : (turns' : ℕ → ℕ) → ((m : ℕ) → turns' m ≡ taken_up (Some next) m + tally (heap_items t.turns) m) → IsTabled t.first (slice_set t.stages.items i Done) left.later.items left.earlier.items (get nat_eq left.last) turns' =
    λ turns' more. ended t.first i slot t.stages.items t.later.items t.earlier.items (get nat_eq t.last) (tally (heap_items t.turns)) (Some next) out puts c.requires.sound.tabled _ _ (get nat_eq left.last) turns' c.unlink-next.ensures.linked more in
    let few = heap_few t.first _ _ _ (get nat_eq left.last) (record { 0 = next } ∷ heap_items t.turns) (made (tally (record { 0 = next } ∷ heap_items t.turns)) (λ m. refl)) in
    let pushed = c.push.ensures.succeeds (rw is_turns (omega (arith, few, fewer, t.turns.data.ok.0, c.requires.sound.room))) in
    let moved = on_ok _ pushed c.push.ensures.permutation in
    record {
      tabled = rw (c.unlink-next.ensures.first, c.unlink-next.ensures.stages)
          (made (tally (heap_items c.push.new.self)) (λ m. tally_push _ _ _ moved m ∙ ap (λ turns. cond {A = ℕ} (nat_eq m next) 1 0 + tally (heap_items turns) m) is_turns));
      ordered = on_ok _ pushed c.push.ensures.heap_order (rw is_turns c.requires.sound.ordered);
      room = rw c.unlink-next.ensures.stages (omega (arith, fewer, c.push.ensures.capacity, ap heap_capacity is_turns, c.requires.sound.room));
    }
