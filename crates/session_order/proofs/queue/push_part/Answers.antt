use Rattle.std.proofs.Common.{arith, refl, sym, ap, subst, ◌∙◌, ◌+◌, ◌≡◌, ◌++◌, ◌∷◌, [], ℕ, Option, Some, None, cond, nat_eq}
use Rattle.std.specs.HashMap.{get}
use Rattle.std.specs.BinaryHeap.{heap_items}
use Rattle.slot_hash.specs.Slot.{slot_of}
use Rattle.session_order.specs.declared.queue.PartStage.TheVariants.{Waiting}
use Rattle.session_order.specs.Tables.{tally, taken_up, last_of, open_parts, IsTabled, with_link}
use Rattle.session_order.proofs.Lists.{eqb-no, eqb-yes}
use Rattle.session_order.proofs.Chaining.{open_climbs, last_climbs}
use Rattle.session_order.proofs.Tabling.{pushed, at_once}
use Rattle.session_order.proofs.Turning.{on_ok, tally_push, waiting_push, heap_few}
use Rattle.session_order.proofs.queue.push_part.Goals as goal

pub overflow_sub-before : goal.overflow_sub-before
overflow_sub-before c =
    let t = c.args.tables.now in
    let slot = slot_of c.args.part.key in
    let key : c.number-slot.result ≡ slot = c.number-slot.ensures.value ∙ c.slot.ensures.value in
    let old : Some c.in-Ok-Some.before ≡ get nat_eq t.last c.number-slot.result = rw c.in-Ok-Some.field-0-is at c.in-Ok-Some.ensures.old in
    let is : last_of (open_parts slot t.first t.stages.items) ≡ Some c.in-Ok-Some.before = sym (old ∙ ap (get nat_eq t.last) key ∙ c.requires.sound.tabled.linked.lasts slot) in
    (last_climbs t.first _ c.in-Ok-Some.before _ (open_climbs slot t.first _ t.stages.items refl) is).0

pub index_mut-requires : goal.index_mut-requires
index_mut-requires c =
    let t = c.args.tables.now in
    let slot = slot_of c.args.part.key in
    let key : c.number-slot.result ≡ slot = c.number-slot.ensures.value ∙ c.slot.ensures.value in
    let old : Some c.in-Ok-Some.before ≡ get nat_eq t.last c.number-slot.result = rw c.in-Ok-Some.field-0-is at c.in-Ok-Some.ensures.old in
    let is : last_of (open_parts slot t.first t.stages.items) ≡ Some c.in-Ok-Some.before = sym (old ∙ ap (get nat_eq t.last) key ∙ c.requires.sound.tabled.linked.lasts slot) in
    let within = last_climbs t.first _ c.in-Ok-Some.before _ (open_climbs slot t.first _ t.stages.items refl) is in
    omega (arith, within.0, within.1, c.requires.sound.tabled.linked.later_places, t.later.ok.0, c.push_back_reserved-2.ensures.len)

pub returns-in-Ok-Some-clause-sound : goal.returns-in-Ok-Some-clause-sound
returns-in-Ok-Some-clause-sound c =
    let t = c.args.tables.now in
    let part = c.args.part in
    let slot = slot_of part.key in
    let number = t.first + c.len.result in
    let key : c.number-slot.result ≡ slot = c.number-slot.ensures.value ∙ c.slot.ensures.value in
    let old : Some c.in-Ok-Some.before ≡ get nat_eq t.last c.number-slot.result = rw c.in-Ok-Some.field-0-is at c.in-Ok-Some.ensures.old in
    let is : get nat_eq t.last slot ≡ Some c.in-Ok-Some.before = sym (old ∙ ap (get nat_eq t.last) key) in
    let stages_are : c.push_back_reserved.new.self.items ≡ t.stages.items ++ Waiting part ∷ [] = c.push_back_reserved.ensures.items in
    let later_are : c.push_back_reserved-2.new.self.items ≡ t.later.items ++ None ∷ [] = c.push_back_reserved-2.ensures.items in
    let earlier_are : c.push_back_reserved-in-Ok-Some.new.self.items ≡ t.earlier.items ++ Some c.in-Ok-Some.before ∷ [] = c.push_back_reserved-in-Ok-Some.ensures.items in
    let tabled : IsTabled t.first (t.stages.items ++ Waiting part ∷ []) (with_link (t.later.items ++ None ∷ []) t.first (get nat_eq t.last slot) (Some number)) (t.earlier.items ++ get nat_eq t.last slot ∷ []) (get nat_eq c.insert.new.self) (tally (heap_items t.turns)) =
    pushed t.first number t.stages.items t.later.items t.earlier.items (get nat_eq t.last) (get nat_eq c.insert.new.self) (tally (heap_items t.turns)) (tally (heap_items t.turns)) part
    (omega (arith, c.len.ensures, t.stages.ok.0))
    (c.in-Ok-Some.ensures.updates.0 slot ∙ ap (λ b. cond {A = Option ℕ} b (Some number) (get nat_eq t.last slot)) (eqb-yes c.number-slot.result slot key))
    (λ q apart. c.in-Ok-Some.ensures.updates.0 q ∙ ap (λ b. cond {A = Option ℕ} b (Some number) (get nat_eq t.last q)) (eqb-no c.number-slot.result q (λ e. apart (sym key ∙ e))))
    (λ m. (let nothing : taken_up (at_once (get nat_eq t.last slot) number) m ≡ 0 = ap (λ o. taken_up (at_once o number) m) is in omega (arith, nothing)))
    c.requires.sound.tabled in
    record {
      tabled = rw (stages_are, later_are, earlier_are) (subst (λ o. IsTabled t.first (t.stages.items ++ Waiting part ∷ []) (with_link (t.later.items ++ None ∷ []) t.first o (Some number)) (t.earlier.items ++ o ∷ []) (get nat_eq c.insert.new.self) (tally (heap_items t.turns))) is tabled);
      ordered = c.requires.sound.ordered;
      room = rw stages_are (omega (arith, waiting_push t.stages.items part, c.requires.room.turns));
    }

pub returns-in-Ok-None-clause-sound : goal.returns-in-Ok-None-clause-sound
returns-in-Ok-None-clause-sound c =
    let t = c.args.tables.now in
    let part = c.args.part in
    let slot = slot_of part.key in
    let number = t.first + c.len.result in
    let key : c.number-slot.result ≡ slot = c.number-slot.ensures.value ∙ c.slot.ensures.value in
    let old : None ≡ get nat_eq t.last c.number-slot.result = rw c.in-Ok-None.field-0-is at c.in-Ok-None.ensures.old in
    let is : get nat_eq t.last slot ≡ None = sym (old ∙ ap (get nat_eq t.last) key) in
    let stages_are : c.push_back_reserved.new.self.items ≡ t.stages.items ++ Waiting part ∷ [] = c.push_back_reserved.ensures.items in
    let later_are : c.push_back_reserved-2.new.self.items ≡ t.later.items ++ None ∷ [] = c.push_back_reserved-2.ensures.items in
    let earlier_are : c.push_back_reserved-in-Ok-None.new.self.items ≡ t.earlier.items ++ None ∷ [] = c.push_back_reserved-in-Ok-None.ensures.items in
    let made : (turns' : ℕ → ℕ) → ((m : ℕ) → turns' m ≡ taken_up (at_once (get nat_eq t.last slot) number) m + tally (heap_items t.turns) m)
    → IsTabled t.first (t.stages.items ++ Waiting part ∷ []) (with_link (t.later.items ++ None ∷ []) t.first (get nat_eq t.last slot) (Some number)) (t.earlier.items ++ get nat_eq t.last slot ∷ []) (get nat_eq c.insert.new.self) turns' =
    λ turns' more.
    pushed t.first number t.stages.items t.later.items t.earlier.items (get nat_eq t.last) (get nat_eq c.insert.new.self) (tally (heap_items t.turns)) turns' part
    (omega (arith, c.len.ensures, t.stages.ok.0))
    (c.in-Ok-None.ensures.updates.0 slot ∙ ap (λ b. cond {A = Option ℕ} b (Some number) (get nat_eq t.last slot)) (eqb-yes c.number-slot.result slot key))
    (λ q apart. c.in-Ok-None.ensures.updates.0 q ∙ ap (λ b. cond {A = Option ℕ} b (Some number) (get nat_eq t.last q)) (eqb-no c.number-slot.result q (λ e. apart (sym key ∙ e))))
    more c.requires.sound.tabled in
    let few = heap_few t.first _ _ _ (get nat_eq c.insert.new.self) (record { 0 = number } ∷ heap_items t.turns) (made (tally (record { 0 = number } ∷ heap_items t.turns)) (λ m. ap (λ o. taken_up (at_once o number) m + tally (heap_items t.turns) m) (sym is))) in
    let turned = c.push.ensures.succeeds (omega (arith, few, waiting_push t.stages.items part, t.turns.data.ok.0, c.requires.room.turns)) in
    let moved = on_ok _ turned c.push.ensures.permutation in
    let turns' = tally (heap_items c.push.new.self) in
    let tabled : IsTabled t.first (t.stages.items ++ Waiting part ∷ []) (with_link (t.later.items ++ None ∷ []) t.first (get nat_eq t.last slot) (Some number)) (t.earlier.items ++ get nat_eq t.last slot ∷ []) (get nat_eq c.insert.new.self) turns' =
    made turns' (λ m. tally_push _ _ _ moved m ∙ ap (λ o. taken_up (at_once o number) m + tally (heap_items t.turns) m) (sym is)) in
    record {
      tabled = rw (stages_are, later_are, earlier_are) (subst (λ o. IsTabled t.first (t.stages.items ++ Waiting part ∷ []) (with_link (t.later.items ++ None ∷ []) t.first o (Some number)) (t.earlier.items ++ o ∷ []) (get nat_eq c.insert.new.self) turns') is tabled);
      ordered = on_ok _ turned c.push.ensures.heap_order c.requires.sound.ordered;
      room = rw stages_are (omega (arith, waiting_push t.stages.items part, c.push.ensures.capacity, c.requires.room.turns));
    }

pub returns-in-Ok-Some-clause-room : goal.returns-in-Ok-Some-clause-room
returns-in-Ok-Some-clause-room c = λ n room. (
    let t = c.args.tables.now in
    let stages_are : c.push_back_reserved.new.self.items ≡ t.stages.items ++ Waiting c.args.part ∷ [] = c.push_back_reserved.ensures.items in
    record {
      stages = omega (arith, room.stages, c.push_back_reserved.ensures.len, c.push_back_reserved.ensures.capacity);
      later = omega (arith, room.later, c.push_back_reserved-2.ensures.len, c.push_back_reserved-2.ensures.capacity);
      earlier = omega (arith, room.earlier, c.push_back_reserved-in-Ok-Some.ensures.len, c.push_back_reserved-in-Ok-Some.ensures.capacity);
      last = omega (arith, room.last, c.in-Ok-Some.ensures.spare);
      turns = rw stages_are (omega (arith, room.turns, waiting_push t.stages.items c.args.part));
    })

pub returns-in-Ok-None-clause-room : goal.returns-in-Ok-None-clause-room
returns-in-Ok-None-clause-room c = λ n room. (
    let t = c.args.tables.now in
    let stages_are : c.push_back_reserved.new.self.items ≡ t.stages.items ++ Waiting c.args.part ∷ [] = c.push_back_reserved.ensures.items in
    record {
      stages = omega (arith, room.stages, c.push_back_reserved.ensures.len, c.push_back_reserved.ensures.capacity);
      later = omega (arith, room.later, c.push_back_reserved-2.ensures.len, c.push_back_reserved-2.ensures.capacity);
      earlier = omega (arith, room.earlier, c.push_back_reserved-in-Ok-None.ensures.len, c.push_back_reserved-in-Ok-None.ensures.capacity);
      last = omega (arith, room.last, c.in-Ok-None.ensures.spare);
      turns = rw stages_are (omega (arith, room.turns, waiting_push t.stages.items c.args.part, c.push.ensures.capacity));
    })
