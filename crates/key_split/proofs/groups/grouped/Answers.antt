use Rattle.std.proofs.Common.{◌∙◌, ap, subst, sym, arith, length, ◌++◌, ◌∷◌, []}
use Rattle.std.specs.Prelude.{All}
use Rattle.std.specs.Vec.Iter.{into_iter_items}
use Rattle.std.proofs.lemmas.List.Elements.{All-head, All-rest}
use Rattle.std.specs.Ordering.{nat_cmp}
use Rattle.std.specs.Map.{lookup}
use Rattle.std.specs.BTreeMap.{is_at}
use Rattle.key_split.specs.PartModel.{Pair, takes_group, IsValueFor}
use Rattle.key_split.proofs.groups.grouped.Goals.{in-Some-get+in_ok-push-in-Some-get, in-None-get+in_ok-insert-in-None-get+in_ok-push-in-None-get}
use Rattle.key_split.proofs.Grouping.{Made, part-at, few-slots, made-own, made-new, length-parts}
use Rattle.key_split.proofs.Values.{made-whole, pushed-whole}
use Rattle.key_split.proofs.groups.grouped.Goals as goal

pub push-requires-clause-same_slot : goal.push-requires-clause-same_slot
push-requires-clause-same_slot c =
    let at = part-at c.args.op c.loop-key.yielded c.slot_number-slot.result c.in-Some-get.number.now c.loop-key.parts.items c.index_mut.result.now
    (sym (c.loop-key.invariant.2 c.slot_number-slot.result) ∙ sym c.in-Some-get.ensures.value) c.loop-key.invariant.0 c.index_mut.ensures.value in
    sym (at.slot ∙ c.slot_number-slot.ensures)

pub push-requires-clause-group : goal.push-requires-clause-group
push-requires-clause-group c =
    let at = part-at c.args.op c.loop-key.yielded c.slot_number-slot.result c.in-Some-get.number.now c.loop-key.parts.items c.index_mut.result.now
    (sym (c.loop-key.invariant.2 c.slot_number-slot.result) ∙ sym c.in-Some-get.ensures.value) c.loop-key.invariant.0 c.index_mut.ensures.value in
    ap takes_group at.op ∙ c.requires.group

pub overflow_cast-number-in-None-get : goal.overflow_cast-number-in-None-get
overflow_cast-number-in-None-get c =
    let l = few-slots c.loop-key.yielded in
    let e = length-parts c.args.op c.loop-key.yielded in
    let f = ap length c.loop-key.invariant.0 in
    record { fits = omega arith }

pub loop-key-preserved : goal.loop-key-preserved
loop-key-preserved c =
    let left = c.in-Some.ensures.steps.0 in
    let fits = All-head (λ (pair : Pair). IsValueFor c.args.op pair.1) (c.in-Some.key, c.in-Some.value) (into_iter_items c.next.new.self) (subst (All (λ (pair : Pair). IsValueFor c.args.op pair.1)) left c.loop-key.invariant.3) in
    let slot = c.slot_number-slot.ensures in
    let made : Made c.args.op (c.loop-key.yielded ++ (c.in-Some.key, c.in-Some.value) ∷ []) c.match-get.parts.items c.push-in-loop-key.new.self.items (λ t. lookup (is_at (nat_cmp t)) c.match-get.numbers.entries) =
    elim c.match-get.branch [
      | in-Some-get+in_ok-push-in-Some-get w ↦
          let at = part-at c.args.op c.loop-key.yielded c.slot_number-slot.result w.in-Some-get.number.now c.loop-key.parts.items w.index_mut.result.now
          (sym (c.loop-key.invariant.2 c.slot_number-slot.result) ∙ sym w.in-Some-get.ensures.value) c.loop-key.invariant.0 w.index_mut.ensures.value in
          made-own c.args.op c.loop-key.yielded (c.in-Some.key, c.in-Some.value) c.slot_number-slot.result w.in-Some-get.number.now
          c.loop-key.parts.items c.match-get.parts.items w.index_mut.result.now w.push.new.self
          c.loop-key.places.items c.push-in-loop-key.new.self.items
          (λ t. lookup (is_at (nat_cmp t)) c.loop-key.numbers.entries) (λ t. lookup (is_at (nat_cmp t)) c.match-get.numbers.entries)
          slot (c.loop-key.invariant.0, c.loop-key.invariant.1, c.loop-key.invariant.2) w.in-Some-get.ensures.value w.index_mut.ensures.value
          (pushed-whole w.index_mut.result.now w.push.new.self c.args.op c.in-Some.key c.in-Some.value at.op fits w.in_ok-push-in-Some-get.ensures.ok)
          (ap (λ v. v.items) w.parts-is) (c.in_ok-push.ensures.items ∙ ap (λ k. c.loop-key.places.items ++ k ∷ []) w.number-is)
          (λ t. ap (λ m. lookup (is_at (nat_cmp t)) m.entries) w.numbers-is)
      | in-None-get+in_ok-insert-in-None-get+in_ok-push-in-None-get w ↦
          made-new c.args.op c.loop-key.yielded (c.in-Some.key, c.in-Some.value) c.slot_number-slot.result w.len-number.result
          c.loop-key.parts.items c.match-get.parts.items
          c.loop-key.places.items c.push-in-loop-key.new.self.items
          (λ t. lookup (is_at (nat_cmp t)) c.loop-key.numbers.entries) (λ t. lookup (is_at (nat_cmp t)) c.match-get.numbers.entries)
          slot (c.loop-key.invariant.0, c.loop-key.invariant.1, c.loop-key.invariant.2) w.in-None-get.ensures.value (let q = w.len-number.ensures in let e = c.loop-key.parts.ok in omega arith)
          (ap (λ v. v.items) w.parts-is ∙ w.in_ok-push-in-None-get.ensures.items
          ∙ ap (λ q. c.loop-key.parts.items ++ q ∷ []) (made-whole w.new.result c.args.op c.in-Some.key c.in-Some.value fits w.new.ensures))
          (c.in_ok-push.ensures.items ∙ ap (λ k. c.loop-key.places.items ++ k ∷ []) w.number-is)
          (λ t. ap (λ m. lookup (is_at (nat_cmp t)) m.entries) w.numbers-is ∙ w.in_ok-insert-in-None-get.ensures.updates.0 t)
    ] in
    (made.0, made.1, made.2, All-rest (λ (pair : Pair). IsValueFor c.args.op pair.1) (c.in-Some.key, c.in-Some.value) (into_iter_items c.next.new.self) (into_iter_items c.loop-key.key-iterator) left c.loop-key.invariant.3)
