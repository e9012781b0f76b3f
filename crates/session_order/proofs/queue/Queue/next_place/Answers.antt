use Rattle.std.proofs.Common.{arith, refl, sym, ◌∙◌}
use Rattle.std.proofs.lemmas.List.{nil_from_length}
use Rattle.std.specs.BinaryHeap.{heap_items}
use Rattle.session_order.proofs.Turning.{none_at, none_next, top_counts, top_place}
use Rattle.session_order.proofs.queue.Queue.next_place.Goals as goal

pub returns-in_default : goal.returns-in_default
returns-in_default c =
    let turns = c.self.inside.tables.turns in
    rw (← c.self.view_is) (none_next _ _ _ _ _ _ c.self.invariant.1.tabled (nil_from_length (heap_items turns) (sym turns.data.ok.0 ∙ none_at _ (λ some. c.in_default.ensures.variant.1 some))))

pub overflow_sub-result : goal.overflow_sub-result
overflow_sub-result c =
    let turns = c.self.inside.tables.turns in
    let seen = c.in-Some.ensures in
    let counts = top_counts (heap_items turns) c.in-Some.field-0.now (omega (arith, seen.variant.0 refl, turns.data.ok.0)) seen.lookup in
    (top_place _ _ _ _ _ (heap_items turns) _ c.self.invariant.1.tabled counts (seen.greatest c.self.invariant.1.ordered)).0

pub returns : goal.returns
returns c =
    let turns = c.self.inside.tables.turns in
    let seen = c.in-Some.ensures in
    let counts = top_counts (heap_items turns) c.in-Some.field-0.now (omega (arith, seen.variant.0 refl, turns.data.ok.0)) seen.lookup in
    rw (← c.self.view_is) ((top_place _ _ _ _ _ (heap_items turns) _ c.self.invariant.1.tabled counts (seen.greatest c.self.invariant.1.ordered)).1)
