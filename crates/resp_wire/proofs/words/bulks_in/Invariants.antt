use Rattle.std.proofs.Common.{◌≡◌, ◌≤◌, ◌+◌, ◌++◌, map, length, vec_len}
use Rattle.std.specs.Prelude.{option_map, vec_capacity}
use Rattle.std.specs.Vec.Iter.{into_iter_items}
use Rattle.resp_wire.specs.Data.{items_of}
use Rattle.resp_wire.specs.Seen.{data_of}
use Rattle.resp_wire.specs.Words.{bulks_of}
use Rattle.resp_wire.proofs.words.bulks_in.Given as goal

abbrev pub invariant-loop-item : goal.invariant-loop-item
invariant-loop-item l =
    (goal.iterator-loop-item).can_next l.item-iterator ×
    (goal.iterator-loop-item).is_finite l.item-iterator ×
    (option_map (λ left. l.words.items ++ left) (bulks_of (items_of (map data_of (into_iter_items l.item-iterator)))) ≡ bulks_of (items_of l.fn.items)) ×
    (vec_len l.words + length (into_iter_items l.item-iterator) ≤ vec_capacity l.words)
