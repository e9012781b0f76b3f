use Rattle.std.proofs.Common.{◌≡◌, ◌≤◌, ◌+◌, ◌++◌, length, vec_len}
use Rattle.std.specs.Prelude.{vec_capacity}
use Rattle.std.specs.Vec.Iter.{into_iter_items}
use Rattle.turn_play.specs.Answering.{replies_in}
use Rattle.turn_play.proofs.answering.values_of.Given as goal

abbrev pub invariant-loop-told : goal.invariant-loop-told
invariant-loop-told l = record {
  replies : l.values.items ++ replies_in (into_iter_items l.told-iterator) ≡ replies_in l.fn.tolds.items;
  room : vec_len l.values + length (into_iter_items l.told-iterator) ≤ vec_capacity l.values;
}
