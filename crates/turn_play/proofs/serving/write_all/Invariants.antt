use Rattle.std.proofs.Common.{◌≡◌, ◌++◌, ◌+◌, ◌≤◌, length}
use Rattle.std.specs.Vec.Iter.{into_iter_items}
use Rattle.std.specs.VecDeque.{deque_len, deque_capacity}
use Rattle.turn_laws.specs.Writing.{AreWritten}
use Rattle.turn_play.proofs.serving.write_all.Given as goal

abbrev pub invariant-loop-told : goal.invariant-loop-told
invariant-loop-told l = record {
  all : l.yielded ++ into_iter_items l.told-iterator ≡ l.fn.tolds.items;
  written : AreWritten l.nodes l.yielded l.said.items;
  room : deque_len l.said + length (into_iter_items l.told-iterator) ≤ deque_capacity l.said;
}
