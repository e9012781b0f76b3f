use Rattle.std.proofs.Common.{◌≡◌, ◌≤◌, ◌+◌, ◌++◌, replicate}
use Rattle.std.specs.VecDeque.{deque_len, deque_capacity}
use Rattle.key_split.specs.declared.travel.Ended.TheVariants.{Lost}
use Rattle.session_order.proofs.session.push_lost.Given as goal

abbrev pub invariant-loop : goal.invariant-loop
invariant-loop l = record {
  ends : l.ends.items ≡ l.fn.ends.items ++ replicate l.counter Lost;
  len : deque_len l.ends ≡ deque_len l.fn.ends + l.counter;
  room : deque_len l.fn.ends + l.count ≤ deque_capacity l.ends;
}
