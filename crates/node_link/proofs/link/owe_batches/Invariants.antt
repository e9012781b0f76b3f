use Rattle.std.proofs.Common.{◌≡◌, ◌≤◌, ◌+◌, ◌*◌, ◌++◌, length, map}
use Rattle.std.specs.List.{flat_map}
use Rattle.std.specs.VecDeque.{deque_len, deque_capacity}
use Rattle.key_split.specs.Requests.{requests_of}
use Rattle.node_link.specs.LinkCalls.{due_of}
use Rattle.node_link.proofs.link.owe_batches.Given as goal

abbrev pub invariant-loop-rest : goal.invariant-loop-rest
invariant-loop-rest l = record {
  items : l.due.items ++ map due_of (flat_map requests_of l.rest) ≡ l.fn.due.items ++ map due_of (flat_map requests_of l.batches);
  room : deque_len l.due + 2 * length l.rest ≤ deque_capacity l.due;
}

abbrev pub decreases-loop-rest : goal.decreases-loop-rest
decreases-loop-rest l = length l.rest
