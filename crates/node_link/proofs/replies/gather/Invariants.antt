use Rattle.std.proofs.Common.{◌≤◌, ◌-◌, length}
use Rattle.node_link.specs.Bytes.{input_of}
use Rattle.node_link.specs.Collecting.{Gathers}
use Rattle.node_link.proofs.replies.gather.Given as goal

abbrev pub invariant-loop-held : goal.invariant-loop-held
invariant-loop-held l = record {
  gathered : Gathers (input_of l.fn.inbox) l.fn.held.items (input_of l.inbox) l.held.items;
  few : length l.held.items ≤ l.wanted;
}

abbrev pub decreases-loop-held : goal.decreases-loop-held
decreases-loop-held l = l.wanted - length l.held.items
