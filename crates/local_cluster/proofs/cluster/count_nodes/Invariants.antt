use Rattle.std.proofs.Common.{◌≡◌, ◌≤◌, length}
use Rattle.local_cluster.proofs.cluster.count_nodes.Given as goal

-- the nodes so far are there
abbrev pub invariant-loop-number : goal.invariant-loop-number
invariant-loop-number l = (l.cluster ≡ l.initial.cluster) × (l.number ≤ length l.cluster.stores)
