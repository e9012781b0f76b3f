use Rattle.std.proofs.Common.{◌≡◌}
use Rattle.local_cluster.specs.Addresses.{addresses}
use Rattle.local_cluster.proofs.addresses.node_table.Given as goal

abbrev pub invariant-loop-node : goal.invariant-loop-node
invariant-loop-node l = l.table ≡ addresses l.node
