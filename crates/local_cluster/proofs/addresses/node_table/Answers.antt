use Rattle.local_cluster.specs.Addresses.{addresses}
use Rattle.local_cluster.proofs.addresses.node_table.Goals as goal

pub loop-node-init : goal.loop-node-init
unfolding addresses
loop-node-init c = c.new-table.ensures
