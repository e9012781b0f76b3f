use Rattle.local_cluster.proofs.Addressed.{listed}
use Rattle.local_cluster.proofs.addresses.list.Goals as goal

pub returns-in-Ok : goal.returns-in-Ok
returns-in-Ok c = listed c.args.node _ c.args.table.now c.intern.new.self c.requires.room c.requires.table c.in-Ok.ensures.interns
