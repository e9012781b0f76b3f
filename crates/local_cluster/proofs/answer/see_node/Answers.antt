use Rattle.std.proofs.Common.{subst, sym, arith}
use Rattle.key_split.specs.Told.{CanBeWritten}
use Rattle.local_cluster.specs.Addresses.{addresses}
use Rattle.local_cluster.proofs.Addressed.{length-addresses}
use Rattle.local_cluster.proofs.answer.see_node.Goals as goal

pub returns-in-Moved : goal.returns-in-Moved
returns-in-Moved c = rw (c.in-Moved.is, length-addresses 64) (omega (arith, c.number-in_table.ensures.value, c.number-in_table.ensures.in_range))

pub returns-in-Ask : goal.returns-in-Ask
returns-in-Ask c = rw (c.in-Ask.is, length-addresses 64) (omega (arith, c.number-in_table-in-Ask.ensures.value, c.number-in_table-in-Ask.ensures.in_range))
