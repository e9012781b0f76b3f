use Rattle.std.proofs.Common.{◌≡◌}
use Rattle.node_dial.proofs.TableLemmas.{with_front}
use Rattle.node_dial.proofs.next_table.add_all.Given as goal

abbrev pub invariant-loop-number : goal.invariant-loop-number
invariant-loop-number l = l.table ≡ with_front l.fn.table l.nodes l.number
