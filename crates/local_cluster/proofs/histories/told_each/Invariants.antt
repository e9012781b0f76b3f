use Rattle.std.proofs.Common.{◌≡◌, ◌++◌, length}
use Rattle.std.specs.Prelude.{zip}
use Rattle.local_cluster.proofs.histories.told_each.Given as goal

abbrev pub invariant-loop-commands : goal.invariant-loop-commands
invariant-loop-commands l = l.log.items ++ zip l.commands l.said ≡ zip l.initial.commands l.initial.said

abbrev pub decreases-loop-commands : goal.decreases-loop-commands
decreases-loop-commands l = length l.commands
