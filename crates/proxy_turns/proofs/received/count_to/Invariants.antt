use Rattle.std.proofs.Common.{◌-◌, ℕ, List}
use Rattle.proxy_turns.specs.Owing.{IsCounted}
use Rattle.proxy_turns.proofs.received.count_to.Given as goal

abbrev pub invariant-loop-count : goal.invariant-loop-count
invariant-loop-count l = (bytes : List ℕ) → IsCounted bytes l.initial.reader l.initial.count → IsCounted bytes l.reader l.count

abbrev pub decreases-loop-count : goal.decreases-loop-count
decreases-loop-count l = l.owed - l.count
