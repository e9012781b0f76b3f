use Rattle.cluster_world.specs.Owners.{IsTakenOver}
use Rattle.cluster_world.proofs.owners.taken_over.Given as goal

-- the slots below `count` are taken over
abbrev pub invariant-loop-number : goal.invariant-loop-number
invariant-loop-number l = IsTakenOver l.map l.owners l.number
