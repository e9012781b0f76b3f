use Rattle.std.proofs.Common.{◌≡◌, ◌++◌, length}
use Rattle.cluster_world.specs.Lost.{each_lost}
use Rattle.cluster_world.proofs.link.push_run.Given as goal

-- those so far, and those that are left
abbrev pub invariant-loop-rest : goal.invariant-loop-rest
invariant-loop-rest l = l.lost.items ++ each_lost l.rest ≡ l.fn.lost.items ++ each_lost l.tickets

abbrev pub decreases-loop-rest : goal.decreases-loop-rest
decreases-loop-rest l = length l.rest
