use Rattle.std.proofs.Common.{◌≡◌, ◌++◌, length}
use Rattle.world_laws.specs.State.{sent_of}
use Rattle.cluster_world.specs.Lost.{each_lost}
use Rattle.cluster_world.proofs.link.push_sent.Given as goal

-- those so far, and those that are left
abbrev pub invariant-loop-rest : goal.invariant-loop-rest
invariant-loop-rest l = l.lost.items ++ each_lost (sent_of l.rest) ≡ l.fn.lost.items ++ each_lost (sent_of l.requests)

abbrev pub decreases-loop-rest : goal.decreases-loop-rest
decreases-loop-rest l = length l.rest
