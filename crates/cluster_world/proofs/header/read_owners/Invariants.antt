use Rattle.std.proofs.Common.{length}
use Rattle.cluster_world.proofs.Headers.{Owned}
use Rattle.cluster_world.proofs.header.read_owners.Given as goal

abbrev pub invariant-loop-line : goal.invariant-loop-line
invariant-loop-line l = Owned l.lines l.rest l.count l.fn.owners l.owners

abbrev pub decreases-loop-line : goal.decreases-loop-line
decreases-loop-line l = length l.rest
