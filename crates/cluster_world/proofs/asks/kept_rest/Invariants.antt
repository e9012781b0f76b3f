use Rattle.std.proofs.Common.{◌≡◌, length}
use Rattle.cluster_world.specs.Kept.{in_kept}
use Rattle.cluster_world.specs.Rests.{sought}
use Rattle.cluster_world.proofs.asks.kept_rest.Given as goal

-- those before asked nothing
abbrev pub invariant-loop-rest : goal.invariant-loop-rest
invariant-loop-rest l = in_kept (sought l.sought) l.rest ≡ in_kept (sought l.sought) l.backs

abbrev pub decreases-loop-rest : goal.decreases-loop-rest
decreases-loop-rest l = length l.rest
