use Rattle.std.proofs.Common.{◌≡◌, ◌++◌, length, map}
use Rattle.key_split.specs.declared.travel.Told.TheVariants.{Unsent}
use Rattle.cluster_world.proofs.machine.unsent.Given as goal

-- those so far, and those that are left
abbrev pub invariant-loop-rest : goal.invariant-loop-rest
invariant-loop-rest l = l.pairs.items ++ map (λ t. (t, Unsent)) l.rest ≡ map (λ t. (t, Unsent)) l.tickets

abbrev pub decreases-loop-rest : goal.decreases-loop-rest
decreases-loop-rest l = length l.rest
