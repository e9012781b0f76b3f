use Rattle.std.proofs.Common.{◌≡◌, ◌++◌, List, length}
use Rattle.world_laws.specs.World.{WorldRun}
use Rattle.world_laws.specs.declared.event.Event.{Event}
use Rattle.cluster_world.proofs.world.World.steps.Given as goal

-- some events are done, and led here
abbrev pub invariant-loop-rest : goal.invariant-loop-rest
invariant-loop-rest l = (done : List Event) × (done ++ l.rest ≡ l.events) × (length done ≡ l.number) × WorldRun l.fn.self done l.self

abbrev pub decreases-loop-rest : goal.decreases-loop-rest
decreases-loop-rest l = length l.rest
