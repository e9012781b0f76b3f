use Rattle.std.proofs.Common.{◌↔◌, length}
use Rattle.world_laws.specs.World.{IsAmong}
use Rattle.cluster_world.proofs.posting.is_among.Given as goal

-- it is none of those before
abbrev pub invariant-loop-rest : goal.invariant-loop-rest
invariant-loop-rest l = IsAmong l.rest l.ticket ↔ IsAmong l.tickets l.ticket

abbrev pub decreases-loop-rest : goal.decreases-loop-rest
decreases-loop-rest l = length l.rest
