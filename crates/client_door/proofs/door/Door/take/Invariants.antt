use Rattle.std.proofs.Common.{◌≡◌, ◌≤◌, length}
use Rattle.client_door.specs.AtDoor.{taken}
use Rattle.client_door.proofs.door.Door.take.Given as goal

abbrev pub invariant-loop-rest : goal.invariant-loop-rest
invariant-loop-rest l = (taken l.password l.initial.self l.bytes ≡ taken l.password l.self l.rest) × (length l.rest ≤ length l.bytes)

abbrev pub decreases-loop-rest : goal.decreases-loop-rest
decreases-loop-rest l = length l.rest
