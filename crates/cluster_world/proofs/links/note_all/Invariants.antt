use Rattle.std.proofs.Common.{◌≤◌, ◌+◌, length}
use Rattle.std.specs.Vec.{vec_len, vec_capacity}
use Rattle.cluster_world.specs.Kept.{served_in}
use Rattle.cluster_world.proofs.Noting.{Onward}
use Rattle.cluster_world.proofs.links.note_all.Given as goal

-- what was noted so far, and what the rest leaves behind it
abbrev pub invariant-loop-rest : goal.invariant-loop-rest
invariant-loop-rest l =
    Onward l.fn.history.items l.fn.link (served_in l.fn.tickets l.fn.parts.items l.fn.tolds.items) l.moment l.history.items l.link (served_in l.rest l.parts.items l.tolds.items)
    × (vec_len l.history + length l.tolds.items ≤ vec_capacity l.history) × (length l.link.backs + length l.tolds.items ≤ l.link.room)

abbrev pub decreases-loop-rest : goal.decreases-loop-rest
decreases-loop-rest l = length l.rest
