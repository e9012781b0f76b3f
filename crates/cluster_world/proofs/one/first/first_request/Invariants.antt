use Rattle.std.proofs.Common.{◌≡◌, ◌≤◌, ◌+◌, ◌*◌, List, ℕ, length}
use Rattle.std.specs.Io.KnownBytes.{Consumes}
use Rattle.cluster_world.specs.Looks.{IsOpen, GoesOn}
use Rattle.cluster_world.proofs.one.first.first_request.Given as goal

abbrev pub invariant-loop-wire : goal.invariant-loop-wire
invariant-loop-wire g l =
    IsOpen l.wire
    × ((fed : List ℕ) × Consumes (g.R.Read.remaining l.fn.reader.reader) (g.R.Read.remaining l.reader.reader) fed × (length fed + l.left ≡ 1048576) × GoesOn fed l.wire.unread)
    × (l.reader.reads + l.left ≤ l.fn.reader.reads + 1048576)

abbrev pub decreases-loop-wire : goal.decreases-loop-wire
decreases-loop-wire g l = 2 * l.left + length l.wire.unread
