use Rattle.std.proofs.Common.{◌≡◌, ◌≤◌, ◌+◌, length}
use Rattle.cluster_world.specs.Script.{lines_of}
use Rattle.cluster_world.specs.Schedule.{all_said, event_of}
use Rattle.cluster_world.proofs.Headers.{continued}
use Rattle.cluster_world.proofs.schedule.read_events.Given as goal

abbrev pub invariant-loop-events : goal.invariant-loop-events
invariant-loop-events l =
    (all_said (event_of l.workers) l.first (lines_of l.lines) ≡ continued l.events.items (all_said (event_of l.workers) l.number (lines_of l.rest)))
    × (l.number + length l.rest ≤ l.first + length l.lines)

abbrev pub decreases-loop-events : goal.decreases-loop-events
decreases-loop-events l = length l.rest
