use Rattle.std.proofs.Common.{◌≡◌, map, ◌+◌, ◌-◌, ◌*◌}
use Rattle.resp_wire.specs.Seen.{data_of}
use Rattle.resp_wire.specs.Bodies.{AreEndOf}
use Rattle.resp_wire.specs.Reading.{value_at, items_at}
use Rattle.resp_wire.proofs.BuildLaws.{with_front}
use Rattle.resp_wire.proofs.build.+build.Given as goal

abbrev pub decreases-build : goal.decreases-build
decreases-build l = 4 * l.room + 2

abbrev pub decreases-build_after : goal.decreases-build_after
decreases-build_after l = 4 * l.room + 1

abbrev pub decreases-build_array : goal.decreases-build_array
decreases-build_array l = 4 * l.room

abbrev pub decreases-build_items : goal.decreases-build_items
decreases-build_items l = 4 * l.room + 3

abbrev pub invariant-build_items-loop : goal.invariant-build_items-loop
invariant-build_items-loop l = record {
  built : with_front (map data_of l.items.items) (items_at (value_at l.how.limits l.room) (l.len - l.counter) l.rest) ≡ items_at (value_at l.how.limits l.room) l.len l.bytes;
  end : AreEndOf l.rest l.how.bodies;
}
