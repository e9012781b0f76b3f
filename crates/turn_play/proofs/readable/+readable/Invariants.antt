use Rattle.std.proofs.Common.{◌+◌, ◌*◌, map, take}
use Rattle.resp_wire.specs.Seen.{data_of}
use Rattle.turn_play.specs.Answering.{CanAllBeSpelled}
use Rattle.turn_play.proofs.readable.+readable.Given as goal

abbrev pub decreases-is_readable : goal.decreases-is_readable
decreases-is_readable l = 2 * l.room

abbrev pub decreases-has_short_items : goal.decreases-has_short_items
decreases-has_short_items l = 2 * l.room + 1

abbrev pub invariant-has_short_items-loop-item : goal.invariant-has_short_items-loop-item
invariant-has_short_items-loop-item l = CanAllBeSpelled l.room (map data_of (take l.item-index l.item-items))
