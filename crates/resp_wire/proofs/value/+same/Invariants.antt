use Rattle.std.proofs.Common.{◌≡◌, map, length}
use Rattle.resp_wire.specs.Seen.{data_of}
use Rattle.resp_wire.specs.Same.{same_list}
use Rattle.resp_wire.proofs.value.+same.Given as goal

abbrev pub invariant-Values::are_same-loop-item : goal.invariant-Values::are_same-loop-item
invariant-Values::are_same-loop-item l =
    (length l.item-iterator.a.rest.now ≡ length l.item-iterator.b.rest.now)
    × (same_list (map data_of l.item-iterator.a.rest.now) (map data_of l.item-iterator.b.rest.now) ≡ same_list l.fn.self l.fn.other)
