use Rattle.std.proofs.Common.{◌≡◌, ◌++◌, ◌+◌, ◌*◌, map, drop}
use Rattle.resp_wire.specs.Data.{items_of}
use Rattle.resp_wire.specs.Seen.{data_of, height, size_of}
use Rattle.resp_wire.specs.Canonical.{canonical_all}
use Rattle.resp_wire.specs.Gives.{Grows}
use Rattle.resp_wire.proofs.write.+write.Given as goal

abbrev pub decreases-push_items : goal.decreases-push_items
decreases-push_items l = 2 * size_of l.items.now + 1

abbrev pub decreases-push_value : goal.decreases-push_value
decreases-push_value l = 2 * height (data_of l.value.now)

abbrev pub invariant-push_items-loop-item : goal.invariant-push_items-loop-item
invariant-push_items-loop-item l =
    (l.out.items ++ canonical_all (items_of (map data_of (drop l.item-index l.item-items))) ≡ l.fn.out.items ++ canonical_all (items_of (map data_of l.item-items)))
    × Grows l.fn.out.items l.out.items
