use Rattle.std.proofs.Common.{◌≡◌, ◌++◌, ◌+◌, ◌*◌, map, drop}
use Rattle.resp_wire.specs.Seen.{data_of, height, size_of}
use Rattle.cluster_world.specs.Cuts.{Grows}
use Rattle.cluster_world.proofs.Texts.{barred}
use Rattle.cluster_world.proofs.report.+text.Given as goal

abbrev pub decreases-push_items_text : goal.decreases-push_items_text
decreases-push_items_text l = 3 * size_of l.items.now + 2

abbrev pub decreases-push_further_texts : goal.decreases-push_further_texts
decreases-push_further_texts l = 3 * size_of (map data_of l.items.now) + 1

abbrev pub decreases-push_value_text : goal.decreases-push_value_text
decreases-push_value_text l = 3 * height (data_of l.value.now)

abbrev pub invariant-push_further_texts-loop-item : goal.invariant-push_further_texts-loop-item
invariant-push_further_texts-loop-item l =
    (l.out.items ++ barred (drop l.item-index l.items) ≡ l.fn.out.items ++ barred l.items) × Grows l.fn.out.items l.out.items
