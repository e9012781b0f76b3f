use Rattle.std.proofs.Common.{◌≡◌, ◌≤◌, length}
use Rattle.std.specs.HashMap.{spare}
use Rattle.std.specs.FinMap.{from_entries}
use Rattle.key_split.specs.declared.part.Op.TheVariants.{MSet}
use Rattle.node_model.specs.Store.{store_along}
use Rattle.node_model.proofs.together.put_all.Given as goal

abbrev pub invariant-loop-key : goal.invariant-loop-key
invariant-loop-key l =
    (goal.iterator-loop-key).can_next l.key-iterator
    × (goal.iterator-loop-key).is_finite l.key-iterator
    × (store_along MSet (from_entries l.held.entries) l.key-iterator ≡ store_along MSet (from_entries l.fn.held.entries) l.fn.values.entries)
    × (length l.key-iterator ≤ spare l.held)
