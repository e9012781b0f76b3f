-- The slot map: which node a list of operations shows for a slot.
-- Redis Cluster specification, "MOVED Redirection": one slot's node, or that of a range. The last operation counts. A
-- slot that none covers has no node, as every slot at the start.
use Rattle.std.specs.Prelude.{◌≡◌, ℕ, ◌<◌, List, Bool, ◌&&◌, ◌==◌, nat_le, Option, None, reverse, slice_index_or, length}
use Rattle.std.specs.List.{find}
use Rattle.std.specs.Option.{option_map}
use Rattle.slot_map.specs.declared.ops.MapOp.{MapOp}
use Rattle.slot_map.specs.declared.ops.MapOp.TheVariants.{SetRange, SetSlot}

abbrev pub covers : ℕ → MapOp → Bool
covers slot (SetRange first last node) = nat_le first slot && nat_le slot last
covers slot (SetSlot only node) = slot == only

abbrev pub node_in : MapOp → ℕ
node_in (SetRange first last node) = node
node_in (SetSlot only node) = node

-- the node in the last of the operations that covers the slot
abbrev pub node_after : List MapOp → ℕ → Option ℕ
node_after ops slot = option_map node_in (find (covers slot) (reverse ops))

-- the table has, for each slot, the node that the operations show
pub record MapShows (table : List (Option ℕ)) (ops : List MapOp) : Type 0 where
  pub size : length table ≡ 16384
  pub node : (slot : ℕ) → slot < 16384 → slice_index_or table slot None ≡ node_after ops slot
