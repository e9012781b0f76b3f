-- What a worker's view of the slot map stands for.
use Rattle.std.specs.Prelude.{ℕ, List, ◌+◌, ◌^◌, ◌%◌}
use Rattle.slot_map.specs.declared.ops.MapOp.{MapOp}

pub record ViewModel : Type 0 where
  -- the operations that it knows
  pub known : List MapOp
  -- how often the map was not entered, modulo 2^64
  pub refused : ℕ

-- a view whose looks were never refused
abbrev pub new_view : List MapOp → ViewModel
new_view known = record { known = known; refused = 0 }

-- the map was not entered once more
abbrev pub refused_once : ViewModel → ViewModel
refused_once view = record view { refused = (view.refused + 1) % 2 ^ 64 }
