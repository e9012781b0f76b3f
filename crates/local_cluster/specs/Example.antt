-- The example cluster: three nodes, each with about a third of the slots.
-- This project's choice, as in the Redis Cluster tutorial.
use Rattle.std.specs.Prelude.{List, [], ◌∷◌}
use Rattle.slot_map.specs.declared.ops.MapOp.{MapOp}
use Rattle.slot_map.specs.declared.ops.MapOp.TheVariants.{SetRange}

abbrev pub thirds : List MapOp
thirds = SetRange 0 5460 0 ∷ SetRange 5461 10922 1 ∷ SetRange 10923 16383 2 ∷ []
