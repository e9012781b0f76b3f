-- Owners taken over slot by slot.
-- Only private functions cite it.
use Rattle.std.specs.Prelude.{◌≡◌, ◌<◌, ◌≤◌, ℕ, List, Option, None}
use Rattle.slot_map.specs.Map.{node_after, MapShows}
use Rattle.slot_map.specs.declared.ops.MapOp.{MapOp}

-- the new map has the owners of the first `count` slots, and none beyond
pub record TakenOver (new owners : List (Option ℕ)) (count : ℕ) (changes : List MapOp) : Type 0 where
  pub shown : MapShows new changes
  pub same : (ops : List MapOp) → MapShows owners ops → (slot : ℕ) → slot < count → node_after changes slot ≡ node_after ops slot
  pub beyond : (slot : ℕ) → count ≤ slot → node_after changes slot ≡ None

-- by some changes
abbrev pub IsTakenOver : List (Option ℕ) → List (Option ℕ) → ℕ → Type 0
IsTakenOver new owners count = (changes : List MapOp) × TakenOver new owners count changes
