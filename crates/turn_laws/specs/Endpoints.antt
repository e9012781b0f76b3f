-- The endpoints of a cluster's nodes.
use Rattle.std.specs.Prelude.{◌≡◌, ℕ, List, Some, slice_get}
use Rattle.slot_map.specs.Table.{Endpoint}

-- no endpoint stands twice
abbrev pub AreApart : List Endpoint → Type 0
AreApart nodes = (i j : ℕ) (at : Endpoint) → slice_get nodes i ≡ Some at → slice_get nodes j ≡ Some at → i ≡ j

-- how many nodes a table has room for
abbrev pub most_nodes : ℕ
most_nodes = 64
