-- A set of nodes, each at its number.
use Rattle.std.specs.Prelude.{ℕ, Bool, false, slice_get, unwrap_or}
use Rattle.std.specs.List.{list_any}
use Rattle.node_dial.specs.declared.node_set.NodeSet.{NodeSet}

abbrev pub holds : NodeSet → ℕ → Bool
holds nodes node = unwrap_or (slice_get nodes.held node) false

-- it has a node
abbrev pub has_any : NodeSet → Bool
has_any nodes = list_any (λ held. held) nodes.held
