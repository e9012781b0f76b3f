-- A dial of a node of a cluster in one process.
-- Nobody is called, so a dial is over at once.
use Rattle.std.specs.Prelude.{◌≡◌, ◌+◌, ℕ, Option, Some, None, Result, Ok, Err}
use Rattle.slot_map.specs.Table.{Endpoint}
use Rattle.node_link.specs.declared.dial.DialFault.{DialFault}
use Rattle.node_link.specs.declared.dial.DialFault.TheVariants.{NoMemory, Failed}
use Rattle.local_cluster.specs.Addresses.{IsListedAt, address}
use Rattle.local_cluster.specs.Conversation.{LocalPortModel, fresh_with}

-- a new connection to the node that is listed there, or one more failure
abbrev pub Dials : Endpoint → Option LocalPortModel → ℕ → ℕ → Type 0
Dials at (Some port) before now = (node : ℕ) × (at ≡ address node) × (port ≡ fresh_with node) × (now ≡ before)
Dials at None before now = now ≡ before + 1

-- the one of `nodes` nodes that is listed there is reached; it failed only where none is
abbrev pub DialledLocally : ℕ → Endpoint → Result LocalPortModel DialFault → Type 0
DialledLocally nodes at (Ok port) = (node : ℕ) × IsListedAt nodes at (Some node) × (port ≡ fresh_with node)
DialledLocally nodes at (Err Failed) = IsListedAt nodes at None
DialledLocally nodes at (Err NoMemory) = IsListedAt nodes at None
