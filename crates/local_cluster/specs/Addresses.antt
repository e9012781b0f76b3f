-- Where the nodes of a cluster in one process are listed.
-- This project's choice. A run in one process opens no sockets: the endpoints name its nodes.
use Rattle.std.specs.Prelude.{◌≡◌, ◌<◌, ℕ, ◌+◌, zero, suc, List, [], ◌∷◌, ◌++◌, Option, Some, None, codes}
use Rattle.slot_map.specs.Table.{Endpoint}

-- node k is 127.0.0.1, port 7001 + k
abbrev pub address : ℕ → Endpoint
address k = record { host = codes "127.0.0.1"; port = 7001 + k }

-- those of a cluster of this number of nodes, in the order of their numbers
unfoldable pub addresses : ℕ → List Endpoint
addresses zero = []
addresses (suc k) = addresses k ++ address k ∷ []

-- the node of a cluster of `count` that is listed there, if there is one
abbrev pub IsListedAt : ℕ → Endpoint → Option ℕ → Type 0
IsListedAt count at (Some node) = (node < count) × (at ≡ address node)
IsListedAt count at None = (node : ℕ) → node < count → at ≡ address node → ⊥
