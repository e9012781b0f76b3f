-- The table of the nodes: a node's number is its place.
-- Nodes are never forgotten, so a number means one node in every link and thread. The limit of 64 is this proxy's; one
-- node more is refused (`TooManyNodes`) and changes nothing.
use Rattle.std.specs.Prelude.{◌≡◌, ℕ, List, [], ◌∷◌, ◌++◌, length, Bool, true, false, ◌&&◌, ◌==◌, nat_lt, Option, None, Some, Result, Ok, Err, if◌then◌else◌, position, slice_index_or}
use Rattle.std.specs.Str.{bytes_eq}
use Rattle.slot_map.specs.declared.fault.MapFault.{MapFault}
use Rattle.slot_map.specs.declared.fault.MapFault.TheVariants.{NoMemory, NotSlots, BadRange, TooManyNodes}

-- where a node listens
pub record Endpoint : Type 0 where
  pub host : List ℕ
  pub port : ℕ

-- one host and one port
abbrev pub same_endpoint : Endpoint → Endpoint → Bool
same_endpoint a b = bytes_eq a.host b.host && a.port == b.port

-- where a node of the table listens
abbrev pub endpoint_of : List Endpoint → ℕ → Endpoint
endpoint_of table node = slice_index_or table node (record { host = []; port = 0 })

-- the host of a node of the table
abbrev pub host_of : List Endpoint → ℕ → List ℕ
host_of table node = (endpoint_of table node).host

-- another port of a node's host
abbrev pub beside : List Endpoint → ℕ → ℕ → Endpoint
beside table node port = record { host = host_of table node; port = port }

-- the number of an endpoint, and the table that has it
pub record Numbered : Type 0 where
  pub table : List Endpoint
  pub number : ℕ

-- an endpoint that is held keeps its number; a new one gets the next, of which there are 64
abbrev pub numbered_at : Option ℕ → List Endpoint → Endpoint → Option Numbered
numbered_at (Some place) table at = Some (record { table = table; number = place })
numbered_at None table at =
    if nat_lt (length table) 64 then Some (record { table = table ++ at ∷ []; number = length table }) else None

-- the number that the table has for an endpoint, or gives it
abbrev pub numbered : List Endpoint → Endpoint → Option Numbered
numbered table at = numbered_at (position (same_endpoint at) table) table at

-- the table does not hold the endpoint, and has a number for it
abbrev pub WouldAdd : List Endpoint → Endpoint → Type 0
WouldAdd table at = numbered table at ≡ Some (record { table = table ++ at ∷ []; number = length table })

-- the endpoint is numbered; memory can be wanting only for a new one
abbrev pub Interns : List Endpoint → Endpoint → Result ℕ MapFault → List Endpoint → Type 0
Interns old at (Ok node) new = numbered old at ≡ Some (record { table = new; number = node })
Interns old at (Err TooManyNodes) new = (numbered old at ≡ None) × (new ≡ old)
Interns old at (Err NoMemory) new = WouldAdd old at × (new ≡ old)
Interns old at (Err NotSlots) new = ⊥
Interns old at (Err BadRange) new = ⊥

-- the nodes keep their numbers: the old table is a front of the new one
abbrev pub Grows : List Endpoint → List Endpoint → Type 0
Grows old new = (more : List Endpoint) × (new ≡ old ++ more)

-- whether the table has a number for the endpoint, which is then in it
abbrev pub Admits : Option Numbered → List Endpoint → Bool → List Endpoint → Type 0
Admits None old given new = (given ≡ false) × (new ≡ old)
Admits (Some n) old given new = (given ≡ true) × (new ≡ n.table)
