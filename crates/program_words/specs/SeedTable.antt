-- The table of the nodes that are known at the start.
use Rattle.std.specs.Prelude.{◌≡◌, ◌<◌, List, [], ◌∷◌, ◌++◌, length, Result, Ok, Err, if◌then◌else◌, is_some, position}
use Rattle.std.specs.List.{fold}
use Rattle.slot_map.specs.Table.{Endpoint, same_endpoint}
use Rattle.slot_map.specs.declared.fault.MapFault.{MapFault}
use Rattle.slot_map.specs.declared.fault.MapFault.TheVariants.{NoMemory, NotSlots, BadRange, TooManyNodes}

-- a node that is new stands last
abbrev pub with_node : List Endpoint → Endpoint → List Endpoint
with_node table at = if is_some (position (same_endpoint at) table) then table else table ++ at ∷ []

-- the nodes in their order, each once
abbrev pub each_once : List Endpoint → List Endpoint
each_once nodes = fold with_node [] nodes

-- the table of these nodes, of which there may be 64; or memory was wanting
abbrev pub IsTableOf : List Endpoint → Result (List Endpoint) MapFault → Type 0
IsTableOf nodes (Ok table) = table ≡ each_once nodes
IsTableOf nodes (Err TooManyNodes) = 64 < length (each_once nodes)
IsTableOf nodes (Err NoMemory) = Unit {0}
IsTableOf nodes (Err NotSlots) = ⊥
IsTableOf nodes (Err BadRange) = ⊥
