-- The table of nodes with which a proxy begins anew, since its own has no place for a node of an answer to CLUSTER SLOTS.
use Rattle.std.specs.Prelude.{◌≡◌, ◌⊎◌, ◌<◌, List, [], ◌∷◌, ◌++◌, length, take, true, false, Option, Some, None, Result, Ok, Err, if◌then◌else◌, is_some, position, ⊤}
use Rattle.std.specs.List.{fold}
use Rattle.resp_wire.specs.declared.value.Value.{Value}
use Rattle.resp_wire.specs.Text.{is_one_line}
use Rattle.slot_map.specs.declared.fault.MapFault.{MapFault}
use Rattle.slot_map.specs.declared.fault.MapFault.TheVariants.{NoMemory, NotSlots, BadRange, TooManyNodes}
use Rattle.slot_map.specs.Slots.{SlotsReading, read_slots}
use Rattle.slot_map.specs.Table.{Endpoint, same_endpoint}

-- a node that is new stands last
abbrev pub with_node : List Endpoint → Endpoint → List Endpoint
with_node table at = if is_some (position (same_endpoint at) table) then table else table ++ at ∷ []

-- the nodes that are new stand behind the others, in their order, each once; they come from a table, which has 64 places
abbrev pub with_nodes : List Endpoint → List Endpoint → List Endpoint
with_nodes table nodes = fold with_node table (take 64 nodes)

-- The answer of the node at the endpoint means this in a table of that node alone: behind it then stand the nodes that the answer names,
-- in their order, each once.
abbrev pub Answers : Endpoint → Value → Result SlotsReading MapFault → Type 0
Answers at answer reading = (is_one_line at.host ≡ true) × (read_slots answer 0 (at ∷ []) ≡ reading)

-- The table has the node at the endpoint, then those that its answer names, then the seeds. There is none where the host is no line,
-- where the answer has a fault, which is then told, or where they are more than 64. Memory can be wanting only where the host is a line.
abbrev pub IsNextTable : List Endpoint → Endpoint → Value → Result (List Endpoint) MapFault → Type 0
IsNextTable seeds at answer (Ok table) = (r : SlotsReading) × Answers at answer (Ok r) × (table ≡ with_nodes r.table seeds)
IsNextTable seeds at answer (Err NotSlots) = (is_one_line at.host ≡ false) ⊎ Answers at answer (Err NotSlots)
IsNextTable seeds at answer (Err BadRange) = Answers at answer (Err BadRange)
IsNextTable seeds at answer (Err TooManyNodes) =
    Answers at answer (Err TooManyNodes) ⊎ ((r : SlotsReading) × Answers at answer (Ok r) × (64 < length (with_nodes r.table seeds)))
IsNextTable seeds at answer (Err NoMemory) = is_one_line at.host ≡ true

-- the table with the node that stands at a place of another one, where one does
abbrev pub with_place : List Endpoint → Option Endpoint → List Endpoint
with_place table None = table
with_place table (Some at) = with_node table at

-- nodes were added, so that this is the table; or it would have more than 64
abbrev pub Adds : List Endpoint → Result Unit MapFault → List Endpoint → Type 0
Adds wanted (Ok _) new = new ≡ wanted
Adds wanted (Err TooManyNodes) new = 64 < length wanted
Adds wanted (Err NoMemory) new = ⊤
Adds wanted (Err NotSlots) new = ⊥
Adds wanted (Err BadRange) new = ⊥

-- a table that was read is kept in place of the one before; where none was read, that one stays
abbrev pub Keeps : Option (List Endpoint) → Result (List Endpoint) MapFault → Option (List Endpoint) → Type 0
Keeps old (Ok table) new = new ≡ Some table
Keeps old (Err e) new = new ≡ old
