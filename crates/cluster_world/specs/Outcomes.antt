-- What the steps of a run of `simulate` give.
-- Only private functions cite it.
use Rattle.std.specs.Prelude.{◌≡◌, ◌+◌, ℕ, List, ◌++◌, Result, Ok, Err}
use Rattle.slot_map.specs.declared.ops.MapOp.{MapOp}
use Rattle.slot_map.specs.Map.{MapShows, node_after}
use Rattle.node_model.specs.Nodes.{ClusterModel, HasOwners, IsOpening}
use Rattle.world_laws.specs.State.{WorldModel, start}
use Rattle.cluster_world.specs.Machine.{run_limit}
use Rattle.cluster_world.specs.declared.script_fault.ScriptFault.{ScriptFault}
use Rattle.cluster_world.specs.declared.script_fault.ScriptFault.TheVariants.{NoMemory, BadLine}
use Rattle.cluster_world.specs.declared.header.Header.{Header}
use Rattle.cluster_world.specs.declared.input.Input.{Input}
use Rattle.cluster_world.specs.declared.input.Input.TheVariants.{Whole, TooLong, Failed}
use Rattle.cluster_world.specs.declared.outcome.Outcome.{Outcome}
use Rattle.cluster_world.specs.declared.fault.RunFault.{RunFault}
use Rattle.cluster_world.specs.Script.{lines_of}
use Rattle.cluster_world.specs.Schedule.{IsBadAt}
use Rattle.cluster_world.specs.Report.{state_text, refused_line}
use Rattle.cluster_world.specs.Simulate.{Writes, too_long_text, read_failed_text}

-- what is written for what was read
abbrev pub WritesInput : Input → Outcome → Type 0
WritesInput (Whole script) outcome = Writes script.items outcome.status outcome.text.items
WritesInput TooLong outcome = (outcome.status ≡ 1) × (outcome.text.items ≡ too_long_text)
WritesInput Failed outcome = (outcome.status ≡ 1) × (outcome.text.items ≡ read_failed_text)

-- what is written for a script, or its lowest bad line
abbrev pub WritesScript : List ℕ → Result Outcome ScriptFault → Type 0
WritesScript script (Ok outcome) = Writes script outcome.status outcome.text.items
WritesScript script (Err (BadLine number)) = IsBadAt (lines_of script) number
WritesScript script (Err NoMemory) = Unit {0}

-- the world that a header begins with, whatever operations its owners are; or none, by the owners
abbrev pub Opens : Header → Result WorldModel ScriptFault → Type 0
Opens header (Ok w) = (owners : List MapOp) → MapShows header.owners owners
    → HasOwners header.nodes (node_after owners) × ((k : ClusterModel) × IsOpening header.nodes (node_after owners) k × (w ≡ start header.workers run_limit k))
Opens header (Err (BadLine number)) = (number ≡ header.count + 1) × ((owners : List MapOp) → MapShows header.owners owners → HasOwners header.nodes (node_after owners) → ⊥)
Opens header (Err NoMemory) = Unit {0}

-- the text of a world, and of the event that it refused
abbrev pub Reports : {U : Type 0} → WorldModel → Result U RunFault → Outcome → Type 0
Reports w (Ok u) outcome = (outcome.status ≡ 0) × (outcome.text.items ≡ state_text w)
Reports w (Err fault) outcome = (outcome.status ≡ 1) × (outcome.text.items ≡ state_text w ++ refused_line fault.number fault.why)
