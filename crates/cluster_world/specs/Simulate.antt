-- What a run of `simulate` writes.
-- Status 0 where every event happened. A refused event gives status 1, the text of the world before it and a line for
-- it; any other input gives one line and status 1. This project's format.
use Rattle.std.specs.Prelude.{◌≡◌, ◌⊎◌, ℕ, ◌+◌, ◌≤◌, List, ◌++◌, length, take, Some, slice_get, codes}
use Rattle.slot_map.specs.Map.{node_after}
use Rattle.node_model.specs.Nodes.{ClusterModel, IsOpening}
use Rattle.world_laws.specs.State.{WorldModel, start}
use Rattle.world_laws.specs.World.{WorldRun}
use Rattle.world_laws.specs.declared.event.Event.{Event}
use Rattle.cluster_world.specs.Machine.{run_limit}
use Rattle.cluster_world.specs.declared.fault.WorldFault.{WorldFault}
use Rattle.cluster_world.specs.Steps.{RefusedFor}
use Rattle.cluster_world.specs.Script.{lines_of}
use Rattle.cluster_world.specs.Schedule.{Schedule, Says, IsBadAt}
use Rattle.cluster_world.specs.Report.{state_text, refused_line, bad_line, line}
use Rattle.cluster_world.specs.Watched.{IsTooLong, WatchedReaderModel}
use Rattle.cluster_world.specs.declared.watched.LastRead.TheVariants.{End, Failure}

-- the world in which a schedule begins
abbrev pub Begins : Schedule → WorldModel → Type 0
Begins s w = (k : ClusterModel) × IsOpening s.nodes (node_after s.owners) k × (w ≡ start s.workers run_limit k)

-- the status and the text for an input that was read whole
pub data Writes : List ℕ → ℕ → List ℕ → Type 0 where
  bad : (input : List ℕ) (number : ℕ) → IsBadAt (lines_of input) number → Writes input 1 (bad_line number)
  ran : (input : List ℕ) (s : Schedule) (first last : WorldModel) → Says (lines_of input) s → Begins s first → WorldRun first s.events last → Writes input 0 (state_text last)
  refused : (input : List ℕ) (s : Schedule) (first last : WorldModel) (place : ℕ) (event : Event) (why : WorldFault) → Says (lines_of input) s → Begins s first
      → slice_get s.events place ≡ Some event → WorldRun first (take place s.events) last → RefusedFor last event why
      → Writes input 1 (state_text last ++ refused_line (place + 1) why)

abbrev pub too_long_text : List ℕ
too_long_text = line (codes "too long")

abbrev pub read_failed_text : List ℕ
read_failed_text = line (codes "read failed")

-- the same for an input of which at most `limit` bytes are read, in as many reads: it was read to its end, or is too long, or a read failed
abbrev pub WritesFor : {R : Type 0} → ℕ → List ℕ → ℕ → WatchedReaderModel R → ℕ → List ℕ → Type 0
WritesFor limit input before now status text =
    ((length input ≤ limit) × (now.last ≡ End) × Writes input status text)
    ⊎ ((IsTooLong limit input before now × (status ≡ 1) × (text ≡ too_long_text))
    ⊎ ((now.last ≡ Failure) × (status ≡ 1) × (text ≡ read_failed_text)))
