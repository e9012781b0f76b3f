-- What the state keeps, whatever is served and however slots move.
-- Statements alone; the functions of src/laws.rt prove them.
use Rattle.std.specs.Prelude.{[], List, Ok, ℕ, Option, Vec}
use Rattle.std.specs.declared.alloc.Global.{Global}
use Rattle.key_split.specs.PartModel.{PartModel, HasOneSlot}
use Rattle.key_split.specs.declared.travel.Batch.{Batch}
use Rattle.key_split.specs.declared.travel.Ticket.{Ticket}
use Rattle.key_split.specs.declared.travel.Told.{Told}
use Rattle.node_model.specs.Nodes.{ClusterModel, HasOwners, IsOpening}
use Rattle.node_model.specs.Runs.{HaveOneSlot}
use Rattle.world_laws.specs.Headline.{IsNew}
use Rattle.local_cluster.specs.declared.step.MoveStep.{MoveStep}
use Rattle.local_cluster.specs.Local.{LocalStateModel, IsSound, MovesLocally, ServesLocally}
use Rattle.local_cluster.specs.LocalRuns.{ServesRunLocally}
use Rattle.local_cluster.specs.Kept.{IsKept}

abbrev pub ServingKeeps : Type 0
ServingKeeps = (s s' : LocalStateModel) (b : Batch) (told : Told) → IsKept s → HasOneSlot b.part → ServesLocally s b (Ok told) s' → IsKept s'

abbrev pub RunsKeep : Type 0
RunsKeep =
    (s s' : LocalStateModel) (ticket : Ticket) (node : ℕ) (cs : List PartModel) (tolds : Vec Told Global) → IsKept s → HaveOneSlot cs → ServesRunLocally s ticket node cs (Ok tolds) s' → IsKept s'

abbrev pub MovingKeeps : Type 0
MovingKeeps = (s : LocalStateModel) (step : MoveStep) (k : ClusterModel) → IsKept s → MovesLocally s step k → IsKept (record s { nodes = k })

abbrev pub StartsSound : Type 0
StartsSound = ((k : ClusterModel) → IsNew k → IsKept (record { nodes = k; history = []; asks = [] })) × ((s : LocalStateModel) → IsKept s → IsSound s)

-- a cluster that was made, with its owners, is new
abbrev pub OpenedIsNew : Type 0
OpenedIsNew = (count : ℕ) (owners : ℕ → Option ℕ) (k : ClusterModel) → HasOwners count owners → IsOpening count owners k → IsNew k
