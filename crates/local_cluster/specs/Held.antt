-- What is learnt in one hold of the lock: the state behind it was sound, and is sound when the lock is given up.
-- A lock's clause can say no more of the value behind it. Nothing ties two holds together.
use Rattle.std.specs.Prelude.{◌≡◌, ◌⊎◌, ◌<◌, ◌↔◌, ℕ, List, length, Result, Ok, Err}
use Rattle.resp_wire.specs.Seen.{data_of}
use Rattle.resp_wire.specs.declared.value.Value.{Value}
use Rattle.slot_map.specs.Table.{Endpoint}
use Rattle.key_split.specs.declared.travel.Batch.{Batch}
use Rattle.key_split.specs.declared.travel.Told.{Told}
use Rattle.key_split.specs.declared.travel.Told.TheVariants.{Reply, Moved, Ask, TryAgain, ClusterDown, Unclear, Lost, Unsent}
use Rattle.node_model.specs.Listing.{slots_data}
use Rattle.node_model.specs.Nodes.{ClusterModel}
use Rattle.node_model.specs.declared.role.ServeFault.TheVariants.{NoSuchNode}
use Rattle.node_model.specs.declared.standing.MoveFault.{MoveFault}
use Rattle.local_cluster.specs.declared.step.MoveStep.{MoveStep}
use Rattle.local_cluster.specs.Local.{LocalStateModel, IsSound, ServesLocally, Steps}

-- what serving the request gives; a node that is not there serves no slot
abbrev pub Tells : LocalStateModel → Batch → Told → LocalStateModel → Type 0
Tells s b told s' = ServesLocally s b (Ok told) s' ⊎ (ServesLocally s b (Err NoSuchNode) s' × (told ≡ ClusterDown))

-- the request was told this
abbrev pub WasTold : Batch → Told → Type 0
WasTold b told = (s : LocalStateModel) × (s' : LocalStateModel) × IsSound s × IsSound s' × Tells s b told s'

-- the step was tried, with this outcome
abbrev pub WasTried : {U : Type 0} → MoveStep → Result U MoveFault → Type 0
WasTried step tried = (s : LocalStateModel) × (s' : LocalStateModel) × IsSound s × IsSound s' × Steps s step tried s'

-- the slots were listed so
abbrev pub WasListed : List Endpoint → Value → Type 0
WasListed table value = (s : LocalStateModel) × IsSound s × (data_of value ≡ slots_data s.nodes table)

-- there are `count` nodes, counted up to 64
abbrev pub CountsNodes : ClusterModel → ℕ → Type 0
CountsNodes k count = (node : ℕ) → node < 64 → (node < count) ↔ (node < length k.stores)

-- what a node may say
abbrev pub IsSaid : Told → Type 0
IsSaid (Reply value) = Unit {0}
IsSaid (Moved slot node) = Unit {0}
IsSaid (Ask slot node) = Unit {0}
IsSaid TryAgain = Unit {0}
IsSaid ClusterDown = Unit {0}
IsSaid Unclear = ⊥
IsSaid Lost = ⊥
IsSaid Unsent = ⊥
