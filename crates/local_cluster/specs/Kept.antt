-- What the state keeps at each moment, in full: at which node each key may be, and which ASKs may still be followed.
-- Private: the invariant of `LocalState`, from which the facts of `IsSound` (Local.antt) follow.
use Rattle.std.specs.Prelude.{◌≡◌, ◌≢◌, ◌<◌, ℕ, true, List, length, All, is_some}
use Rattle.std.specs.FinMap.{empty, get}
use Rattle.slot_hash.specs.Slot.{slot_of}
use Rattle.key_split.specs.PartModel.{PartModel, HasOneSlot, keys_of}
use Rattle.node_model.specs.History.{IsLegal, left_by}
use Rattle.node_model.specs.Laws.{Among}
use Rattle.node_model.specs.Nodes.{ClusterModel, at, standing_at}
use Rattle.node_model.specs.Standings.{SlotStandingModel}
use Rattle.node_model.specs.declared.standing.Phase.TheVariants.{Settled}
use Rattle.world_laws.specs.State.{slot_for}
use Rattle.world_laws.specs.Homes.{is_bad, IsHome}
use Rattle.local_cluster.specs.declared.asked.Asked.{Asked}
use Rattle.local_cluster.specs.Local.{LocalStateModel}

-- the slot of a part, and that an ASK to its target would be bad, for one of its keys
abbrev pub slot_here : ClusterModel → PartModel → SlotStandingModel
slot_here k part = standing_at k (slot_for part)

abbrev pub BadAsk : ClusterModel → PartModel → Type 0
BadAsk k part = (key : List ℕ) × Among key (keys_of part) × (is_bad (slot_here k part).phase (is_some (at k (slot_here k part).source key)) ≡ true)

-- no ASK goes to a node that imports while the source may have one of its keys
abbrev pub IsGood : ClusterModel → Asked → Type 0
IsGood k a = HasOneSlot a.part × (BadAsk k a.part → (slot_here k a.part).target ≢ a.node)

pub record IsKept (s : LocalStateModel) : Type 0 where
  pub apart : (slot : ℕ) → (standing_at s.nodes slot).phase ≢ Settled → (standing_at s.nodes slot).source ≢ (standing_at s.nodes slot).target
  pub targets : (slot : ℕ) → (standing_at s.nodes slot).phase ≢ Settled → (standing_at s.nodes slot).target < length s.nodes.stores
  pub homes : (key : List ℕ) → IsHome (standing_at s.nodes (slot_of key)) (λ m. at s.nodes m key) (get (left_by empty s.history) key)
  pub legal : IsLegal empty s.history
  pub asked : All (IsGood s.nodes) s.asks
