-- A cluster behind a lock: its nodes, what they executed, and the ASKs that no request has followed.
-- Redis Cluster specification, "Redirection and resharding" and "Cluster live reconfiguration", as node_model has them.
-- One rule is this project's: a node may not begin to import a slot while an ASK for it to that node may still be
-- followed.
use Rattle.std.specs.Prelude.{◌≡◌, ◌≢◌, ◌↔◌, ℕ, ◌+◌, ◌==◌, ◌&&◌, not, Bool, List, [], ◌∷◌, ◌++◌, length, filter, All, None, Some, unwrap_or, Result, Ok, Err}
use Rattle.std.specs.List.{list_any}
use Rattle.std.specs.FinMap.{empty, get}
use Rattle.resp_wire.specs.Seen.{data_of}
use Rattle.key_split.specs.PartModel.{PartModel, keys_of}
use Rattle.key_split.specs.Same.{same_part, same_ticket}
use Rattle.key_split.specs.declared.travel.Batch.{Batch}
use Rattle.key_split.specs.declared.travel.Ticket.{Ticket}
use Rattle.key_split.specs.declared.travel.Told.{Told}
use Rattle.key_split.specs.declared.travel.Told.TheVariants.{Reply, Moved, Ask, TryAgain, ClusterDown, Unclear, Lost, Unsent}
use Rattle.node_model.specs.History.{EntryModel, IsLegal, left_by}
use Rattle.node_model.specs.Laws.{Among}
use Rattle.node_model.specs.Moves.{forget_done, import_done, migrate_done, move_key_done, own_done, release_done, stay_done, MayForget, MayImport, MayMigrate, MayMoveKey, MayOwn, MayRelease, MayStay}
use Rattle.node_model.specs.Nodes.{ClusterModel, IsRest, at, role_of}
use Rattle.node_model.specs.Serving.{Serves, refusal_of}
use Rattle.node_model.specs.declared.role.Role.TheVariants.{Importing}
use Rattle.node_model.specs.declared.role.ServeFault.{ServeFault}
use Rattle.node_model.specs.declared.role.ServeFault.TheVariants as serve
use Rattle.node_model.specs.declared.role.Verdict.TheVariants.{Plain}
use Rattle.node_model.specs.declared.standing.MoveFault.{MoveFault}
use Rattle.node_model.specs.declared.standing.MoveFault.TheVariants.{NoMemory, NotNow}
use Rattle.local_cluster.specs.declared.asked.Asked.{Asked}
use Rattle.local_cluster.specs.declared.step.MoveStep.{MoveStep}
use Rattle.local_cluster.specs.declared.step.MoveStep.TheVariants.{Import, Migrate, MoveKey, MoveRest, Own, Release, Forget, Stay}
use Rattle.world_laws.specs.State.{slot_for}

pub record LocalStateModel : Type 0 where
  pub nodes : ClusterModel
  pub history : List EntryModel
  pub asks : List Asked

-- Serving.

-- a request counts as asking exactly where it asks, and the last answer to its ticket was ASK to that node for the same part
abbrev pub is_ask_for : Batch → Asked → Bool
is_ask_for b a = same_ticket a.ticket b.ticket && same_part a.part b.part && (a.node == b.node)

abbrev pub counts_as_asking : LocalStateModel → Batch → Bool
counts_as_asking s b = b.asking && list_any (is_ask_for b) s.asks

-- the ASKs of other tickets
abbrev pub asks_of_others : Ticket → List Asked → List Asked
asks_of_others ticket asks = filter (λ a. not (same_ticket a.ticket ticket)) asks

-- an entry's moment is its place in the history, from 1
abbrev pub noted : List EntryModel → Ticket → PartModel → Told → List EntryModel
noted history ticket part (Reply value) = history ++ record { ticket = ticket; part = part; reply = data_of value; moment = length history + 1 } ∷ []
noted history ticket part (Moved slot node) = history
noted history ticket part (Ask slot node) = history
noted history ticket part TryAgain = history
noted history ticket part ClusterDown = history
noted history ticket part Unclear = history
noted history ticket part Lost = history
noted history ticket part Unsent = history

abbrev pub history_after : List EntryModel → Batch → Told → List EntryModel
history_after history b told = noted history b.ticket b.part told

abbrev pub asks_after : List Asked → Batch → Told → List Asked
asks_after asks b (Reply value) = asks_of_others b.ticket asks
asks_after asks b (Moved slot node) = asks_of_others b.ticket asks
asks_after asks b (Ask slot node) = asks_of_others b.ticket asks ++ record { ticket = b.ticket; part = b.part; node = node } ∷ []
asks_after asks b TryAgain = asks_of_others b.ticket asks
asks_after asks b ClusterDown = asks_of_others b.ticket asks
asks_after asks b Unclear = asks_of_others b.ticket asks
asks_after asks b Lost = asks_of_others b.ticket asks
asks_after asks b Unsent = asks_of_others b.ticket asks

-- why a request is not served: there is no such node, or else there is no memory
abbrev pub unserved : ClusterModel → ℕ → ServeFault
unserved k node = unwrap_or (refusal_of k node Plain) serve.NoMemory

-- the node does with the request what its role says, and the entry is added; a refused request changes nothing
abbrev pub ServesNoted : ClusterModel → List EntryModel → Batch → Bool → Result Told ServeFault → ClusterModel → List EntryModel → Type 0
ServesNoted k history b asking (Ok told) k' history' = Serves k b.node asking b.part Plain (Ok told) k' × (history' ≡ history_after history b told)
ServesNoted k history b asking (Err fault) k' history' = (fault ≡ unserved k b.node) × (k' ≡ k) × (history' ≡ history)

-- the node does with the request what its role says, and what it told is noted; a refused request changes nothing
abbrev pub ServesLocally : LocalStateModel → Batch → Result Told ServeFault → LocalStateModel → Type 0
ServesLocally s b (Ok told) s' =
    (k : ClusterModel) × Serves s.nodes b.node (counts_as_asking s b) b.part Plain (Ok told) k
    × (s' ≡ record { nodes = k; history = history_after s.history b told; asks = asks_after s.asks b told })
ServesLocally s b (Err fault) s' = (fault ≡ unserved s.nodes b.node) × (s' ≡ s)

-- Moving.

-- no ASK for the slot to the node is still to be followed
abbrev pub NoneAsked : List Asked → ℕ → ℕ → Type 0
NoneAsked asks slot node = All (λ a. slot_for a.part ≡ slot → a.node ≢ node) asks

-- the nodes may make the step, and are these after it
abbrev pub Moves : ClusterModel → MoveStep → ClusterModel → Type 0
Moves k (Import slot target) k' = MayImport k slot target × (k' ≡ import_done k slot target)
Moves k (Migrate slot) k' = MayMigrate k slot × (k' ≡ migrate_done k slot)
Moves k (MoveKey slot key) k' = MayMoveKey k slot key × (k' ≡ move_key_done k slot key)
Moves k (MoveRest slot) k' = (key : List ℕ) × IsRest k slot key × MayMoveKey k slot key × (k' ≡ move_key_done k slot key)
Moves k (Own slot) k' = MayOwn k slot × (k' ≡ own_done k slot)
Moves k (Release slot) k' = MayRelease k slot × (k' ≡ release_done k slot)
Moves k (Forget slot) k' = MayForget k slot × (k' ≡ forget_done k slot)
Moves k (Stay slot) k' = MayStay k slot × (k' ≡ stay_done k slot)

-- the ASKs that may still be followed allow it: a node may not begin to import a slot for which one goes there
abbrev pub AsksAllow : List Asked → MoveStep → Type 0
AsksAllow asks (Import slot target) = NoneAsked asks slot target
AsksAllow asks (Migrate slot) = Unit {0}
AsksAllow asks (MoveKey slot key) = Unit {0}
AsksAllow asks (MoveRest slot) = Unit {0}
AsksAllow asks (Own slot) = Unit {0}
AsksAllow asks (Release slot) = Unit {0}
AsksAllow asks (Forget slot) = Unit {0}
AsksAllow asks (Stay slot) = Unit {0}

abbrev pub MovesLocally : LocalStateModel → MoveStep → ClusterModel → Type 0
MovesLocally s step k = AsksAllow s.asks step × Moves s.nodes step k

-- the nodes may make the step; of the rest of a slot, some key may be moved
abbrev pub MayMake : ClusterModel → MoveStep → Type 0
MayMake k (Import slot target) = MayImport k slot target
MayMake k (Migrate slot) = MayMigrate k slot
MayMake k (MoveKey slot key) = MayMoveKey k slot key
MayMake k (MoveRest slot) = (key : List ℕ) × IsRest k slot key × MayMoveKey k slot key
MayMake k (Own slot) = MayOwn k slot
MayMake k (Release slot) = MayRelease k slot
MayMake k (Forget slot) = MayForget k slot
MayMake k (Stay slot) = MayStay k slot

-- a step was made; or it may not be made now, or it may and there is no memory, and nothing changed
abbrev pub Makes : {U : Type 0} → ClusterModel → MoveStep → Result U MoveFault → ClusterModel → Type 0
Makes k step (Ok u) k' = Moves k step k'
Makes k step (Err NotNow) k' = ((j : ClusterModel) → Moves k step j → ⊥) × (k' ≡ k)
Makes k step (Err NoMemory) k' = MayMake k step × (k' ≡ k)

abbrev pub Steps : {U : Type 0} → LocalStateModel → MoveStep → Result U MoveFault → LocalStateModel → Type 0
Steps s step (Ok u) s' = (k : ClusterModel) × MovesLocally s step k × (s' ≡ record s { nodes = k })
Steps s step (Err NotNow) s' = ((k : ClusterModel) → MovesLocally s step k → ⊥) × (s' ≡ s)
Steps s step (Err NoMemory) s' = ((k : ClusterModel) × MovesLocally s step k) × (s' ≡ s)

-- What it keeps at each moment.

pub record IsSound (s : LocalStateModel) : Type 0 where
  -- no key is at two nodes
  pub one_node : (key : List ℕ) (n m : ℕ) (a b : List ℕ) → at s.nodes n key ≡ Some a → at s.nodes m key ≡ Some b → n ≡ m
  -- the history is one legal history of one store,
  pub legal : IsLegal empty s.history
  -- which is what the nodes hold together
  pub union : (key value : List ℕ) → (get (left_by empty s.history) key ≡ Some value) ↔ ((n : ℕ) × (at s.nodes n key ≡ Some value))
  -- where the target of an unfollowed ASK is importing from a source, that source holds none of the command's keys
  pub asked : All (λ a. (source : ℕ) → role_of s.nodes a.node (slot_for a.part) ≡ Importing source → (key : List ℕ) → Among key (keys_of a.part) → at s.nodes source key ≡ None) s.asks
