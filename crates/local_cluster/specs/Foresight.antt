-- The reply to a command, before it is executed: its keys are read, and one store that holds them answers.
-- Only private functions cite it. Nothing may be refused after the node executed, so the history's copy of the reply is
-- made before.
use Rattle.std.specs.Prelude.{◌≡◌, ℕ, Bool, List, [], ◌∷◌, Option, None, Some, Result, Ok, Err}
use Rattle.std.specs.FinMap.{empty}
use Rattle.resp_wire.specs.Data.{Data, simple, error, integer, bulk, null_bulk, array, null_array}
use Rattle.resp_wire.specs.Seen.{data_of}
use Rattle.resp_wire.specs.declared.value.Value.{Value}
use Rattle.resp_wire.specs.declared.value.Value.TheVariants as value
use Rattle.key_split.specs.PartModel.{PartModel, Pair, keys_of, pairs_in}
use Rattle.key_split.specs.Groups.{alone, on_group}
use Rattle.key_split.specs.declared.part.Op.TheVariants.{MGet}
use Rattle.key_split.specs.declared.travel.Batch.{Batch}
use Rattle.key_split.specs.declared.travel.Told.{Told}
use Rattle.key_split.specs.declared.travel.Told.TheVariants.{Reply, Moved, Ask, TryAgain, ClusterDown, Unclear, Lost, Unsent}
use Rattle.node_model.specs.Nodes.{ClusterModel}
use Rattle.node_model.specs.Serving.{Serves}
use Rattle.node_model.specs.Store.{StoreModel, put, reply_to}
use Rattle.node_model.specs.declared.role.ServeFault.{ServeFault}
use Rattle.node_model.specs.declared.role.Verdict.TheVariants.{Plain}
use Rattle.local_cluster.specs.Local.{unserved}

-- the same keys, read
abbrev pub reading : PartModel → PartModel
reading c = on_group MGet (alone (keys_of c))

-- a key with the value that was read there
abbrev pub put_read : StoreModel → List ℕ → Data → StoreModel
put_read store key (simple t) = store
put_read store key (error t) = store
put_read store key (integer z) = store
put_read store key (bulk b) = put store key (Some b)
put_read store key null_bulk = store
put_read store key (array ds) = store
put_read store key null_array = store

-- keys with the values that were read there
abbrev pub laid : StoreModel → List Pair → List Data → StoreModel
laid store [] ds = store
laid store (p ∷ ps) [] = store
laid store (p ∷ ps) (d ∷ ds) = laid (put_read store p.0 d) ps ds

-- the items of an array that was told
abbrev pub items_in : Value → Option (List Data)
items_in (value.Simple t) = None
items_in (value.Error t) = None
items_in (value.Integer z) = None
items_in (value.Bulk b) = None
items_in value.NullBulk = None
items_in (value.Array ds) = Some ds
items_in value.NullArray = None

abbrev pub items_told : Told → Option (List Data)
items_told (Reply v) = items_in v
items_told (Moved slot node) = None
items_told (Ask slot node) = None
items_told TryAgain = None
items_told ClusterDown = None
items_told Unclear = None
items_told Lost = None
items_told Unsent = None

-- the reply that one store gives, in which those keys stand
abbrev pub foreseen : PartModel → List Data → Data
foreseen c ds = reply_to (laid empty (pairs_in c) ds) c

-- the reply, foreseen from an array that was told
abbrev pub IsForeseen : PartModel → Option (List Data) → Option Value → Type 0
IsForeseen c (Some ds) (Some copy) = data_of copy ≡ foreseen c ds
IsForeseen c (Some ds) None = ⊥
IsForeseen c None copy = copy ≡ None

-- where it is a reply, the copy is the same
abbrev pub IsCopy : Told → Option Value → Type 0
IsCopy (Reply v) None = ⊥
IsCopy (Reply v) (Some copy) = data_of copy ≡ data_of v
IsCopy (Moved slot node) copy = Unit {0}
IsCopy (Ask slot node) copy = Unit {0}
IsCopy TryAgain copy = Unit {0}
IsCopy ClusterDown copy = Unit {0}
IsCopy Unclear copy = Unit {0}
IsCopy Lost copy = Unit {0}
IsCopy Unsent copy = Unit {0}

-- a node served a request, and its reply is there twice; or it is refused
abbrev pub ServesTwice : ClusterModel → Batch → Bool → Result (Told × Option Value) ServeFault → ClusterModel → Type 0
ServesTwice k b asking (Ok both) k' = Serves k b.node asking b.part Plain (Ok both.0) k' × IsCopy both.0 both.1
ServesTwice k b asking (Err fault) k' = (fault ≡ unserved k b.node) × (k' ≡ k)
