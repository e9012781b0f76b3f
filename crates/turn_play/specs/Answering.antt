-- What a node writes to the item that it read, as values whose bytes can be read back.
use Rattle.std.specs.Prelude.{◌≡◌, ◌++◌, ℕ, Bool, List, [], ◌∷◌, All, Result, Ok, Err, true, false}
use Rattle.std.specs.declared.collections.VecDeque.{VecDeque}
use Rattle.std.specs.declared.alloc.Global.{Global}
use Rattle.std.specs.List.{flat_map}
use Rattle.resp_wire.specs.Canonical.{canonical}
use Rattle.resp_wire.specs.Data.{Data, items_of}
use Rattle.resp_wire.specs.LimitsModel.{full}
use Rattle.resp_wire.specs.Seen.{data_of}
use Rattle.resp_wire.specs.Spelling.{Spells, SpellsAll}
use Rattle.resp_wire.specs.declared.value.Value.{Value}
use Rattle.key_split.specs.PartModel.{PartModel}
use Rattle.key_split.specs.Told.{CanBeWritten}
use Rattle.key_split.specs.declared.travel.Told.{Told}
use Rattle.key_split.specs.declared.travel.Told.TheVariants.{Reply, Moved, Ask, TryAgain, ClusterDown, Unclear, Lost, Unsent}
use Rattle.slot_map.specs.Table.{Endpoint}
use Rattle.node_model.specs.Nodes.{ClusterModel}
use Rattle.node_model.specs.Runs.{deed_for}
use Rattle.node_model.specs.declared.role.Verdict.{Verdict}
use Rattle.world_laws.specs.World.{NamesNode}
use Rattle.turn_laws.specs.Wire.{Item}
use Rattle.turn_laws.specs.Writing.{AreWritten}
use Rattle.turn_play.specs.declared.fault.PlayFault.{PlayFault}
use Rattle.turn_play.specs.declared.fault.PlayFault.TheVariants.{NoMemory, NotServed, OutOfOrder, TooLong}
use Rattle.turn_play.specs.Serving.{IsRefusal, okay}
use Rattle.turn_play.specs.Stream.{AreTooLong, BlockDone, CannotBeServed, IsReplied, exec_aborted}

-- ---- what can be read back

-- some bytes spell it within the largest limits, where `room` arrays may still stand one inside another
abbrev pub CanBeSpelled : ℕ → Data → Type 0
CanBeSpelled room value = (bytes : List ℕ) × Spells full room bytes value

-- some bytes spell them, one after another
abbrev pub CanAllBeSpelled : ℕ → List Data → Type 0
CanAllBeSpelled room values = (bytes : List ℕ) × SpellsAll full room bytes (items_of values)

-- whoever reads within the largest limits can read it
abbrev pub IsReadable : Value → Type 0
IsReadable value = CanBeSpelled full.depth (data_of value)

-- ---- the bytes of values

abbrev pub bytes_of : Value → List ℕ
bytes_of value = canonical (data_of value)

abbrev pub all_bytes : List Value → List ℕ
all_bytes values = flat_map bytes_of values

-- ---- what is said

-- the first is a reply, or the first is none
abbrev pub IsDoneRun : List Told → Bool → Type 0
IsDoneRun [] done = done ≡ false
IsDoneRun (told ∷ tolds) true = (value : Value) × (told ≡ Reply value)
IsDoneRun (told ∷ tolds) false = IsRefusal told

-- the values of the replies up to the first that is none
abbrev pub replies_in : List Told → List Value
replies_in [] = []
replies_in (Reply value ∷ tolds) = value ∷ replies_in tolds
replies_in (Moved slot node ∷ tolds) = []
replies_in (Ask slot node ∷ tolds) = []
replies_in (TryAgain ∷ tolds) = []
replies_in (ClusterDown ∷ tolds) = []
replies_in (Unclear ∷ tolds) = []
replies_in (Lost ∷ tolds) = []
replies_in (Unsent ∷ tolds) = []

module _ (table : List Endpoint) (k : ClusterModel) (node : ℕ) (asking : Bool) (cs : List PartModel) (verdict : Verdict) where
  -- a block was done or refused
  abbrev pub BlockOutcome : ClusterModel → List Value → Type 0
  BlockOutcome k' replies = NamesNode k verdict × BlockDone table (deed_for k node asking cs verdict) k node cs k' replies

-- MULTI, the commands and EXEC are answered by these, or what was told of one can't be written, or there was no memory
abbrev pub RefuseOutcome : List Endpoint → List Told → Result (VecDeque Value Global) PlayFault → Type 0
RefuseOutcome table tolds (Ok replies) = (values : List Value) × AreWritten table tolds values × (replies.items ≡ okay ∷ (values ++ exec_aborted ∷ []))
RefuseOutcome table tolds (Err NoMemory) = Unit {0}
RefuseOutcome table tolds (Err NotServed) =
    (before : List Told) × (told : Told) × (after : List Told) × (tolds ≡ before ++ told ∷ after) × IsRefusal told × (CanBeWritten told table → ⊥)
RefuseOutcome table tolds (Err OutOfOrder) = ⊥
RefuseOutcome table tolds (Err TooLong) = ⊥

-- The replies, each of which can be read. After want of memory, or where it can't be served, nothing has changed. Where it was served, but
-- the replies can't be read, there are none.
abbrev pub Answers : List Endpoint → ClusterModel → ℕ → Bool → Item → Verdict → Result (VecDeque Value Global) PlayFault → ClusterModel → Type 0
Answers table k node asking item verdict (Ok replies) k' = IsReplied table k node asking item verdict k' replies.items × All IsReadable replies.items
Answers table k node asking item verdict (Err NoMemory) k' = k' ≡ k
Answers table k node asking item verdict (Err NotServed) k' = (k' ≡ k) × CannotBeServed table k node asking item verdict NotServed
Answers table k node asking item verdict (Err OutOfOrder) k' = ⊥
Answers table k node asking item verdict (Err TooLong) k' = (replies : List Value) × IsReplied table k node asking item verdict k' replies × AreTooLong replies
