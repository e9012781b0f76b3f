-- A stream in memory, with a node of the play at its other end. A node reads requests off the bytes that were written, and writes the bytes
-- of its replies.
use Rattle.std.specs.Prelude.{◌≡◌, ◌⊎◌, ◌^◌, ◌-◌, ◌<◌, ℕ, Bool, true, false, List, [], ◌∷◌, ◌++◌, Result, Ok, Err, codes, length, map, replicate}
use Rattle.resp_wire.specs.LimitsModel.{full}
use Rattle.resp_wire.specs.Seen.{data_of}
use Rattle.resp_wire.specs.Data.{array, items_of}
use Rattle.resp_wire.specs.declared.value.Value.{Value}
use Rattle.resp_wire.specs.declared.value.Value.TheVariants.{Simple, Error}
use Rattle.key_split.specs.PartModel.{PartModel}
use Rattle.key_split.specs.declared.travel.Told.{Told}
use Rattle.slot_map.specs.Table.{Endpoint}
use Rattle.node_model.specs.Nodes.{ClusterModel, store_at, with_store}
use Rattle.node_model.specs.Listing.{slots_data}
use Rattle.node_model.specs.Runs.{AllTold, AreReplies, deed_for, store_after_all}
use Rattle.node_model.specs.declared.role.Deed.{Deed}
use Rattle.node_model.specs.declared.role.Deed.TheVariants.{Executes, Says}
use Rattle.node_model.specs.declared.role.Verdict.{Verdict}
use Rattle.node_link.specs.Bytes.{Splits}
use Rattle.node_link.specs.declared.stream.Flow.{Flow}
use Rattle.node_link.specs.declared.stream.Flow.TheVariants as flow
use Rattle.world_laws.specs.World.{NamesNode}
use Rattle.turn_laws.specs.ByteWires.{FarEnd, ReadsItem, asking_after}
use Rattle.turn_laws.specs.Wire.{Item, Asks, Runs, Lists, parts_in}
use Rattle.turn_laws.specs.Writing.{AreWritten}
use Rattle.turn_play.specs.declared.fault.PlayFault.{PlayFault}
use Rattle.turn_play.specs.declared.fault.PlayFault.TheVariants.{NoMemory, NotServed, OutOfOrder, TooLong}
use Rattle.turn_play.specs.Serving.{CannotServeRun, IsRunSaid, okay}

-- ---- the stream

pub record StreamModel : Type 0 where
  -- the bytes that were written and that the node has not served
  pub unserved : List ℕ
  -- the bytes that the node wrote and that were not read
  pub unread : List ℕ
  -- the flag that ASKING sets
  pub asking : Bool
  -- from now on each call fails
  pub broken : Bool
  -- how many bytes one call moves at most
  pub most : ℕ

abbrev pub far_end : StreamModel → FarEnd
far_end stream = record { asking = stream.asking; unserved = stream.unserved; unread = stream.unread }

-- these bytes went in and these came out
abbrev pub StreamMoves : StreamModel → List ℕ → List ℕ → StreamModel → Type 0
StreamMoves old written read new =
    (old.unread ≡ read ++ new.unread) × (new ≡ record old { unserved = old.unserved ++ written; unread = new.unread })

-- A count that stands at the last value of 64 bits counts as risen: a stream that is broken may fail at each call.
abbrev pub no_failures : StreamModel → ℕ
no_failures stream = 2 ^ 64 - 1

-- a read that moved nothing found nothing to read
abbrev pub StreamAsked : StreamModel → ℕ → Flow → StreamModel → Type 0
StreamAsked old room (flow.Bytes count) new = 0 < count
StreamAsked old room flow.Nothing new = (old.unread ≡ []) × (new ≡ old)
StreamAsked old room flow.Gone new = new ≡ old

-- a write of some bytes moves some
abbrev pub StreamOffered : StreamModel → List ℕ → Flow → StreamModel → Type 0
StreamOffered old bytes (flow.Bytes count) new = (bytes ≡ []) ⊎ (0 < count)
StreamOffered old bytes flow.Nothing new = bytes ≡ []
StreamOffered old bytes flow.Gone new = new ≡ old

-- a stream over which nothing went
abbrev pub new_stream : ℕ → StreamModel
new_stream most = record { unserved = []; unread = []; asking = false; broken = false; most = most }

-- ---- what a node writes

abbrev pub queued : Value
queued = Simple (codes "QUEUED")

abbrev pub exec_aborted : Value
exec_aborted = Error (codes "EXECABORT Transaction discarded because of previous errors.")

-- what MULTI, the commands and EXEC are answered: the commands were executed at EXEC, or each got the same refusal and EXEC too
-- (Redis documentation, "Transactions")
abbrev pub BlockDone : List Endpoint → Deed → ClusterModel → ℕ → List PartModel → ClusterModel → List Value → Type 0
BlockDone table Executes k node cs k' replies =
    (tolds : List Told) × (values : List Value) × (exec : Value)
    × AreReplies (store_at k node) cs tolds × (k' ≡ with_store k node (store_after_all (store_at k node) cs)) × AreWritten table tolds values
    × (data_of exec ≡ array (items_of (map data_of values))) × (replies ≡ okay ∷ (replicate (length cs) queued ++ exec ∷ []))
BlockDone table (Says said) k node cs k' replies =
    (tolds : List Told) × (values : List Value)
    × AllTold said cs tolds × (k' ≡ k) × AreWritten table tolds values × (replies ≡ okay ∷ (values ++ exec_aborted ∷ []))

-- The replies to an item. One command's is its own; those of a block are as said.
abbrev pub IsReplied : List Endpoint → ClusterModel → ℕ → Bool → Item → Verdict → ClusterModel → List Value → Type 0
IsReplied table k node asking Asks verdict k' replies = (k' ≡ k) × (replies ≡ okay ∷ [])
IsReplied table k node asking (Runs []) verdict k' replies = ⊥
IsReplied table k node asking (Runs (part ∷ [])) verdict k' replies = IsRunSaid table k node asking (part.1 ∷ []) verdict k' replies
IsReplied table k node asking (Runs (part ∷ next ∷ later)) verdict k' replies =
    NamesNode k verdict
    × BlockDone table (deed_for k node asking (parts_in (part ∷ next ∷ later)) verdict) k node (parts_in (part ∷ next ∷ later)) k' replies
IsReplied table k node asking Lists verdict k' replies = (value : Value) × (k' ≡ k) × (replies ≡ value ∷ []) × (data_of value ≡ slots_data k table)

-- ---- at a stream

-- The node took the item that it read first, did what it says, and wrote bytes that spell its replies.
abbrev pub StreamServes : List Endpoint → ClusterModel → ℕ → StreamModel → Verdict → ClusterModel → StreamModel → Type 0
StreamServes table k node old verdict k' new =
    (item : Item) × (replies : List Value) × (bytes : List ℕ)
    × ReadsItem old.unserved item new.unserved × IsReplied table k node old.asking item verdict k' replies × Splits full bytes replies []
    × (new ≡ record old { asking = asking_after item old.asking; unserved = new.unserved; unread = old.unread ++ bytes })

-- no bytes spell these values, one after another, for any reader: one of them is past the largest limits
abbrev pub AreTooLong : List Value → Type 0
AreTooLong values = (bytes : List ℕ) → Splits full bytes values [] → ⊥

-- The node did what the item that it reads first says, but no bytes spell its replies: it wrote none, and the item stands there still.
abbrev pub CannotReply : List Endpoint → ClusterModel → ℕ → StreamModel → Verdict → ClusterModel → StreamModel → Type 0
CannotReply table k node old verdict k' new =
    (item : Item) × (rest : List ℕ) × (replies : List Value)
    × ReadsItem old.unserved item rest × IsReplied table k node old.asking item verdict k' replies × AreTooLong replies × (new ≡ old)

-- why an item was not served: as of the commands of a run; of any other, there was no memory
abbrev pub CannotBeServed : List Endpoint → ClusterModel → ℕ → Bool → Item → Verdict → PlayFault → Type 0
CannotBeServed table k node asking Asks verdict fault = fault ≡ NoMemory
CannotBeServed table k node asking (Runs parts) verdict fault = CannotServeRun table k node asking (parts_in parts) verdict fault
CannotBeServed table k node asking Lists verdict fault = fault ≡ NoMemory

-- no item stands whole before the node
abbrev pub HasNone : StreamModel → Type 0
HasNone stream = (item : Item) (rest : List ℕ) → ReadsItem stream.unserved item rest → ⊥

-- why nothing was served: no memory, or no item can be read, or the first can't be served
abbrev pub IsUnserved : List Endpoint → ClusterModel → ℕ → StreamModel → Verdict → PlayFault → Type 0
IsUnserved table k node stream verdict fault =
    (fault ≡ NoMemory) ⊎ ((fault ≡ NotServed) × HasNone stream)
    ⊎ ((item : Item) × (rest : List ℕ) × ReadsItem stream.unserved item rest × CannotBeServed table k node stream.asking item verdict fault)

-- What stands first was served, or no item stands whole before the node. After a fault nothing has changed, but where a node did commands
-- whose reply is longer than any reader takes.
abbrev pub StreamOutcome : List Endpoint → ClusterModel → ℕ → StreamModel → Verdict → Result Bool PlayFault → ClusterModel → StreamModel → Type 0
StreamOutcome table k node old verdict (Ok true) k' new = StreamServes table k node old verdict k' new
StreamOutcome table k node old verdict (Ok false) k' new = HasNone old × (k' ≡ k) × (new ≡ old)
StreamOutcome table k node old verdict (Err NoMemory) k' new = (k' ≡ k) × (new ≡ old)
StreamOutcome table k node old verdict (Err NotServed) k' new = IsUnserved table k node old verdict NotServed × (k' ≡ k) × (new ≡ old)
StreamOutcome table k node old verdict (Err OutOfOrder) k' new = ⊥
StreamOutcome table k node old verdict (Err TooLong) k' new = CannotReply table k node old verdict k' new
