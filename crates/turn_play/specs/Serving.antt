-- What a node writes of commands that it serves, and what a fault says.
use Rattle.std.specs.Prelude.{◌≡◌, ◌⊎◌, ℕ, Bool, List, ◌∷◌, ◌++◌, IsSome, Result, Ok, Err, codes}
use Rattle.resp_wire.specs.declared.value.Value.{Value}
use Rattle.resp_wire.specs.declared.value.Value.TheVariants.{Simple}
use Rattle.key_split.specs.PartModel.{PartModel}
use Rattle.key_split.specs.declared.travel.Told.{Told}
use Rattle.key_split.specs.declared.travel.Told.TheVariants.{Reply, Moved, Ask, TryAgain, ClusterDown, Unclear, Lost, Unsent}
use Rattle.key_split.specs.Told.{CanBeWritten, IsWritten}
use Rattle.slot_map.specs.Table.{Endpoint}
use Rattle.node_model.specs.Nodes.{ClusterModel}
use Rattle.node_model.specs.Runs.{deed_for, DoesRun, HaveOneSlot}
use Rattle.node_model.specs.Serving.{refusal_of}
use Rattle.node_model.specs.declared.role.Deed.TheVariants.{Says}
use Rattle.node_model.specs.declared.role.Verdict.{Verdict}
use Rattle.world_laws.specs.World.{NamesNode}
use Rattle.turn_laws.specs.Writing.{AreWritten}
use Rattle.turn_play.specs.declared.fault.PlayFault.{PlayFault}
use Rattle.turn_play.specs.declared.fault.PlayFault.TheVariants.{NoMemory, NotServed, OutOfOrder, TooLong}

-- ---- what a node writes

-- it is no reply: the node executed nothing
abbrev pub IsRefusal : Told → Type 0
IsRefusal (Reply value) = ⊥
IsRefusal (Moved slot node) = Unit {0}
IsRefusal (Ask slot node) = Unit {0}
IsRefusal TryAgain = Unit {0}
IsRefusal ClusterDown = Unit {0}
IsRefusal Unclear = Unit {0}
IsRefusal Lost = Unit {0}
IsRefusal Unsent = Unit {0}

abbrev pub ReplyOutcome : Told → Result Value Told → Type 0
ReplyOutcome told (Ok value) = told ≡ Reply value
ReplyOutcome told (Err back) = (back ≡ told) × IsRefusal told

-- there was no memory, or no node writes it, or it names a node that is not in the table
abbrev pub CannotWrite : List Endpoint → Told → PlayFault → Type 0
CannotWrite table told NoMemory = Unit {0}
CannotWrite table told NotServed = CanBeWritten told table → ⊥
CannotWrite table told OutOfOrder = ⊥
CannotWrite table told TooLong = ⊥

abbrev pub WriteOutcome : List Endpoint → Told → Result Value PlayFault → Type 0
WriteOutcome table told (Ok value) = IsWritten told table value
WriteOutcome table told (Err fault) = IsRefusal told × CannotWrite table told fault

-- each is written, or one of them, which is no reply, can't be
abbrev pub WriteAllOutcome : List Endpoint → List Told → Result (Unit {0}) PlayFault → List Value → Type 0
WriteAllOutcome table tolds (Ok _) said = AreWritten table tolds said
WriteAllOutcome table tolds (Err fault) said =
    (before : List Told) × (told : Told) × (after : List Told) × (tolds ≡ before ++ told ∷ after) × IsRefusal told × CannotWrite table told fault

-- ---- what a node says

abbrev pub okay : Value
okay = Simple (codes "OK")

-- the node does the commands at once, and writes what it tells each
abbrev pub IsRunSaid : List Endpoint → ClusterModel → ℕ → Bool → List PartModel → Verdict → ClusterModel → List Value → Type 0
IsRunSaid table k node asking cs verdict k' said =
    (tolds : List Told) × NamesNode k verdict × DoesRun (deed_for k node asking cs verdict) k node cs tolds k' × AreWritten table tolds said

-- Why commands were not served: want of memory, or these are not of one slot, or there is no such node or it can't have this verdict, or
-- it would say what it can't write.
abbrev pub CannotServeRun : List Endpoint → ClusterModel → ℕ → Bool → List PartModel → Verdict → PlayFault → Type 0
CannotServeRun table k node asking cs verdict NoMemory = Unit {0}
CannotServeRun table k node asking cs verdict NotServed =
    (HaveOneSlot cs → ⊥)
    ⊎ IsSome (refusal_of k node verdict)
    ⊎ ((told : Told) × (deed_for k node asking cs verdict ≡ Says told) × (CanBeWritten told table → ⊥))
CannotServeRun table k node asking cs verdict OutOfOrder = ⊥
CannotServeRun table k node asking cs verdict TooLong = ⊥
