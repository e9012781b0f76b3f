-- A step of a move: it is made exactly where it may be made now, as the clauses of the cluster say.
use Rattle.std.specs.Prelude.{◌⊎◌, Result, Ok, Err}
use Rattle.node_model.specs.Nodes.{ClusterModel, standing_at}
use Rattle.node_model.specs.Moves.{Moves, NeedsNone, NeedsSome, NeedsToSend, MayImport, MayMigrate, MayMoveKey, MayOwn, MayRelease, MayForget, MayStay, import_done, migrate_done, move_key_done, own_done, release_done, forget_done, stay_done}
use Rattle.node_model.specs.declared.standing.MoveFault.{MoveFault}
use Rattle.node_model.specs.declared.standing.MoveFault.TheVariants as fault
use Rattle.world_laws.specs.declared.event.Event.{Event}
use Rattle.world_laws.specs.declared.event.Event.TheVariants as core
use Rattle.turn_play.specs.declared.fault.PlayFault.{PlayFault}
use Rattle.turn_play.specs.declared.fault.PlayFault.TheVariants.{NoMemory, NotServed, OutOfOrder, TooLong}
use Rattle.turn_play.specs.declared.moves.Move.{Move}
use Rattle.turn_play.specs.declared.moves.Move.TheVariants as step

-- the machine's event
abbrev pub event_of : Move → Event
event_of (step.Import slot target) = core.Import slot target
event_of (step.Migrate slot) = core.Migrate slot
event_of (step.Key slot key) = core.MoveKey slot key
event_of (step.Own slot) = core.Own slot
event_of (step.Release slot) = core.Release slot
event_of (step.Forget slot) = core.Forget slot
event_of (step.Stay slot) = core.Stay slot

-- the step is made where it may be made now and memory suffices, and else nothing changes
abbrev pub MoveOutcome : ClusterModel → Move → Result (Unit {0}) MoveFault → ClusterModel → Type 0
MoveOutcome k (step.Import slot target) result k' = Moves (MayImport k slot target) NeedsNone (import_done k slot target) result k k'
MoveOutcome k (step.Migrate slot) result k' = Moves (MayMigrate k slot) NeedsNone (migrate_done k slot) result k k'
MoveOutcome k (step.Key slot key) result k' = Moves (MayMoveKey k slot key) NeedsSome (move_key_done k slot key) result k k'
MoveOutcome k (step.Own slot) result k' = Moves (MayOwn k slot) NeedsNone (own_done k slot) result k k'
MoveOutcome k (step.Release slot) result k' = Moves (MayRelease k slot) (NeedsToSend k slot (standing_at k slot).source) (release_done k slot) result k k'
MoveOutcome k (step.Forget slot) result k' = Moves (MayForget k slot) NeedsNone (forget_done k slot) result k k'
MoveOutcome k (step.Stay slot) result k' = Moves (MayStay k slot) (NeedsToSend k slot (standing_at k slot).target) (stay_done k slot) result k k'

-- the same of a play, which goes on where the step may not be made now
abbrev pub MovesOrNot : ClusterModel → Move → Result (Unit {0}) PlayFault → ClusterModel → Type 0
MovesOrNot k move (Ok _) k' = MoveOutcome k move (Ok tt) k' ⊎ MoveOutcome k move (Err fault.NotNow) k'
MovesOrNot k move (Err NoMemory) k' = MoveOutcome k move (Err fault.NoMemory) k'
MovesOrNot k move (Err NotServed) k' = ⊥
MovesOrNot k move (Err OutOfOrder) k' = ⊥
MovesOrNot k move (Err TooLong) k' = ⊥
