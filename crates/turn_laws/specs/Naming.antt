-- Each node that is named is a node of the cluster: in what was published of the slot map, in what is on its way to a worker, and in what
-- a command wants.
use Rattle.std.specs.Prelude.{◌≡◌, ◌<◌, ℕ, List, Some, None, All, length, slice_get}
use Rattle.std.specs.FinMap.{get}
use Rattle.key_split.specs.declared.travel.Ticket.{Ticket}
use Rattle.key_split.specs.declared.travel.Told.{Told}
use Rattle.key_split.specs.declared.travel.Told.TheVariants.{Reply, Moved, Ask, TryAgain, ClusterDown, Unclear, Lost, Unsent}
use Rattle.slot_map.specs.Map.{node_in}
use Rattle.slot_map.specs.declared.ops.MapOp.{MapOp}
use Rattle.command_future.specs.CommandModel.{CommandModel}
use Rattle.command_future.specs.declared.stage.Stage.{Stage}
use Rattle.command_future.specs.declared.stage.Stage.TheVariants.{Wants, WantsAsking, Awaits, Over}
use Rattle.proxy_lanes.specs.declared.ends.lane_ends.LaneEnds.{LaneEnds}
use Rattle.proxy_turns.specs.declared.newcomer.Newcomer.{Newcomer}
use Rattle.proxy_turns.specs.declared.backend.Backend.{Backend}
use Rattle.proxy_turns.specs.declared.backend.PendingTold.{PendingTold}
use Rattle.proxy_turns.specs.ClientModel.{ClientModel}
use Rattle.proxy_turns.specs.WorkerModel.{WorkerModel}
use Rattle.turn_laws.specs.Wire.{Wire}
use Rattle.turn_laws.specs.System.{System}
use Rattle.turn_laws.specs.Underway.{down_in}

-- what a command is told names one of the first n nodes, or none
abbrev pub SaysOneOf : ℕ → Told → Type 0
SaysOneOf n (Moved slot node) = node < n
SaysOneOf n (Ask slot node) = node < n
SaysOneOf n (Reply value) = Unit {0}
SaysOneOf n TryAgain = Unit {0}
SaysOneOf n ClusterDown = Unit {0}
SaysOneOf n Unclear = Unit {0}
SaysOneOf n Lost = Unit {0}
SaysOneOf n Unsent = Unit {0}

-- a change of the slot map names one of them
abbrev pub SetsOneOf : ℕ → MapOp → Type 0
SetsOneOf n op = node_in op < n

-- a command at this stage wants one of them, or any
abbrev pub WantsOneOf : ℕ → Stage → Type 0
WantsOneOf n (Wants None) = Unit {0}
WantsOneOf n (Wants (Some node)) = node < n
WantsOneOf n (WantsAsking node) = node < n
WantsOneOf n Awaits = Unit {0}
WantsOneOf n (Over end) = Unit {0}

-- what is pending at a backend names one of them
pub record PendsOneOf {P : Type 0} (n : ℕ) (backend : Backend P) : Type 0 where
  pub told : (pending_told : PendingTold) → backend.pending_told ≡ Some pending_told → SaysOneOf n pending_told.told
  pub change : (pending_told : PendingTold) (op : MapOp) → backend.pending_told ≡ Some pending_told → pending_told.change ≡ Some op → SetsOneOf n op
  pub changes : (ops : List MapOp) → backend.changes ≡ Some ops → All (SetsOneOf n) ops

pub record NamesNodes {C J : Type 0} (s : System C J) : Type 0 where
  -- the seed is a node, and each node has its endpoint
  pub seed : 0 < length s.nodes
  pub each : length s.nodes ≡ length s.cluster.stores
  pub published : All (SetsOneOf (length s.nodes)) s.carrier.published
  pub backends : (k : ℕ) (backend : Backend Wire) → slice_get s.carrier.backends k ≡ Some backend → PendsOneOf (length s.nodes) backend
  pub downs : (k : ℕ) (model : WorkerModel C J) (lane : LaneEnds (Newcomer C J)) → slice_get s.workers k ≡ Some model → slice_get s.carrier.lanes k ≡ Some lane
      → All (λ (pair : Ticket × Told). SaysOneOf (length s.nodes) pair.1) (down_in lane.down model.inlet)
  pub posted : (k : ℕ) (model : WorkerModel C J) (number : ℕ) (client : ClientModel C) (part : ℕ) (c : CommandModel) → slice_get s.workers k ≡ Some model
      → get model.clients number ≡ Some client → get client.commands.posted part ≡ Some c → WantsOneOf (length s.nodes) c.stage
