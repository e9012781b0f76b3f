-- The workers, the carrier, the lanes between them, the connections and the nodes.
use Rattle.std.specs.Prelude.{ℕ, List, length, drop, map}
use mathlib.Core.List.{IsPrefix}
use Rattle.slot_map.specs.Table.{Endpoint}
use Rattle.key_split.specs.PartModel.{PartModel}
use Rattle.key_split.specs.declared.travel.Ticket.{Ticket}
use Rattle.key_split.specs.declared.travel.Ended.{Ended}
use Rattle.node_model.specs.Nodes.{ClusterModel}
use Rattle.node_model.specs.Store.{StoreModel}
use Rattle.proxy_lanes.specs.declared.ring.Outlet.{Outlet}
use Rattle.proxy_lanes.specs.declared.ring.Inlet.{Inlet}
use Rattle.proxy_lanes.specs.declared.ring.Numbered.{Numbered}
use Rattle.proxy_lanes.specs.Lane.{posted, taken}
use Rattle.proxy_turns.specs.declared.newcomer.Newcomer.{Newcomer}
use Rattle.proxy_turns.specs.WorkerModel.{WorkerModel}
use Rattle.proxy_turns.specs.CarrierModel.{CarrierModel}
use Rattle.turn_laws.specs.Wire.{Wire, Execution}

-- what can be seen, in order: a part arrived, a node executed these at once and in this order, a part's end was written to its client
pub data Mark : Type 0 where
  Arrived : Ticket → PartModel → Mark
  Executed : List Execution → Mark
  Answered : Ticket → Ended → Mark

pub record System (C J : Type 0) : Type 0 where
  -- worker k at place k
  pub workers : List (WorkerModel C J)
  pub carrier : CarrierModel (Newcomer C J) Wire
  -- connections that broke, whose requests may still be served
  pub closed : List Wire
  -- how many connections were opened
  pub opened : ℕ
  pub cluster : ClusterModel
  -- what the nodes held together at the start
  pub initial : StoreModel
  -- The endpoint of each node of the cluster. They have the order in which the carrier's table learns them; the others stand behind.
  pub nodes : List Endpoint
  pub log : List Mark

-- what was posted into a lane and not taken yet: the two ends agree on what was taken
abbrev pub between : {T : Type 0} → Outlet T → Inlet T → List T
between {T} outlet inlet = map (λ (x : Numbered T). x.item) (drop (length (taken inlet)) (posted outlet))

-- what was taken was posted, in that order
abbrev pub IsInStep : {T : Type 0} → Outlet T → Inlet T → Type 0
IsInStep outlet inlet = IsPrefix (taken inlet) (posted outlet)

-- which worker it is, and of how many
abbrev pub seat_of : {C J : Type 0} → WorkerModel C J → ℕ × ℕ
seat_of model = (model.worker, model.workers)
