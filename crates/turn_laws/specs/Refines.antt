-- Each run of the system is a run of the machine: the headline holds of what the code does.
use Rattle.std.specs.Prelude.{◌≡◌, ◌<◌, ◌≤◌, ℕ, List, [], length, slice_get, Some, IsSome}
use Rattle.std.specs.List.{FoldsTo}
use Rattle.std.specs.FinMap.{empty}
use mathlib.Core.List.{IsPrefix}
use Rattle.node_model.specs.declared.role.Verdict.{Verdict}
use Rattle.proxy_lanes.specs.declared.ends.lane_ends.LaneEnds.{LaneEnds}
use Rattle.proxy_turns.specs.declared.newcomer.Newcomer.{Newcomer}
use Rattle.proxy_turns.specs.WorkerModel.{WorkerModel, WorkerEvent}
use Rattle.world_laws.specs.State.{WorldModel}
use Rattle.world_laws.specs.Headline.{Headline, IsSound}
use Rattle.world_laws.specs.declared.event.Event.{Event}
use Rattle.turn_laws.specs.Walks.{Walk, IsSharedWalked, IsWalked}
use Rattle.turn_laws.specs.System.{System, between, IsInStep, seat_of}
use Rattle.turn_laws.specs.Naming.{NamesNodes}
use Rattle.turn_laws.specs.Shadow.{IsShadow}
use Rattle.turn_laws.specs.Endpoints.{AreApart, most_nodes}
use Rattle.turn_laws.specs.Underway.{down_in, DownInStep}
use Rattle.proxy_turns.specs.CarrierModel.{CarrierEvent}
use Rattle.turn_laws.specs.Steps.{SystemEvent, AtWorker, AtCarrier, Handed, AtNode, AtBroken, Thrown, Moved, SystemStep}

-- nothing has happened: no clients, empty lanes, no backends, before a sound cluster
pub record IsStart {C J : Type 0} (s : System C J) : Type 0 where
  pub idle : (k : ℕ) (model : WorkerModel C J) → slice_get s.workers k ≡ Some model → (seat_of model ≡ (k, length s.workers)) × (model.clients ≡ empty)
  pub ups : (k : ℕ) (model : WorkerModel C J) (lane : LaneEnds (Newcomer C J)) → slice_get s.workers k ≡ Some model → slice_get s.carrier.lanes k ≡ Some lane
      → (between model.outlet lane.up ≡ []) × (down_in lane.down model.inlet ≡ [])
  pub sides : length s.workers ≡ length s.carrier.lanes
  pub up_steps : (k : ℕ) (model : WorkerModel C J) (lane : LaneEnds (Newcomer C J)) → slice_get s.workers k ≡ Some model → slice_get s.carrier.lanes k ≡ Some lane → IsInStep model.outlet lane.up
  pub down_steps : (k : ℕ) (model : WorkerModel C J) (lane : LaneEnds (Newcomer C J)) → slice_get s.workers k ≡ Some model → slice_get s.carrier.lanes k ≡ Some lane → DownInStep lane model
  -- no lane to a worker is finished
  pub unfinished : (k : ℕ) (lane : LaneEnds (Newcomer C J)) → slice_get s.carrier.lanes k ≡ Some lane → IsSome lane.down
  pub pending_runs : s.carrier.pending_runs ≡ []
  pub backends : s.carrier.backends ≡ []
  -- each node of the cluster has its endpoint, no two the same; the table has room for each, and lists the first of them: the seed, or more
  pub each : length s.nodes ≡ length s.cluster.stores
  pub apart : AreApart s.nodes
  pub room : length s.nodes ≤ most_nodes
  pub table : IsPrefix s.carrier.nodes s.nodes
  pub seed : 0 < length s.carrier.nodes
  -- nothing was published of the slot map
  pub published : s.carrier.published ≡ []
  pub closed : s.closed ≡ []
  pub log : s.log ≡ []
  -- the nodes may hold keys, and slots may be on their way
  pub sound : IsSound s.initial s.cluster

module _ (C J : Type 0) where
  -- one step of the system is some events of the machine
  abbrev pub Simulates : SystemEvent → Type 0
  Simulates event = (s s' : System C J) (w : WorldModel) → IsShadow s w → IsSharedWalked w → SystemStep s event s'
      → (events : List Event) × (w' : WorldModel) × Walk w events w' × IsShadow s' w'

  -- the same, where each node that was named is one of the cluster
  abbrev pub SimulatesNaming : SystemEvent → Type 0
  SimulatesNaming event = (s s' : System C J) (w : WorldModel) → IsShadow s w → NamesNodes s → IsSharedWalked w → SystemStep s event s'
      → (events : List Event) × (w' : WorldModel) × Walk w events w' × IsShadow s' w'

  -- each step keeps that
  abbrev pub NamesStay : Type 0
  NamesStay = (event : SystemEvent) (s s' : System C J) (w : WorldModel) → IsShadow s w → NamesNodes s → SystemStep s event s' → NamesNodes s'

  -- what the carrier does
  abbrev pub CarrierRefines : Type 0
  CarrierRefines = (event : CarrierEvent) → Simulates (AtCarrier event)

  -- what a worker does
  abbrev pub WorkersRefine : Type 0
  WorkersRefine = (k : ℕ) (event : WorkerEvent) → SimulatesNaming (AtWorker k event)

  -- the steps of a move, and requests of a broken connection that are thrown away
  abbrev pub MovesRefine : Type 0
  MovesRefine = (event : Event) → Simulates (Moved event)

  abbrev pub ThrownRefine : Type 0
  ThrownRefine = (j : ℕ) → Simulates (Thrown j)

  -- a client that is handed to a worker
  abbrev pub HandedRefine : Type 0
  HandedRefine = (k number : ℕ) → Simulates (Handed k number)

  -- a node serves the next request of a connection that works, or of one that broke
  abbrev pub NodesRefine : Type 0
  NodesRefine = ((k : ℕ) (verdict : Verdict) → Simulates (AtNode k verdict)) × ((j : ℕ) (verdict : Verdict) → Simulates (AtBroken j verdict))

  -- a system that has done nothing stands for a world of the machine, and names nodes of the cluster
  abbrev pub StartsRefine : Type 0
  StartsRefine = (s : System C J) → IsStart s → (w : WorldModel) × IsWalked w × IsShadow s w × NamesNodes s

  -- whatever the system does from its start, the machine may do, and the headline holds of it
  abbrev pub Refines : Type 0
  Refines = (s s' : System C J) (events : List SystemEvent) → IsStart s → FoldsTo SystemStep s events s'
      → (w : WorldModel) × IsWalked w × IsShadow s' w × Headline w
