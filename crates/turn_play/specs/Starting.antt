-- Where a play begins: with a new engine, which has no connection, before a sound cluster.
use Rattle.std.specs.Prelude.{◌≡◌, ◌<◌, ◌≤◌, ℕ, List, All, [], ◌∷◌, Option, length}
use mathlib.Core.List.{IsPrefix}
use Rattle.slot_map.specs.Table.{Endpoint}
use Rattle.node_model.specs.Nodes.{ClusterModel}
use Rattle.node_model.specs.Store.{StoreModel}
use Rattle.world_laws.specs.Headline.{IsSound}
use Rattle.proxy_engine.specs.EngineModel.{IsNewEngine}
use Rattle.turn_laws.specs.System.{System}
use Rattle.turn_laws.specs.Endpoints.{AreApart, most_nodes}
use Rattle.turn_laws.specs.AnyPort.{over_wires}
use Rattle.turn_laws.specs.Refines.{IsStart}
use Rattle.turn_laws.specs.Writing.{CanBeNamed, StandsAtItsNodes}
use Rattle.turn_play.specs.May.{HearsItsNodes}
use Rattle.turn_play.specs.Playing.{PlayModel, Shows}

-- a play of a new engine, which is to take `left` clients, whose table has these seeds
abbrev pub IsNewPlay : {C J : Type 0} → Option ℕ → List Endpoint → ClusterModel → List Endpoint → PlayModel C J → Type 0
IsNewPlay left seeds cluster nodes play = IsNewEngine left seeds 0 play.engine × (play ≡ record { engine = play.engine; cluster = cluster; nodes = nodes; told = [] })

-- the system of a play that has done nothing, before nodes that hold this store
abbrev pub start_of : {C J : Type 0} → StoreModel → PlayModel C J → System C J
start_of initial play = record { workers = play.engine.worker ∷ []; carrier = over_wires play.engine.carrier []; closed = []; opened = 0; cluster = play.cluster; initial = initial; nodes = play.nodes; log = [] }

-- the nodes of a cluster, each with its endpoint, which a redirection can name, and a table that lists the first of them
pub record AreListedFrom (table : List Endpoint) (cluster : ClusterModel) (nodes : List Endpoint) : Type 0 where
  pub each : length nodes ≡ length cluster.stores
  pub apart : AreApart nodes
  pub named : All CanBeNamed nodes
  pub room : length nodes ≤ most_nodes
  pub front : IsPrefix table nodes
  pub seed : 0 < length table

-- A sound cluster whose slots stand at its nodes. It may hold keys, and slots may be on their way. Of a cluster that `Cluster::new` made both
-- hold, with nothing in it.
pub record IsBeginning (initial : StoreModel) (seeds : List Endpoint) (cluster : ClusterModel) (nodes : List Endpoint) : Type 0 where
  pub sound : IsSound initial cluster
  pub stands : StandsAtItsNodes cluster
  pub listed : AreListedFrom seeds cluster nodes

-- a system shows this play, has done nothing, and hears its nodes
abbrev pub ShowsStart : {C J : Type 0} → StoreModel → PlayModel C J → Type 0
ShowsStart initial play = Shows play (start_of initial play) × IsStart (start_of initial play) × HearsItsNodes (start_of initial play)

module _ (C J : Type 0) where
  -- so a new play shows a start
  abbrev pub PlaysStart : Type 0
  PlaysStart = (initial : StoreModel) (left : Option ℕ) (seeds : List Endpoint) (cluster : ClusterModel) (nodes : List Endpoint) (play : PlayModel C J)
      → IsBeginning initial seeds cluster nodes → IsNewPlay left seeds cluster nodes play → ShowsStart initial play
