-- What the calls of a world answer, over its state: the step of an event, or why there is none.
-- The code runs world_laws' machine and no other: NotNow exactly where an event has no next state, NoMemory only where
-- it has one, and the world as it was after both. `Runs` names the first event that is refused, by its number from 1.
use Rattle.std.specs.Prelude.{◌≡◌, ◌-◌, ◌<◌, ℕ, List, length, take, Option, Some, Result, Ok, Err, slice_get}
use Rattle.node_model.specs.Nodes.{ClusterModel, HasOwners, Opens}
use Rattle.node_model.specs.declared.cluster.ClusterFault.{ClusterFault}
use Rattle.node_model.specs.declared.cluster.ClusterFault.TheVariants.{BadOwners}
use Rattle.node_model.specs.declared.cluster.ClusterFault.TheVariants as cluster
use Rattle.world_laws.specs.State.{WorldModel, start}
use Rattle.world_laws.specs.World.{WorldStep, WorldRun}
use Rattle.world_laws.specs.Allowed.{IsAllowed}
use Rattle.world_laws.specs.Headline.{IsReached}
use Rattle.world_laws.specs.declared.event.Event.{Event}
use Rattle.cluster_world.specs.Machine.{run_limit, state_of}
use Rattle.cluster_world.specs.declared.machine.Machine.{Machine}
use Rattle.cluster_world.specs.declared.fault.WorldFault.{WorldFault}
use Rattle.cluster_world.specs.declared.fault.WorldFault.TheVariants.{NoMemory, NotNow}
use Rattle.cluster_world.specs.declared.fault.RunFault.{RunFault}

-- the world is new, over the nodes that these owners open; or the owners are bad; or they are good, and there is no memory
abbrev pub Starts : ℕ → ℕ → (ℕ → Option ℕ) → Result WorldModel ClusterFault → Type 0
Starts count workers owners (Ok w) = (k : ClusterModel) × Opens count owners (Ok k) × (w ≡ start workers run_limit k)
Starts count workers owners (Err BadOwners) = HasOwners count owners → ⊥
Starts count workers owners (Err cluster.NoMemory) = HasOwners count owners

-- the event has no next state
abbrev pub IsRefused : WorldModel → Event → Type 0
IsRefused w e = (w' : WorldModel) → WorldStep w e w' → ⊥

-- why an event is not made in a world: it has no next state; or it has one, and there is no memory
abbrev pub RefusedFor : WorldModel → Event → WorldFault → Type 0
RefusedFor w e NotNow = IsRefused w e
RefusedFor w e NoMemory = IsAllowed w e

-- the event happened; or it was not made, and nothing changed
abbrev pub Steps : {U : Type 0} → WorldModel → Event → Result U WorldFault → WorldModel → Type 0
Steps w e (Ok u) w' = WorldStep w e w'
Steps w e (Err why) w' = RefusedFor w e why × (w' ≡ w)

-- all the events happened; or those before the first that is refused
abbrev pub Runs : {U : Type 0} → WorldModel → List Event → Result U RunFault → WorldModel → Type 0
Runs w es (Ok u) w' = WorldRun w es w'
Runs w es (Err fault) w' =
    (e : Event) × (0 < fault.number) × (slice_get es (fault.number - 1) ≡ Some e) × WorldRun w (take (fault.number - 1) es) w' × RefusedFor w' e fault.why

-- a world's code: events lead to its state, and it has workers and knows how many nodes there are
pub record IsWorld (m : Machine) (count : ℕ) : Type 0 where
  pub reached : IsReached (state_of m)
  pub workers : 0 < m.workers
  pub nodes : count ≡ length m.cluster.stores
