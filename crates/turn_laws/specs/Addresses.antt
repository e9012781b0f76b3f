-- Addresses need not be nodes: several lead to one, and at another moment one of them leads to another node, as after a failover that
-- loses nothing. So a run of ours is served by any node, whatever node the table has at its connection's endpoint; behind ASKING it is the
-- node that ASK named. It is as in the machine (Shared.antt of shared_laws). There is a node for each endpoint, so of two endpoints that lead
-- to one node the other's node owns no slot and holds no key.
use Rattle.std.specs.Prelude.{◌≡◌, ℕ, false, List}
use Rattle.resp_wire.specs.declared.value.Value.{Value}
use Rattle.node_model.specs.Nodes.{ClusterModel}
use Rattle.node_model.specs.declared.role.Verdict.{Verdict}
use Rattle.world_laws.specs.World.{IsNode}
use Rattle.turn_laws.specs.Wire.{Wire, Execution, ServesRun}
use Rattle.turn_laws.specs.System.{System}
use Rattle.turn_laws.specs.Steps.{ServesBy, ServesLateBy}

-- this node serves the run that is next of a connection that works, or of a broken one
pub data LedEvent : Type 0 where
  OfConnection : (k node : ℕ) (verdict : Verdict) → LedEvent
  OfBroken : (j node : ℕ) (verdict : Verdict) → LedEvent

module _ {C J : Type 0} where
  abbrev pub LeadsTo : System C J → ℕ → Verdict → Wire → ClusterModel → Wire → List Value → List Execution → Type 0
  LeadsTo s node verdict old k' new values done =
      IsNode s.cluster node × (old.asking ≡ false) × ServesRun s.nodes s.cluster node old verdict k' new values done

  abbrev pub LedStep : System C J → LedEvent → System C J → Type 0
  LedStep s (LedEvent.OfConnection k node verdict) s' = ServesBy (LeadsTo s node verdict) s k s'
  LedStep s (LedEvent.OfBroken j node verdict) s' = ServesLateBy (LeadsTo s node verdict) s j s'
