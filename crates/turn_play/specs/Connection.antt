-- What happens at the other end of the carrier's open connection to a node.
use Rattle.std.specs.Prelude.{◌≡◌, ◌⊎◌, ℕ, Bool, true, List, Some, Result, Ok, Err, slice_get}
use Rattle.slot_map.specs.Table.{Endpoint}
use Rattle.node_model.specs.Nodes.{ClusterModel}
use Rattle.node_model.specs.declared.role.Verdict.{Verdict}
use Rattle.proxy_turns.specs.declared.backend.Backend.{Backend}
use Rattle.proxy_turns.specs.CarrierModel.{CarrierModel}
use Rattle.proxy_turns.specs.Swapping.{IsClosed, SwapOutcome}
use Rattle.turn_laws.specs.ByteWires.{over_stream}
use Rattle.turn_play.specs.declared.fault.PlayFault.{PlayFault}
use Rattle.turn_play.specs.Port.{PortModel}
use Rattle.turn_play.specs.Stream.{StreamModel, StreamOutcome}

module _ {H : Type 0} where
  -- no connection to the node is open
  abbrev pub IsShut : ℕ → CarrierModel H PortModel → Type 0
  IsShut node carrier = (backend : Backend PortModel) → slice_get carrier.backends node ≡ Some backend → IsClosed backend

  -- a node served at the stream of the open connection to it, or did not, and all else of the carrier is as it was
  abbrev pub ServesThere : List Endpoint → ClusterModel → ℕ → CarrierModel H PortModel → Verdict → Result Bool PlayFault → ClusterModel → CarrierModel H PortModel → Type 0
  ServesThere table k node old verdict result k' new =
      (port : PortModel) × (stream : StreamModel) × SwapOutcome node old (over_stream port stream) (Ok port) new
      × StreamOutcome table k node port.bytes.stream verdict result k' stream

  -- the same, where one is open
  abbrev pub ServesAt : List Endpoint → ClusterModel → ℕ → CarrierModel H PortModel → Verdict → Result (Unit {0}) PlayFault → ClusterModel → CarrierModel H PortModel → Type 0
  ServesAt table k node old verdict (Ok _) k' new =
      (IsShut node old × (k' ≡ k) × (new ≡ old)) ⊎ ((moved : Bool) × ServesThere table k node old verdict (Ok moved) k' new)
  ServesAt table k node old verdict (Err fault) k' new = ServesThere table k node old verdict (Err fault) k' new

  -- the stream of the open connection to the node is changed so, where one is open
  abbrev pub ChangesStream : (StreamModel → StreamModel) → ℕ → CarrierModel H PortModel → CarrierModel H PortModel → Type 0
  ChangesStream change node old new =
      (IsShut node old × (new ≡ old))
      ⊎ ((port : PortModel) × SwapOutcome node old (over_stream port (change port.bytes.stream)) (Ok port) new)

-- from now on each call fails
abbrev pub broken : StreamModel → StreamModel
broken stream = record stream { broken = true }

-- from now on one call moves so many bytes at most
abbrev pub cut_to : ℕ → StreamModel → StreamModel
cut_to most stream = record stream { most = most }
