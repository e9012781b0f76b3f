-- Ports of any kind: what a turn does over its ports is what the steps of a system allow.
-- A worker's clients may have any port. A port to a node stands for a wire: what goes over the port goes over the wire, so the
-- values that come are those that the node's serving put there. Between two events of a turn the nodes may serve: the wires of the
-- next event are then others, for which the ports stand too.
use Rattle.std.specs.Prelude.{◌≡◌, ℕ, Bool, List, [], ◌∷◌, Option, Some, None, Result, slice_get}
use Rattle.resp_wire.specs.declared.fault.NoMemory.{NoMemory}
use Rattle.resp_wire.specs.declared.value.Value.{Value}
use Rattle.key_split.specs.Requests.{Request}
use Rattle.slot_map.specs.Table.{Endpoint}
use Rattle.node_link.specs.LinkModel.{LinkModel}
use Rattle.node_link.specs.Port.{PortCalls}
use Rattle.proxy_turns.specs.declared.backend.Backend.{Backend}
use Rattle.proxy_turns.specs.Port.{Moves}
use Rattle.proxy_turns.specs.WorkerModel.{WorkerModel, WorkerEvent, WorkerDoes, WorkerTurns}
use Rattle.proxy_turns.specs.CarrierModel.{CarrierModel, CarrierEvent, CarrierDoes}
use Rattle.turn_laws.specs.Wire.{Wire, Exchanges, Dials, new_wire}
use Rattle.turn_laws.specs.Endpoints.{AreApart}
use Rattle.turn_laws.specs.PortsMay.{any_moves, any_calls}

-- ---- a worker

module _ (C J : Type 0) (moves : Moves C) where
  -- each event of a worker's turn is one that a step of the system may have
  abbrev pub AnyClients : Type 0
  AnyClients = (event : WorkerEvent) (old new : WorkerModel C J) → WorkerDoes moves old event new → WorkerDoes any_moves old event new

  -- and each turn is made of such events
  abbrev pub AnyClientTurns : Type 0
  AnyClientTurns = (old new : WorkerModel C J) (result : Result Bool NoMemory) → WorkerTurns moves old result new → WorkerTurns any_moves old result new

-- ---- the carrier

-- a link over this wire, in place of its port
abbrev pub over_link : {P : Type 0} → LinkModel P → Wire → LinkModel Wire
over_link link wire = record { port = wire; node = link.node; due = link.due; kept = link.kept; failure = link.failure }

abbrev pub link_over : {P : Type 0} → Option (LinkModel P) → Wire → Option (LinkModel Wire)
link_over None wire = None
link_over (Some link) wire = Some (over_link link wire)

abbrev pub over_backend : {P : Type 0} → Backend P → Wire → Backend Wire
over_backend backend wire = record {
  link = link_over backend.link wire;
  pending_told = backend.pending_told;
  answer = backend.answer;
  changes = backend.changes;
  to_ask = backend.to_ask;
  asked = backend.asked;
}

-- one wire for each backend
abbrev pub over_backends : {P : Type 0} → List (Backend P) → List Wire → List (Backend Wire)
over_backends [] wires = []
over_backends (backend ∷ backends) [] = []
over_backends (backend ∷ backends) (wire ∷ wires) = over_backend backend wire ∷ over_backends backends wires

abbrev pub over_wires : {H P : Type 0} → CarrierModel H P → List Wire → CarrierModel H Wire
over_wires carrier wires = record {
  lanes = carrier.lanes;
  pending_runs = carrier.pending_runs;
  backends = over_backends carrier.backends wires;
  nodes = carrier.nodes;
  published = carrier.published;
  seed_to_dial = carrier.seed_to_dial;
  failures = carrier.failures;
}

module _ {P : Type 0} (wired : P → Wire → Type 0) where
  -- what goes over a port goes over the wire for which it stands
  abbrev pub StandsFor : (P → List Request → List Value → P → Type 0) → Type 0
  StandsFor exchange = (old new : P) (wire : Wire) (requests : List Request) (values : List Value) → wired old wire → exchange old requests values new
      → (wire' : Wire) × Exchanges wire requests values wire' × wired new wire'

  -- a connection that is opened to a node's endpoint stands for a new wire to it
  abbrev pub OpensWires : List Endpoint → ℕ → (Endpoint → Option P → ℕ → ℕ → Type 0) → Type 0
  OpensWires nodes opened opens =
      (node : ℕ) (at : Endpoint) (port : P) (before now : ℕ) → slice_get nodes node ≡ Some at → opens at (Some port) before now → wired port (new_wire opened node)

  abbrev pub IsWired : Option (LinkModel P) → Wire → Type 0
  IsWired None wire = Unit {0}
  IsWired (Some link) wire = wired link.port wire

  -- each backend's port stands for its wire
  abbrev pub AreWired : List (Backend P) → List Wire → Type 0
  AreWired [] [] = Unit {0}
  AreWired [] (wire ∷ wires) = ⊥
  AreWired (backend ∷ backends) [] = ⊥
  AreWired (backend ∷ backends) (wire ∷ wires) = IsWired backend.link wire × AreWired backends wires

  module _ (H : Type 0) (calls : PortCalls P) (opens : Endpoint → Option P → ℕ → ℕ → Type 0) (longest : P → ℕ) where
    -- each event of the carrier's turn is, over the wires of its ports, one that a step of the system may have
    abbrev pub AnyPorts : Type 0
    AnyPorts = (event : CarrierEvent) (old new : CarrierModel H P) (wires : List Wire) (opened : ℕ) → AreWired old.backends wires → OpensWires old.nodes opened opens
        → CarrierDoes calls opens longest old event new
        → (wires' : List Wire) × AreWired new.backends wires' × (longest' : Wire → ℕ)
        × CarrierDoes any_calls (Dials old.nodes opened) longest' (over_wires old wires) event (over_wires new wires')

-- What is asked of ports can be had: a wire stands for itself, and one that is dialled at a node's endpoint is new and leads there.
pub record WiresStand : Type 0 where
  pub stands : StandsFor (λ (port wire : Wire). port ≡ wire) Exchanges
  pub opens : (nodes : List Endpoint) (opened : ℕ) → AreApart nodes → OpensWires (λ (port wire : Wire). port ≡ wire) nodes opened (Dials nodes opened)
