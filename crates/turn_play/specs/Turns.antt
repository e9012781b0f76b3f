-- What turns of the code are steps of a system: an engine's turn is the events of its worker and then of its carrier, over ports that stand
-- for wires.
use Rattle.std.specs.Prelude.{◌≡◌, ℕ, List, [], ◌∷◌, All, Option, Result}
use Rattle.slot_map.specs.Table.{Endpoint}
use Rattle.node_link.specs.Port.{PortCalls}
use Rattle.proxy_turns.specs.declared.newcomer.Newcomer.{Newcomer}
use Rattle.proxy_turns.specs.Port.{Moves}
use Rattle.proxy_turns.specs.CarrierModel.{CarrierModel, CarrierGoes}
use Rattle.proxy_engine.specs.declared.turned.Turned.{Turned}
use Rattle.proxy_engine.specs.declared.turned.EngineFault.{EngineFault}
use Rattle.proxy_engine.specs.EngineModel.{EngineModel, EngineTurns, IsInOrder}
use Rattle.proxy_engine.specs.Events.{EngineKnows, IsSound}
use Rattle.turn_laws.specs.Wire.{Wire}
use Rattle.turn_laws.specs.System.{System}
use Rattle.turn_laws.specs.Steps.{SystemEvent, AtWorker, AtCarrier}
use Rattle.turn_laws.specs.AnyPort.{AreWired, OpensWires, over_wires}
use Rattle.turn_play.specs.Played.{Step, Leads}

-- an event of the only worker, or of the carrier
abbrev pub IsTurns : SystemEvent → Type 0
IsTurns (AtWorker k event) = k ≡ 0
IsTurns (AtCarrier event) = Unit {0}
IsTurns event = ⊥

module _ {C J : Type 0} where
  -- some steps lead there, each by such an event
  abbrev pub PlaysBy : (SystemEvent → Type 0) → System C J → System C J → Type 0
  PlaysBy Is s s' = (steps : List (Step C J)) × Leads s steps s' × All (λ (step : Step C J). Is step.event) steps

  module _ {P : Type 0} (wired : P → Wire → Type 0) where
    -- a system's carrier is this one, over wires for which its ports stand
    abbrev pub ShowsCarrier : CarrierModel (Newcomer C J) P → System C J → Type 0
    ShowsCarrier carrier s = (wires : List Wire) × AreWired wired carrier.backends wires × (s.carrier ≡ over_wires carrier wires)

    -- A system has this engine's worker alone and its carrier, with the lanes and the slot map in order between the two. What their ends know of
    -- each other is no part of a system: there they know less, or the same.
    pub record ShowsEngine (engine : EngineModel C J P) (s : System C J) : Type 0 where
      pub less : EngineModel C J P
      pub knows : EngineKnows less engine
      pub in_order : IsInOrder less
      pub first : less.worker.worker ≡ 0
      pub workers : s.workers ≡ less.worker ∷ []
      pub carrier : ShowsCarrier less.carrier s

    -- steps of its turn alone: the engine is so now
    abbrev pub PlaysEngine : System C J → EngineModel C J P → Type 0
    PlaysEngine s new = (s' : System C J) × PlaysBy IsTurns s s' × ShowsEngine new s'
        × (s' ≡ record s { workers = s'.workers; carrier = s'.carrier; closed = s'.closed; opened = s'.opened; log = s'.log })

module _ (C J : Type 0) {P : Type 0} (moves : Moves C) (wired : P → Wire → Type 0) (calls : PortCalls P) (opens : Endpoint → Option P → ℕ → ℕ → Type 0) (longest : P → ℕ) where
  -- An engine's turn is steps of a system that shows it, where a port that is opened stands for a new wire. Nothing is asked of the lanes and
  -- the slot map.
  abbrev pub EnginesPlay : Type 0
  EnginesPlay = ((nodes : List Endpoint) (opened : ℕ) → OpensWires wired nodes opened opens)
      → (s : System C J) (old new : EngineModel C J P) (result : Result Turned EngineFault) → ShowsEngine wired old s
      → EngineTurns moves (CarrierGoes calls opens longest) old result new → IsSound result → PlaysEngine wired s new
