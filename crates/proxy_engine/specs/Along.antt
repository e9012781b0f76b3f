-- Order along the events of a turn: where an engine is in order before and after some events of one of the two, it is after each.
-- What was taken and what was seen only grow, and so does what was posted and published.
use Rattle.std.specs.Prelude.{ℕ, List, Option, [], ◌∷◌}
use Rattle.std.specs.List.{FoldsTo}
use Rattle.slot_map.specs.Table.{Endpoint}
use Rattle.node_link.specs.Port.{PortCalls}
use Rattle.proxy_turns.specs.declared.newcomer.Newcomer.{Newcomer}
use Rattle.proxy_turns.specs.Port.{Moves}
use Rattle.proxy_turns.specs.WorkerModel.{WorkerDoes, WorkerEvent, WorkerModel}
use Rattle.proxy_turns.specs.CarrierModel.{CarrierDoes, CarrierEvent, CarrierModel}
use Rattle.proxy_engine.specs.EngineModel.{EngineModel, IsInOrder}

-- this holds after each of the events
abbrev pub HoldsAlong : {S E : Type 0} (Does : S → E → S → Type 0) (Holds : S → Type 0) (old : S) (events : List E) (new : S) → FoldsTo Does old events new → Type 0
HoldsAlong Does Holds old [] new f = Unit {0}
HoldsAlong Does Holds old (event ∷ events) new f = Holds f.0 × HoldsAlong Does Holds f.0 events new f.2

module _ (C J P : Type 0) (moves : Moves C) where
  abbrev pub WorkerStaysInOrder : Type 0
  WorkerStaysInOrder = (engine : EngineModel C J P) (events : List WorkerEvent) (new : WorkerModel C J) (f : FoldsTo (WorkerDoes moves) engine.worker events new)
      → IsInOrder engine → IsInOrder (record engine { worker = new }) → HoldsAlong (WorkerDoes moves) (λ worker. IsInOrder (record engine { worker = worker })) engine.worker events new f

module _ (C J : Type 0) {P : Type 0} (calls : PortCalls P) (opens : Endpoint → Option P → ℕ → ℕ → Type 0) (longest : P → ℕ) where
  abbrev pub CarrierStaysInOrder : Type 0
  CarrierStaysInOrder = (engine : EngineModel C J P) (events : List CarrierEvent) (new : CarrierModel (Newcomer C J) P) (f : FoldsTo (CarrierDoes calls opens longest) engine.carrier events new)
      → IsInOrder engine → IsInOrder (record engine { carrier = new })
      → HoldsAlong (CarrierDoes calls opens longest) (λ carrier. IsInOrder (record engine { carrier = carrier })) engine.carrier events new f
