-- A turn as events alone: where the looks between are left out, it is events of the worker and then events of the carrier, and the
-- lanes and the slot map are in order after each of them. No premise is asked but that they were in order before.
use Rattle.std.specs.Prelude.{ℕ, List, Option, Result, Ok, Err, ⊤}
use Rattle.std.specs.List.{FoldsTo}
use Rattle.slot_map.specs.Table.{Endpoint}
use Rattle.node_link.specs.Port.{PortCalls}
use Rattle.proxy_turns.specs.declared.newcomer.Newcomer.{Newcomer}
use Rattle.proxy_turns.specs.Port.{Moves}
use Rattle.proxy_turns.specs.WorkerModel.{WorkerDoes, WorkerEvent}
use Rattle.proxy_turns.specs.CarrierModel.{CarrierDoes, CarrierEvent, CarrierGoes, CarrierModel}
use Rattle.proxy_engine.specs.declared.turned.Turned.{Turned}
use Rattle.proxy_engine.specs.declared.turned.EngineFault.{EngineFault}
use Rattle.proxy_engine.specs.declared.turned.EngineFault.TheVariants as fault
use Rattle.proxy_engine.specs.EngineModel.{EngineModel, EngineTurns, IsInOrder}
use Rattle.proxy_engine.specs.Along.{HoldsAlong}
use Rattle.proxy_engine.specs.Unseen.{CarrierKnows, WorkerKnows}

-- it did not find the worker to see what was not published
abbrev pub IsSound : Result Turned EngineFault → Type 0
IsSound (Ok turned) = ⊤
IsSound (Err fault.NoMemory) = ⊤
IsSound (Err fault.OutOfOrder) = ⊥

module _ {C J P : Type 0} where
  -- the same engine, whose ends know more of each other
  abbrev pub EngineKnows : EngineModel C J P → EngineModel C J P → Type 0
  EngineKnows less more = WorkerKnows less.worker more.worker × CarrierKnows less.carrier more.carrier

module _ (C J : Type 0) {P : Type 0} (moves : Moves C) (calls : PortCalls P) (opens : Endpoint → Option P → ℕ → ℕ → Type 0) (longest : P → ℕ) where
  abbrev pub CarrierActs : CarrierModel (Newcomer C J) P → CarrierEvent → CarrierModel (Newcomer C J) P → Type 0
  CarrierActs = CarrierDoes calls opens longest

  -- these events lead from the one to the other, and all is in order after each
  pub record IsEventsTo (old : EngineModel C J P) (worked : List WorkerEvent) (carried : List CarrierEvent) (new : EngineModel C J P) : Type 0 where
    pub works : FoldsTo (WorkerDoes moves) old.worker worked new.worker
    pub orderly : HoldsAlong (WorkerDoes moves) (λ worker. IsInOrder (record old { worker = worker })) old.worker worked new.worker works
    pub carries : FoldsTo CarrierActs old.carrier carried new.carrier
    pub later : HoldsAlong CarrierActs (λ carrier. IsInOrder (record new { carrier = carrier })) old.carrier carried new.carrier carries
    pub in_order : IsInOrder new

  -- an engine whose ends know less, which was in order, comes by such events to one that is like the engine after the turn
  abbrev pub TurnsAreEvents : Type 0
  TurnsAreEvents = (less old new : EngineModel C J P) (result : Result Turned EngineFault) → EngineKnows less old → IsInOrder less → EngineTurns moves (CarrierGoes calls opens longest) old result new → IsSound result
      → (worked : List WorkerEvent) × (carried : List CarrierEvent) × (after : EngineModel C J P) × IsEventsTo less worked carried after × EngineKnows after new
