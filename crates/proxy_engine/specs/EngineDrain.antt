-- An engine that was drained.
use Rattle.std.specs.Prelude.{Bool, Result}
use Rattle.proxy_turns.specs.declared.newcomer.Newcomer.{Newcomer}
use Rattle.proxy_turns.specs.Port.{Moves}
use Rattle.proxy_turns.specs.CarrierModel.{CarrierModel}
use Rattle.proxy_turns.specs.WorkerDrain.{IsDraining}
use Rattle.proxy_engine.specs.declared.turned.Turned.{Turned}
use Rattle.proxy_engine.specs.declared.turned.EngineFault.{EngineFault}
use Rattle.proxy_engine.specs.EngineModel.{EngineModel, EngineTurns}

module _ {C J P : Type 0} (moves : Moves C) (carrier_goes : CarrierModel (Newcomer C J) P → Bool → CarrierModel (Newcomer C J) P → Type 0) where
  -- A worker that takes no client and reads no request does so after no turn of its engine.
  abbrev pub TurnsStayDraining : Type 0
  TurnsStayDraining = (old new : EngineModel C J P) (result : Result Turned EngineFault) → EngineTurns moves carrier_goes old result new → IsDraining old.worker → IsDraining new.worker
