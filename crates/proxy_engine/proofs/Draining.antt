-- An engine whose worker takes no client and reads no request.
use Rattle.std.proofs.Common.{◌∙◌, Bool, true, false, List, Result, Ok, Err, inl, inr, sym, ap, subst}
use Rattle.std.specs.FinMap.{get}
use Rattle.proxy_lanes.specs.declared.ends.lane_ends.LaneEnds.{LaneEnds}
use Rattle.proxy_lanes.specs.declared.ends.lane_ends.LeftInLanes.{LeftInLanes}
use Rattle.proxy_turns.specs.declared.newcomer.Newcomer.{Newcomer}
use Rattle.proxy_turns.specs.Port.{Moves}
use Rattle.proxy_turns.specs.Beside.{LooksAt}
use Rattle.proxy_turns.specs.CarrierModel.{CarrierModel}
use Rattle.proxy_turns.specs.WorkerDrain.{Drains, IsDraining}
use Rattle.proxy_turns.specs.WorkerModel.{WorkerModel}
use Rattle.proxy_turns.proofs.StoppedClients.{stays_draining}
use Rattle.proxy_engine.specs.declared.turned.Turned.{Turned}
use Rattle.proxy_engine.specs.declared.turned.EngineFault.{EngineFault}
use Rattle.proxy_engine.specs.declared.turned.EngineFault.TheVariants as fault
use Rattle.proxy_engine.specs.EngineModel.{CarrierPart, EngineModel, EngineTurns, IsInOrder, Looks, PartEnds, WorkerPart}
use Rattle.proxy_engine.specs.EngineDrain.{TurnsStayDraining}
use Rattle.proxy_engine.specs.Together.{AreTogether}

module _ {C J : Type 0} where
  pub drained-together : (old new : WorkerModel C J) (lanes : List (LaneEnds (Newcomer C J))) → Drains old new → AreTogether old lanes → AreTogether new lanes
  drained-together old new lanes drains together =
      let changed : WorkerModel C J = record old { left = new.left; clients = new.clients } in
      let same : AreTogether changed lanes = together in
      subst (λ worker. AreTogether worker lanes) (sym drains.kept) same

  looked : (old new : WorkerModel C J) (lanes lanes' : List (LaneEnds (Newcomer C J))) (counts : LeftInLanes) → LooksAt old lanes counts new lanes' → IsDraining old → IsDraining new
  looked old new lanes lanes' counts looks draining = record {
    none_to_come = ap (λ (w : WorkerModel C J). w.left) looks.1 ∙ draining.none_to_come;
    reads_no_more = λ number client at. draining.reads_no_more number client (ap (λ (w : WorkerModel C J). get w.clients number) (sym looks.1) ∙ at);
  }

  module _ {P : Type 0} where
    pub drained-in-order : (old : EngineModel C J P) (worker : WorkerModel C J) → Drains old.worker worker → IsInOrder old → IsInOrder (record old { worker = worker })
    drained-in-order old worker drains order =
        let same : IsInOrder (record old { worker = record old.worker { left = worker.left; clients = worker.clients } }) = record { up = order.up; down = order.down; door = order.door; view = order.view } in
        subst (λ (w : WorkerModel C J). IsInOrder (record old { worker = w })) (sym drains.kept) same

    look : (mid new : EngineModel C J P) (left : Bool) → Looks mid left new → IsDraining mid.worker → IsDraining new.worker
    look mid new true ((counts, looks, why), same) draining = looked mid.worker new.worker mid.carrier.lanes new.carrier.lanes counts looks draining
    look mid new false ((counts, looks, none, places), same) draining = looked mid.worker new.worker mid.carrier.lanes new.carrier.lanes counts looks draining

    by-worker : (moves : Moves C) (old new : EngineModel C J P) (moved : Bool) → WorkerPart moves old moved new → IsDraining old.worker → IsDraining new.worker
    by-worker moves old new moved (mid, went, left, (events, folds, is), same, looks, sum) draining =
        look mid new left looks ((stays_draining moves).goes_on old.worker mid.worker events folds draining).0

    by-carrier : (goes : CarrierModel (Newcomer C J) P → Bool → CarrierModel (Newcomer C J) P → Type 0) (old new : EngineModel C J P) (moved : Bool) → CarrierPart goes old moved new → IsDraining old.worker → IsDraining new.worker
    by-carrier goes old new moved (mid, went, left, does, same, looks, sum) draining =
        look mid new left looks (subst IsDraining (sym (ap (λ (e : EngineModel C J P). e.worker) same)) draining)

    by-part : (Part : EngineModel C J P → Bool → EngineModel C J P → Type 0) → ((old new : EngineModel C J P) (moved : Bool) → Part old moved new → IsDraining old.worker → IsDraining new.worker)
        → (old new : EngineModel C J P) (result : Result Bool EngineFault) → PartEnds Part old result new → IsDraining old.worker → IsDraining new.worker
    by-part Part one old new (Ok moved) (part, order) draining = one old new moved part draining
    by-part Part one old new (Err fault.NoMemory) (moved, part, order) draining = one old new moved part draining
    by-part Part one old new (Err fault.OutOfOrder) (moved, part, more) draining = one old new moved part draining

    module _ (moves : Moves C) (goes : CarrierModel (Newcomer C J) P → Bool → CarrierModel (Newcomer C J) P → Type 0) where
      by-turn : (old new : EngineModel C J P) (result : Result Turned EngineFault) → EngineTurns moves goes old result new → IsDraining old.worker → IsDraining new.worker
      by-turn old new (Ok turned) (mid, worked, carried, first, second, sum) draining =
          by-part (CarrierPart goes) (by-carrier goes) mid new (Ok carried) second (by-part (WorkerPart moves) (by-worker moves) old mid (Ok worked) first draining)
      by-turn old new (Err why) (inl first) draining = by-part (WorkerPart moves) (by-worker moves) old new (Err why) first draining
      by-turn old new (Err why) (inr (mid, worked, first, second)) draining =
          by-part (CarrierPart goes) (by-carrier goes) mid new (Err why) second (by-part (WorkerPart moves) (by-worker moves) old mid (Ok worked) first draining)

      pub turns-stay-draining : TurnsStayDraining moves goes
      turns-stay-draining = by-turn
