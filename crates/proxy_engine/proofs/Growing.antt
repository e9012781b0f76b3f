-- Where an engine is in order before and after some events of one of the two, it is after each.
use Rattle.std.proofs.Common.{ℕ, List, [], ◌∷◌, Option, sym, ap, ◌∙◌}
use Rattle.std.specs.Prelude.{slice_get}
use Rattle.std.specs.List.{FoldsTo}
use mathlib.Core.List.{IsPrefix}
use Rattle.slot_map.specs.Table.{Endpoint}
use Rattle.proxy_lanes.specs.Lane.{posted, taken}
use Rattle.node_link.specs.Port.{PortCalls}
use Rattle.proxy_turns.specs.declared.newcomer.Newcomer.{Newcomer}
use Rattle.proxy_turns.specs.Port.{Moves}
use Rattle.proxy_turns.specs.WorkerModel.{WorkerModel, WorkerEvent, WorkerDoes}
use Rattle.proxy_turns.specs.CarrierModel.{CarrierModel, CarrierDoes, CarrierEvent}
use Rattle.proxy_engine.specs.Along.{CarrierStaysInOrder, HoldsAlong, WorkerStaysInOrder}
use Rattle.proxy_engine.specs.EngineModel.{EngineModel, IsInOrder}
use Rattle.proxy_engine.proofs.Ends.{front-after, front-itself}
use Rattle.proxy_engine.proofs.Working.{KeepsEnds, ends-after, ends-themselves, worker-event, worker-events}
use Rattle.proxy_engine.proofs.Carrying.{SameLanes, lanes-after, lanes-themselves, carrier-event, carrier-events, published-event}
use Rattle.proxy_engine.proofs.Together.{came-from, goes-to, down-back}

module _ {C J P : Type 0} where
  -- between two workers that are in order beside one carrier
  between-workers : (engine : EngineModel C J P) (mid new : WorkerModel C J) → KeepsEnds engine.worker mid → KeepsEnds mid new → IsInOrder engine → IsInOrder (record engine { worker = new }) → IsInOrder (record engine { worker = mid })
  between-workers engine mid new before later first last =
      let ls = engine.carrier.lanes in record {
        up = λ lane e. front-after (taken lane.up) (posted engine.worker.outlet) (posted mid.outlet) (first.up lane (ap (λ k. slice_get ls k) (sym before.0) ∙ e)) before.1.1;
        down = λ lane e outlet o. front-after (taken mid.inlet) (taken new.inlet) (posted outlet) later.2.1 (last.down lane (ap (λ k. slice_get ls k) later.0 ∙ e) outlet o);
        door = λ lane e. front-after (taken mid.newcomers) (taken new.newcomers) (posted lane.door) later.3.1 (last.door lane (ap (λ k. slice_get ls k) later.0 ∙ e));
        view = front-after mid.view.known new.view.known engine.carrier.published later.4 last.view;
      }

  module _ (moves : Moves C) where
    along-workers : (engine : EngineModel C J P) (events : List WorkerEvent) (old new : WorkerModel C J) (f : FoldsTo (WorkerDoes moves) old events new) → KeepsEnds engine.worker old → IsInOrder engine → IsInOrder (record engine { worker = new })
        → HoldsAlong (WorkerDoes moves) (λ worker. IsInOrder (record engine { worker = worker })) old events new f
    along-workers engine [] old new f kept first last = tt
    along-workers engine (event ∷ events) old new f kept first last =
        let next = ends-after engine.worker old f.0 kept (worker-event moves event old f.0 f.1) in
        (between-workers engine f.0 new next (worker-events moves events f.0 new f.2) first last, along-workers engine events f.0 new f.2 next first last)

    pub worker-stays : WorkerStaysInOrder C J P moves
    worker-stays engine events new f first last = along-workers engine events engine.worker new f (ends-themselves engine.worker) first last

  -- between two carriers that are in order beside one worker
  between-carriers : (engine : EngineModel C J P) (mid new : CarrierModel (Newcomer C J) P) → SameLanes engine.carrier.lanes mid.lanes → SameLanes mid.lanes new.lanes → IsPrefix engine.carrier.published mid.published
      → IsInOrder engine → IsInOrder (record engine { carrier = new }) → IsInOrder (record engine { carrier = mid })
  between-carriers engine mid new before later published first last =
      let k = engine.worker.worker in
      let w = engine.worker in record {
        up = λ lane e. let to = goes-to mid.lanes new.lanes k lane later e in front-after (taken lane.up) (taken to.0.up) (posted w.outlet) to.2.0.1 (last.up to.0 to.1);
        down = λ lane e outlet o.
            let from = came-from engine.carrier.lanes mid.lanes k lane before e in
            let old = down-back from.0.down lane.down from.2.1 outlet o in
            front-after (taken w.inlet) (posted old.0) (posted outlet) (first.down from.0 from.1 old.0 old.1) old.2.1;
        door = λ lane e. let from = came-from engine.carrier.lanes mid.lanes k lane before e in front-after (taken w.newcomers) (posted from.0.door) (posted lane.door) (first.door from.0 from.1) from.2.2.1;
        view = front-after w.view.known engine.carrier.published mid.published first.view published;
      }

  module _ (calls : PortCalls P) (opens : Endpoint → Option P → ℕ → ℕ → Type 0) (longest : P → ℕ) where
    along-carriers : (engine : EngineModel C J P) (events : List CarrierEvent) (old new : CarrierModel (Newcomer C J) P) (f : FoldsTo (CarrierDoes calls opens longest) old events new) → SameLanes engine.carrier.lanes old.lanes → IsPrefix engine.carrier.published old.published
        → IsInOrder engine → IsInOrder (record engine { carrier = new }) → HoldsAlong (CarrierDoes calls opens longest) (λ carrier. IsInOrder (record engine { carrier = carrier })) old events new f
    along-carriers engine [] old new f lanes published first last = tt
    along-carriers engine (event ∷ events) old new f lanes published first last =
        let next = lanes-after engine.carrier.lanes old.lanes f.0.lanes lanes (carrier-event (Newcomer C J) calls opens longest event old f.0 f.1) in
        let more = front-after engine.carrier.published old.published f.0.published published (published-event (Newcomer C J) calls opens longest event old f.0 f.1) in
        (between-carriers engine f.0 new next (carrier-events (Newcomer C J) calls opens longest events f.0 new f.2) more first last, along-carriers engine events f.0 new f.2 next more first last)

    pub carrier-stays : CarrierStaysInOrder C J calls opens longest
    carrier-stays engine events new f first last =
        along-carriers engine events engine.carrier new f (lanes-themselves engine.carrier.lanes) (front-itself engine.carrier.published) first last
