-- A turn as events alone.
use Rattle.std.proofs.Common.{ℕ, Bool, List, Option, [], ◌∷◌, Ok, Err, refl, sym, ap, subst, ⊎_elim}
use Rattle.std.specs.List.{FoldsTo}
use Rattle.slot_map.specs.Table.{Endpoint}
use Rattle.node_link.specs.Port.{PortCalls}
use Rattle.proxy_turns.specs.declared.newcomer.Newcomer.{Newcomer}
use Rattle.proxy_turns.specs.Port.{Moves}
use Rattle.proxy_turns.specs.WorkerModel.{WorkerDoes, WorkerEvent, WorkerModel}
use Rattle.proxy_turns.specs.CarrierModel.{CarrierDoes, CarrierEvent, CarrierGoes, CarrierModel}
use Rattle.proxy_engine.specs.declared.turned.EngineFault.{EngineFault}
use Rattle.proxy_engine.specs.declared.turned.EngineFault.TheVariants as fault
use Rattle.proxy_engine.specs.EngineModel.{CarrierPart, EngineModel, IsInOrder, PartEnds, WorkerPart}
use Rattle.proxy_engine.specs.Along.{HoldsAlong}
use Rattle.proxy_engine.specs.Unseen.{CarrierKnows, WorkerKnows}
use Rattle.proxy_engine.specs.Events.{EngineKnows, IsEventsTo, TurnsAreEvents}
use Rattle.proxy_engine.proofs.Growing.{carrier-stays, worker-stays}
use Rattle.proxy_engine.proofs.Knowing.{engine-after, looks-know, order-known}
use Rattle.proxy_engine.proofs.Unseen.{worker-unseen}
use Rattle.proxy_engine.proofs.UnseenCarrier.{carrier-unseen}

module _ {C J : Type 0} (moves : Moves C) where
  workers-unseen : (events : List WorkerEvent) (less old new : WorkerModel C J) → WorkerKnows less old → FoldsTo (WorkerDoes moves) old events new → (after : WorkerModel C J) × FoldsTo (WorkerDoes moves) less events after × WorkerKnows after new
  workers-unseen [] less old new k f = (less, refl, subst (λ (w : WorkerModel C J). WorkerKnows less w) f k)
  workers-unseen (event ∷ events) less old new k f =
      let one = worker-unseen moves less old f.0 event k f.1 in
      let later = workers-unseen events one.0 f.0 new one.2 f.2 in
      (later.0, (one.0, one.1, later.1), later.2)

module _ (H : Type 0) {P : Type 0} (calls : PortCalls P) (opens : Endpoint → Option P → ℕ → ℕ → Type 0) (longest : P → ℕ) where
  carriers-unseen : (events : List CarrierEvent) (less old new : CarrierModel H P) → CarrierKnows less old → FoldsTo (CarrierDoes calls opens longest) old events new
      → (after : CarrierModel H P) × FoldsTo (CarrierDoes calls opens longest) less events after × CarrierKnows after new
  carriers-unseen [] less old new k f = (less, refl, subst (λ (c : CarrierModel H P). CarrierKnows less c) f k)
  carriers-unseen (event ∷ events) less old new k f =
      let one = carrier-unseen H calls opens longest less old f.0 event k f.1 in
      let later = carriers-unseen events one.0 f.0 new one.2 f.2 in
      (later.0, (one.0, one.1, later.1), later.2)

module _ (C J : Type 0) {P : Type 0} (moves : Moves C) (calls : PortCalls P) (opens : Endpoint → Option P → ℕ → ℕ → Type 0) (longest : P → ℕ) where
  abbrev Comes : EngineModel C J P → List WorkerEvent → List CarrierEvent → EngineModel C J P → Type 0
  Comes = IsEventsTo C J moves calls opens longest

  abbrev Reaches : EngineModel C J P → EngineModel C J P → Type 0
  Reaches less new = (worked : List WorkerEvent) × (carried : List CarrierEvent) × (after : EngineModel C J P) × Comes less worked carried after × EngineKnows after new

  -- the same by the worker alone
  abbrev ReachesAlone : EngineModel C J P → EngineModel C J P → Type 0
  ReachesAlone less new = (worked : List WorkerEvent) × (after : EngineModel C J P) × Comes less worked [] after × EngineKnows after new

  abbrev Acts : CarrierModel (Newcomer C J) P → CarrierEvent → CarrierModel (Newcomer C J) P → Type 0
  Acts = CarrierDoes calls opens longest

  worker-part : (less old new : EngineModel C J P) (moved : Bool) → EngineKnows less old → IsInOrder less → WorkerPart moves old moved new → IsInOrder new → ReachesAlone less new
  worker-part less old new moved k first p last =
      let unseen = workers-unseen moves p.3.0 less.worker old.worker p.0.worker k.0 p.3.1 in
      let after : EngineModel C J P = record less { worker = unseen.0 } in
      let known : EngineKnows after p.0 = (unseen.2, subst (λ (c : CarrierModel (Newcomer C J) P). CarrierKnows less.carrier c) (sym (ap (λ (e : EngineModel C J P). e.carrier) p.4)) k.1) in
      let whole = engine-after after p.0 new known (looks-know p.0 new p.2 p.5) in
      let order = order-known after new whole last in
      (p.3.0, after, record { works = unseen.1; orderly = worker-stays moves less p.3.0 unseen.0 unseen.1 first order; carries = refl; later = tt; in_order = order }, whole)

  -- the carrier's part, behind such a one of the worker's
  carrier-part : (start mid old new : EngineModel C J P) (moved : Bool) (worked : List WorkerEvent) → Comes start worked [] mid → EngineKnows mid old → CarrierPart (CarrierGoes calls opens longest) old moved new → IsInOrder new → Reaches start new
  carrier-part start mid old new moved worked before k p last =
      let unseen = carriers-unseen (Newcomer C J) calls opens longest p.3.0 mid.carrier old.carrier p.0.carrier k.1 p.3.1 in
      let after : EngineModel C J P = record mid { carrier = unseen.0 } in
      let known : EngineKnows after p.0 = (subst (λ (w : WorkerModel C J). WorkerKnows mid.worker w) (sym (ap (λ (e : EngineModel C J P). e.worker) p.4)) k.0, unseen.2) in
      let whole = engine-after after p.0 new known (looks-know p.0 new p.2 p.5) in
      let order = order-known after new whole last in
      let stays = carrier-stays calls opens longest mid p.3.0 unseen.0 unseen.1 before.in_order order in
      let goes : (f : FoldsTo Acts start.carrier p.3.0 unseen.0) × HoldsAlong Acts (λ carrier. IsInOrder (record after { carrier = carrier })) start.carrier p.3.0 unseen.0 f =
      subst (λ (c : CarrierModel (Newcomer C J) P). (f : FoldsTo Acts c p.3.0 unseen.0) × HoldsAlong Acts (λ carrier. IsInOrder (record after { carrier = carrier })) c p.3.0 unseen.0 f) (sym before.carries) (unseen.1, stays) in
      (worked, p.3.0, after, record { works = before.works; orderly = before.orderly; carries = goes.0; later = goes.1; in_order = order }, whole)

  -- both, or what was done before memory ran out
  abbrev Goes : CarrierModel (Newcomer C J) P → Bool → CarrierModel (Newcomer C J) P → Type 0
  Goes = CarrierGoes calls opens longest

  pub turns-are-events : TurnsAreEvents C J moves calls opens longest
  turns-are-events less old new (Ok turned) k first t sound =
      let w = worker-part less old t.0 t.1 k first t.3.0 t.3.1 in
      carrier-part less w.1 t.0 new t.2 w.0 w.2 w.3 t.4.0 t.4.1
  turns-are-events less old new (Err fault.NoMemory) k first t sound =
      ⊎_elim
      (λ (e : PartEnds (WorkerPart moves) old (Err fault.NoMemory) new). let w = worker-part less old new e.0 k first e.1 e.2 in (w.0, [], w.1, w.2, w.3))
      (λ (e : (mid : EngineModel C J P) × (worked : Bool) × PartEnds (WorkerPart moves) old (Ok worked) mid × PartEnds (CarrierPart Goes) mid (Err fault.NoMemory) new).
      let w = worker-part less old e.0 e.1 k first e.2.0 e.2.1 in carrier-part less w.1 e.0 new e.3.0 w.0 w.2 w.3 e.3.1 e.3.2)
      t
  turns-are-events less old new (Err fault.OutOfOrder) k first t sound = absurd sound
