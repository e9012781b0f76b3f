-- The two parts of a turn.
use Rattle.std.proofs.Common.{◌≡◌, ◌||◌, ℕ, Option, Bool, true, false, Result, Ok, Err, refl, sym, ap, ◌∙◌, subst, inl, inr}
use Rattle.std.specs.Prelude.{IfOk}
use Rattle.resp_wire.specs.declared.fault.NoMemory.{NoMemory}
use Rattle.slot_map.specs.Table.{Endpoint}
use Rattle.node_link.specs.LinkModel.{LinkModel}
use Rattle.node_link.specs.Port.{PortCalls}
use Rattle.proxy_turns.specs.declared.newcomer.Newcomer.{Newcomer}
use Rattle.proxy_turns.specs.Port.{Moves}
use Rattle.proxy_turns.specs.ClientRest.{IfStill}
use Rattle.proxy_turns.specs.WorkerModel.{WorkerModel, WorkerTurns}
use Rattle.proxy_turns.specs.WorkerRest.{IsWorkerAtRest}
use Rattle.proxy_turns.specs.CarrierModel.{CarrierGoes, CarrierModel, CarrierTurns, RestsAfter}
use Rattle.proxy_engine.specs.declared.turned.Turned.{Turned}
use Rattle.proxy_engine.specs.declared.turned.EngineFault.{EngineFault}
use Rattle.proxy_engine.specs.declared.turned.EngineFault.TheVariants as fault
use Rattle.proxy_engine.specs.EngineModel.{CarrierPart, CarrierRests, EngineModel, EngineTurns, IsDrainedOf, IsEngineAtRest, IsInOrder, LookAfter, Looks, PartEnds, PartRests, SeesMore, WorkerPart, WorkerRests}
use Rattle.proxy_engine.proofs.Pairs.{not-both}
use Rattle.proxy_engine.proofs.Looking.{drained-of, outcome-looks}

pub either-still : (a b : Bool) → a || b ≡ false → (a ≡ false) × (b ≡ false)
either-still true b e = absurd (not-both true refl e)
either-still false b e = (refl, e)

-- what holds of a part that moved nothing holds of a turn that moved nothing
pub still-later : (A : Type 0) (first : Result Bool EngineFault) (worked carried : Bool) → first ≡ Ok worked → IfOk first (λ moved. moved ≡ false → A) → worked || carried ≡ false → A
still-later A first worked carried was later none = let now : worked ≡ false → A = subst (λ r. IfOk r (λ moved. moved ≡ false → A)) was later in now (either-still worked carried none).0

module _ {C J P : Type 0} where
  -- a look that left nothing, where the turn before moved nothing
  found-none : (mid new : EngineModel C J P) (moved left : Bool) → Looks mid left new → moved ≡ left → moved ≡ false → Looks mid false new
  found-none mid new moved left looks e none = subst (λ (b : Bool). Looks mid b new) (sym e ∙ none) looks

  -- ---- the worker's

  pub worker-ends : (moves : Moves C) (old mid new : EngineModel C J P) (went : Result Bool NoMemory) (result : Result Bool EngineFault) → mid ≡ record old { worker = mid.worker } → WorkerTurns moves old.worker went mid.worker → LookAfter mid went result new
      → PartEnds (WorkerPart moves) old result new
  worker-ends moves old mid new (Ok went) (Ok moved) same t l = ((mid, went, l.0, t, same, l.1, l.3), l.2)
  worker-ends moves old mid new (Ok went) (Err fault.NoMemory) same t l = absurd l
  worker-ends moves old mid new (Ok went) (Err fault.OutOfOrder) same t l = (went || l.0, (mid, went, l.0, t, same, l.1, refl), l.2)
  worker-ends moves old mid new (Err refused) (Ok moved) same t l = absurd l
  worker-ends moves old mid new (Err refused) (Err fault.NoMemory) same t l = (t.0 || l.0, (mid, t.0, l.0, t.1, same, l.1, refl), l.2)
  worker-ends moves old mid new (Err refused) (Err fault.OutOfOrder) same t l = (t.0 || l.0, (mid, t.0, l.0, t.1, same, l.1, refl), l.2)

  pub worker-rests : (gives_none takes_none : C → Type 0) (mid new : EngineModel C J P) (went : Result Bool NoMemory) (result : Result Bool EngineFault) → IfStill went (IsWorkerAtRest gives_none takes_none mid.worker) → LookAfter mid went result new
      → PartRests (WorkerRests gives_none takes_none) result new
  worker-rests gives_none takes_none mid new went (Err why) still l = tt
  worker-rests gives_none takes_none mid new (Err refused) (Ok moved) still l = absurd l
  worker-rests gives_none takes_none mid new (Ok true) (Ok moved) still l = λ none. absurd (not-both moved l.3 none)
  worker-rests gives_none takes_none mid new (Ok false) (Ok moved) still l = λ none. let looks = found-none mid new moved l.0 l.1 l.3 none in (mid, still, looks.0.3, looks)

  -- ---- the carrier's

  module _ (calls : PortCalls P) (opens : Endpoint → Option P → ℕ → ℕ → Type 0) (longest : P → ℕ) where
    pub carrier-ends : (old mid new : EngineModel C J P) (went : Result Bool NoMemory) (result : Result Bool EngineFault) → mid ≡ record old { carrier = mid.carrier }
        → CarrierTurns calls opens longest old.carrier went mid.carrier → LookAfter mid went result new → PartEnds (CarrierPart (CarrierGoes calls opens longest)) old result new
    carrier-ends old mid new (Ok went) (Ok moved) same t l = ((mid, went, l.0, t, same, l.1, l.3), l.2)
    carrier-ends old mid new (Ok went) (Err fault.NoMemory) same t l = absurd l
    carrier-ends old mid new (Ok went) (Err fault.OutOfOrder) same t l = (went || l.0, (mid, went, l.0, t, same, l.1, refl), l.2)
    carrier-ends old mid new (Err refused) (Ok moved) same t l = absurd l
    carrier-ends old mid new (Err refused) (Err fault.NoMemory) same t l = (t.0 || l.0, (mid, t.0, l.0, t.1, same, l.1, refl), l.2)
    carrier-ends old mid new (Err refused) (Err fault.OutOfOrder) same t l = (t.0 || l.0, (mid, t.0, l.0, t.1, same, l.1, refl), l.2)

  pub carrier-rests : (gave_none : LinkModel P → Type 0) (mid new : EngineModel C J P) (went : Result Bool NoMemory) (result : Result Bool EngineFault) → RestsAfter gave_none went mid.carrier → LookAfter mid went result new
      → PartRests (λ (left : EngineModel C J P). CarrierRests gave_none left × IsDrainedOf left) result new
  carrier-rests gave_none mid new went (Err why) still l = tt
  carrier-rests gave_none mid new (Err refused) (Ok moved) still l = absurd l
  carrier-rests gave_none mid new (Ok true) (Ok moved) still l = λ none. absurd (not-both moved l.3 none)
  carrier-rests gave_none mid new (Ok false) (Ok moved) still l =
      λ none. let looks = found-none mid new moved l.0 l.1 l.3 none in ((mid, still refl, looks.0.3, looks), drained-of mid new looks)

  -- ---- a look behind a turn

  pub looked-out : (old new : EngineModel C J P) (went : Result Bool NoMemory) (left : Bool) → Looks old left new → SeesMore new → LookAfter old went (Err fault.OutOfOrder) new
  looked-out old new (Ok moved) left l more = (left, l, more)
  looked-out old new (Err refused) left l more = (left, l, more)

  pub looked-starved : (old new : EngineModel C J P) (went : Result Bool NoMemory) (refused : NoMemory) (result : Result Bool EngineFault) (left : Bool) → went ≡ Err refused → result ≡ Err fault.NoMemory → Looks old left new → IsInOrder new
      → LookAfter old went result new
  looked-starved old new went refused result left was is l order = subst (λ r. LookAfter old went r new) (sym is) (subst (λ w. LookAfter old w (Err fault.NoMemory) new) (sym was) (left, l, order))

  pub looked-on : (old new : EngineModel C J P) (went : Result Bool NoMemory) (moved left : Bool) → went ≡ Ok moved → Looks old left new → IsInOrder new → LookAfter old went (Ok (moved || left)) new
  looked-on old new went moved left was l order = subst (λ w. LookAfter old w (Ok (moved || left)) new) (sym was) (left, l, order, refl)

  -- ---- both

  module _ (moves : Moves C) (goes : CarrierModel (Newcomer C J) P → Bool → CarrierModel (Newcomer C J) P → Type 0) where
    pub worker-failed : (old new : EngineModel C J P) (first : Result Bool EngineFault) (why : EngineFault) (result : Result Turned EngineFault) → first ≡ Err why → result ≡ Err why → PartEnds (WorkerPart moves) old first new → EngineTurns moves goes old result new
    worker-failed old new first why result was is ends = subst (λ r. EngineTurns moves goes old r new) (sym is) (inl (subst (λ r. PartEnds (WorkerPart moves) old r new) was ends))

    pub carrier-failed : (old mid new : EngineModel C J P) (first second : Result Bool EngineFault) (worked : Bool) (why : EngineFault) (result : Result Turned EngineFault) → first ≡ Ok worked → second ≡ Err why → result ≡ Err why
        → PartEnds (WorkerPart moves) old first mid → PartEnds (CarrierPart goes) mid second new → EngineTurns moves goes old result new
    carrier-failed old mid new first second worked why result was then is ends later =
        subst (λ r. EngineTurns moves goes old r new) (sym is) (inr (mid, worked, subst (λ r. PartEnds (WorkerPart moves) old r mid) was ends, subst (λ r. PartEnds (CarrierPart goes) mid r new) then later))

    pub both-turned : (old mid new : EngineModel C J P) (first second : Result Bool EngineFault) (worked carried : Bool) (turned : Turned) → first ≡ Ok worked → second ≡ Ok carried → turned.moved ≡ worked || carried
        → PartEnds (WorkerPart moves) old first mid → PartEnds (CarrierPart goes) mid second new → EngineTurns moves goes old (Ok turned) new
    both-turned old mid new first second worked carried turned was then moved ends later =
        (mid, worked, carried, subst (λ r. PartEnds (WorkerPart moves) old r mid) was ends, subst (λ r. PartEnds (CarrierPart goes) mid r new) then later, moved)

  same-clients : (goes : CarrierModel (Newcomer C J) P → Bool → CarrierModel (Newcomer C J) P → Type 0) (old new : EngineModel C J P) (moved : Bool) → CarrierPart goes old moved new → old.worker.clients ≡ new.worker.clients
  same-clients goes old new moved p =
      let looked = outcome-looks p.2 p.0.worker new.worker p.0.carrier.lanes new.carrier.lanes p.5.0 in
      sym (ap (λ (e : EngineModel C J P). e.worker.clients) p.4) ∙ sym (ap (λ (w : WorkerModel C J). w.clients) looked.1.1)

  pub engine-rests : (gives_none takes_none : C → Type 0) (gave_none : LinkModel P → Type 0) (goes : CarrierModel (Newcomer C J) P → Bool → CarrierModel (Newcomer C J) P → Type 0) (old new : EngineModel C J P) (first second : Result Bool EngineFault)
      (worked carried : Bool) → first ≡ Ok worked → second ≡ Ok carried → PartRests (WorkerRests gives_none takes_none) first old → PartEnds (CarrierPart goes) old second new
      → PartRests (λ (left : EngineModel C J P). CarrierRests gave_none left × IsDrainedOf left) second new → worked || carried ≡ false → IsEngineAtRest gives_none takes_none gave_none new
  engine-rests gives_none takes_none gave_none goes old new first second worked carried was then rests ends left none =
      let both = either-still worked carried none in
      let part : PartEnds (CarrierPart goes) old (Ok carried) new = subst (λ r. PartEnds (CarrierPart goes) old r new) then ends in
      let still : PartRests (WorkerRests gives_none takes_none) (Ok worked) old = subst (λ r. PartRests (WorkerRests gives_none takes_none) r old) was rests in
      let after : PartRests (λ (e : EngineModel C J P). CarrierRests gave_none e × IsDrainedOf e) (Ok carried) new = subst (λ r. PartRests (λ (e : EngineModel C J P). CarrierRests gave_none e × IsDrainedOf e) r new) then left in
      record { before = old; same = same-clients goes old new carried part.0; worker = still both.0; carrier = (after both.1).0; drained = (after both.1).1 }
