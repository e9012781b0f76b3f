-- What a look at both ends of the lanes shows.
use Rattle.std.proofs.Common.{◌≡◌, ℕ, zero, suc, ◌<◌, List, [], ◌∷◌, ◌++◌, Bool, true, false, Option, Some, None, refl, sym, ap, ◌∙◌, subst, arith, length, inl, inr}
use Rattle.std.specs.Prelude.{slice_get}
use Rattle.std.proofs.lemmas.List.{append-nil}
use mathlib.Core.List.{IsPrefix}
use Rattle.rtrb.specs.Ring.{ConsumerLooked, ProducerLooked}
use Rattle.key_split.specs.Runs.{RunModel}
use Rattle.key_split.specs.declared.travel.Ticket.{Ticket}
use Rattle.key_split.specs.declared.travel.Told.{Told}
use Rattle.proxy_lanes.specs.declared.ring.Outlet.{Outlet}
use Rattle.proxy_lanes.specs.declared.ring.Inlet.{Inlet}
use Rattle.proxy_lanes.specs.declared.ends.lane_ends.LaneEnds.{LaneEnds}
use Rattle.proxy_lanes.specs.declared.ends.lane_ends.LeftInLanes.{LeftInLanes}
use Rattle.proxy_lanes.specs.Lane.{held, posted, taken}
use Rattle.proxy_lanes.specs.Beside.{DownLooks, IsDrained, IsInStep, LanesLook, LooksBeside}
use Rattle.proxy_turns.specs.declared.newcomer.Newcomer.{Newcomer}
use Rattle.proxy_turns.specs.Arrivals.{AreToCome}
use Rattle.proxy_turns.specs.Beside.{IsLeft, LookOutcome, LooksAt}
use Rattle.proxy_turns.specs.WorkerModel.{WorkerModel}
use Rattle.proxy_engine.specs.EngineModel.{EngineModel, IsDrainedOf, IsInOrder, Looks}
use Rattle.proxy_engine.proofs.Pairs.{none-some, one-there, set-same}
use Rattle.proxy_engine.proofs.Ends.{SameOutlet, SameInlet, inlet-itself, same-front}
use Rattle.proxy_engine.proofs.Working.{KeepsEnds}
use Rattle.proxy_engine.proofs.Carrying.{KeepsDown, SameLane, SameLanes, changes}

abbrev Pair : Type 0
Pair = Ticket × Told

-- ---- one lane

none-of : {X : Type 0} (xs : List X) → length xs ≡ 0 → xs ≡ []
none-of [] e = refl
none-of (x ∷ xs) e = absurd (omega (arith, e))

module _ {T : Type 0} where
  in-step : (outlet outlet' : Outlet T) (inlet inlet' : Inlet T) (left : ℕ) → LooksBeside outlet inlet outlet' inlet' left → IsInStep outlet' inlet'
  in-step outlet outlet' inlet inlet' left l = (held inlet', l.2)

  pub outlet-looked : (old new : Outlet T) → ProducerLooked old.producer new.producer → SameOutlet old new
  outlet-looked old new l = (l.0, same-front (posted old) (posted new) l.1)

  pub inlet-looked : (old new : Inlet T) → ConsumerLooked old.consumer new.consumer → SameInlet old new
  inlet-looked old new l = (l.0, same-front (taken old) (taken new) l.1)

  drained : (outlet outlet' : Outlet T) (inlet inlet' : Inlet T) (left : ℕ) → LooksBeside outlet inlet outlet' inlet' left → left ≡ 0 → IsDrained outlet' inlet'
  drained outlet outlet' inlet inlet' left l e =
      sym (append-nil (taken inlet')) ∙ ap (λ xs. taken inlet' ++ xs) (sym (none-of (held inlet') (sym l.3 ∙ e))) ∙ l.2

down-in-step : (a b : Option (Outlet Pair)) (inlet inlet' : Inlet Pair) (left : ℕ) → DownLooks a inlet b inlet' left → (outlet : Outlet Pair) → b ≡ Some outlet → IsInStep outlet inlet'
down-in-step None b inlet inlet' left d outlet e = absurd (none-some b outlet d.0 e)
down-in-step (Some old) b inlet inlet' left d outlet e = subst (λ o. IsInStep o inlet') (one-there b d.0 outlet d.1 e) (in-step old d.0 inlet inlet' left d.2)

down-drained : (a b : Option (Outlet Pair)) (inlet inlet' : Inlet Pair) (left : ℕ) → DownLooks a inlet b inlet' left → left ≡ 0 → (outlet : Outlet Pair) → b ≡ Some outlet → IsDrained outlet inlet'
down-drained None b inlet inlet' left d z outlet e = absurd (none-some b outlet d.0 e)
down-drained (Some old) b inlet inlet' left d z outlet e = subst (λ o. IsDrained o inlet') (one-there b d.0 outlet d.1 e) (drained old d.0 inlet inlet' left d.2 z)

down-same : (a b : Option (Outlet Pair)) (inlet inlet' : Inlet Pair) (left : ℕ) → DownLooks a inlet b inlet' left → KeepsDown a b × SameInlet inlet inlet'
down-same None b inlet inlet' left d = (d.0, subst (λ i. SameInlet inlet i) (sym d.1) (inlet-itself inlet))
down-same (Some old) b inlet inlet' left d = ((d.0, d.1, outlet-looked old d.0 d.2.0), inlet-looked inlet inlet' d.2.1)

-- ---- the lanes of a worker

module _ {C J : Type 0} where
  lane-same : (outlet outlet' : Outlet RunModel) (inlet inlet' : Inlet Pair) (newcomers newcomers' : Inlet (Newcomer C J)) (lane lane' : LaneEnds (Newcomer C J)) (counts : LeftInLanes)
      → LanesLook outlet inlet newcomers lane counts outlet' inlet' newcomers' lane' → SameLane lane lane'
  lane-same outlet outlet' inlet inlet' newcomers newcomers' lane lane' counts l = (inlet-looked lane.up lane'.up l.0.1, (down-same lane.down lane'.down inlet inlet' counts.down l.1).0, outlet-looked lane.door lane'.door l.2.0)

  pub looked-same : (old new : WorkerModel C J) (lanes lanes' : List (LaneEnds (Newcomer C J))) (counts : LeftInLanes) → LooksAt old lanes counts new lanes' → KeepsEnds old new × SameLanes lanes lanes'
  looked-same old new lanes lanes' counts l =
      let x = l.0.0 in
      let y = l.0.1 in
      let looked : LanesLook old.outlet old.inlet old.newcomers x counts new.outlet new.inlet new.newcomers y = l.0.4 in (
        (ap (λ (w : WorkerModel C J). w.worker) l.1, outlet-looked old.outlet new.outlet looked.0.0, (down-same x.down y.down old.inlet new.inlet counts.down looked.1).1, inlet-looked old.newcomers new.newcomers looked.2.1, same-front old.view.known new.view.known (ap (λ (w : WorkerModel C J). w.view.known) l.1)),
        changes _ (λ lane lane' r. lane-same old.outlet new.outlet old.inlet new.inlet old.newcomers new.newcomers lane lane' counts r) lanes lanes' old.worker l.0,
      )

  -- the lane that was looked at is the worker's
  at-new : (old new : WorkerModel C J) (lanes lanes' : List (LaneEnds (Newcomer C J))) (counts : LeftInLanes) (l : LooksAt old lanes counts new lanes') (lane : LaneEnds (Newcomer C J)) → slice_get lanes' new.worker ≡ Some lane
      → LanesLook old.outlet old.inlet old.newcomers l.0.0 counts new.outlet new.inlet new.newcomers lane
  at-new old new lanes lanes' counts l lane e =
      let there : slice_get lanes' old.worker ≡ Some l.0.1 = ap (λ (xs : List (LaneEnds (Newcomer C J))). slice_get xs old.worker) l.0.3 ∙ set-same lanes old.worker l.0.0 l.0.1 l.0.2 in
      let here : slice_get lanes' old.worker ≡ Some lane = ap (λ (w : WorkerModel C J). slice_get lanes' w.worker) (sym l.1) ∙ e in
      let same = one-there (slice_get lanes' old.worker) l.0.1 lane there here in
      subst (λ lane'. LanesLook old.outlet old.inlet old.newcomers l.0.0 counts new.outlet new.inlet new.newcomers lane') same l.0.4

  pub outcome-looks : (left : Bool) (old new : WorkerModel C J) (lanes lanes' : List (LaneEnds (Newcomer C J))) → LookOutcome old lanes left new lanes' → (counts : LeftInLanes) × LooksAt old lanes counts new lanes'
  outcome-looks true old new lanes lanes' o = (o.0, o.1)
  outcome-looks false old new lanes lanes' o = (o.0, o.1)

  pub outcome-same : (left : Bool) (old new : WorkerModel C J) (lanes lanes' : List (LaneEnds (Newcomer C J))) → LookOutcome old lanes left new lanes' → KeepsEnds old new × SameLanes lanes lanes'
  outcome-same left old new lanes lanes' o = let l = outcome-looks left old new lanes lanes' o in looked-same old new lanes lanes' l.0 l.1

-- ---- an engine

none-left : (n : ℕ) → (0 < n → ⊥) → n ≡ 0
none-left zero never = refl
none-left (suc n) never = absurd (never (omega arith))

module _ {C J P : Type 0} where
  -- after a look, and where the worker sees a front of what was published, all is in order
  pub in-order : (old new : EngineModel C J P) (left : Bool) → Looks old left new → IsPrefix new.worker.view.known new.carrier.published → IsInOrder new
  in-order old new left l view =
      let looked = outcome-looks left old.worker new.worker old.carrier.lanes new.carrier.lanes l.0 in
      let at = at-new old.worker new.worker old.carrier.lanes new.carrier.lanes looked.0 looked.1 in
      record {
        up = λ lane e. in-step old.worker.outlet new.worker.outlet looked.1.0.0.up lane.up looked.0.up (at lane e).0;
        down = λ lane e. down-in-step looked.1.0.0.down lane.down old.worker.inlet new.worker.inlet looked.0.down (at lane e).1;
        door = λ lane e. in-step looked.1.0.0.door lane.door old.worker.newcomers new.worker.newcomers looked.0.door (at lane e).2;
        view = view;
      }

  pub drained-of : (old new : EngineModel C J P) → Looks old false new → IsDrainedOf new
  drained-of old new l =
      let counts = l.0.0 in
      let looked : LooksAt old.worker old.carrier.lanes counts new.worker new.carrier.lanes = l.0.1 in
      let none : IsLeft counts old.worker.left → ⊥ = l.0.2 in
      let at = at-new old.worker new.worker old.carrier.lanes new.carrier.lanes counts looked in
      record {
        up = λ lane e. drained old.worker.outlet new.worker.outlet looked.0.0.up lane.up counts.up (at lane e).0 (none-left counts.up (λ some. none (inl some)));
        down = λ lane e. down-drained looked.0.0.down lane.down old.worker.inlet new.worker.inlet counts.down (at lane e).1 (none-left counts.down (λ some. none (inr (inl some))));
        door = λ come lane e.
            let came : AreToCome old.worker.left = subst (λ (w : WorkerModel C J). AreToCome w.left) looked.1 come in
            drained looked.0.0.door lane.door old.worker.newcomers new.worker.newcomers counts.door (at lane e).2 (none-left counts.door (λ some. none (inr (inr (came, some)))));
      }
