-- Engines whose ends know less of each other than those of a play's engine.
use Rattle.std.proofs.Common.{◌≡◌, ℕ, zero, suc, List, [], ◌∷◌, Some, Result, refl, sym, subst}
use Rattle.std.specs.Prelude.{slice_get, slice_set}
use Rattle.proxy_lanes.specs.declared.ends.lane_ends.LaneEnds.{LaneEnds}
use Rattle.proxy_lanes.specs.Ends.{ChangesAt, HandsOver}
use Rattle.proxy_turns.specs.declared.newcomer.Newcomer.{Newcomer}
use Rattle.proxy_engine.specs.EngineModel.{EngineModel, HandsClient}
use Rattle.proxy_engine.specs.Events.{EngineKnows}
use Rattle.proxy_engine.specs.Unseen.{LaneKnows, LanesKnow}
use Rattle.proxy_engine.proofs.Pairs.{nothing-there, some-same}
use Rattle.proxy_engine.proofs.Unseen.{items-themselves, places-themselves, posts-unseen}
use Rattle.proxy_engine.proofs.UnseenCarrier.{lane-themselves}

module _ {H : Type 0} where
  lanes-themselves : (lanes : List (LaneEnds H)) → LanesKnow lanes lanes
  lanes-themselves [] = tt
  lanes-themselves (lane ∷ lanes) = (lane-themselves lane, lanes-themselves lanes)

  -- the lane that was there, and the one that knows more of it
  known-at : (less more : List (LaneEnds H)) (k : ℕ) (x : LaneEnds H) → LanesKnow less more → slice_get more k ≡ Some x → (w : LaneEnds H) × (slice_get less k ≡ Some w) × LaneKnows w x
  known-at [] [] k x knows at = absurd (nothing-there k x at)
  known-at [] (y ∷ ys) k x knows at = absurd knows
  known-at (v ∷ vs) [] k x knows at = absurd knows
  known-at (v ∷ vs) (y ∷ ys) zero x knows at = (v, refl, subst (λ z. LaneKnows v z) (some-same y x at) knows.0)
  known-at (v ∷ vs) (y ∷ ys) (suc k) x knows at = known-at vs ys k x knows.1 at

  known-set : (less more : List (LaneEnds H)) (k : ℕ) (w x : LaneEnds H) → LanesKnow less more → LaneKnows w x → LanesKnow (slice_set less k w) (slice_set more k x)
  known-set [] [] k w x knows one = tt
  known-set [] (y ∷ ys) k w x knows one = absurd knows
  known-set (v ∷ vs) [] k w x knows one = absurd knows
  known-set (v ∷ vs) (y ∷ ys) zero w x knows one = (one, knows.1)
  known-set (v ∷ vs) (y ∷ ys) (suc k) w x knows one = (knows.0, known-set vs ys k w x knows.1 one)

  -- a client that is handed over where more is known could be where less is
  handed-at : (less old new : List (LaneEnds H)) (k : ℕ) (client : H) (handed : Result (Unit {0}) H) → LanesKnow less old → ChangesAt old k new (λ x y. HandsOver x y client handed)
      → (after : List (LaneEnds H)) × ChangesAt less k after (λ x y. HandsOver x y client handed) × LanesKnow after new
  handed-at less old new k client handed knows c =
      let was = known-at less old k c.0 knows c.2 in
      let next : LaneEnds H = record (was.0) { door = c.1.door } in
      let more : LaneKnows next c.1 = subst (λ (y : LaneEnds H). LaneKnows next y) (sym c.4.0) (was.2.0, was.2.1, places-themselves c.1.door) in (
        slice_set less k next,
        (was.0, next, was.1, refl, (refl, posts-unseen was.0.door c.0.door c.1.door client handed was.2.2 c.4.1)),
        subst (λ xs. LanesKnow (slice_set less k next) xs) (sym c.3) (known-set less old k next c.1 knows more),
      )

module _ {C J P : Type 0} where
  pub knows-itself : (engine : EngineModel C J P) → EngineKnows engine engine
  knows-itself engine = ((places-themselves engine.worker.outlet, items-themselves engine.worker.inlet, items-themselves engine.worker.newcomers, refl), (lanes-themselves engine.carrier.lanes, refl))

  -- a client is handed to both
  pub handed-unseen : (less old new : EngineModel C J P) (client : Newcomer C J) (handed : Result (Unit {0}) (Newcomer C J)) → EngineKnows less old → HandsClient old client handed new
      → (after : EngineModel C J P) × HandsClient less client handed after × EngineKnows after new
  handed-unseen less old new client handed knows h =
      let lanes = handed-at less.carrier.lanes old.carrier.lanes new.carrier.lanes 0 client handed knows.1.0 h.0 in
      let after : EngineModel C J P = record less { carrier = record less.carrier { lanes = lanes.0 } } in
      let more : EngineKnows after (record old { carrier = record old.carrier { lanes = new.carrier.lanes } }) = (knows.0, (lanes.2, λ i. record (knows.1.1 i) { lanes = new.carrier.lanes })) in
      (after, (lanes.1, refl), subst (λ (e : EngineModel C J P). EngineKnows after e) (sym h.1) more)
