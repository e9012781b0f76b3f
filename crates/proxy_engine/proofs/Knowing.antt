-- Engines whose ends know more or less of each other.
use Rattle.std.proofs.Common.{◌≡◌, ℕ, zero, suc, Bool, List, [], ◌∷◌, ◌++◌, Option, Some, None, refl, sym, ap, ◌∙◌, subst}
use Rattle.std.specs.Prelude.{slice_get, slice_set}
use mathlib.Core.List.{IsPrefix}
use Rattle.key_split.specs.declared.travel.Ticket.{Ticket}
use Rattle.key_split.specs.declared.travel.Told.{Told}
use Rattle.proxy_lanes.specs.declared.ring.Outlet.{Outlet}
use Rattle.proxy_lanes.specs.declared.ring.Inlet.{Inlet}
use Rattle.proxy_lanes.specs.declared.ends.lane_ends.LaneEnds.{LaneEnds}
use Rattle.proxy_lanes.specs.declared.ends.lane_ends.LeftInLanes.{LeftInLanes}
use Rattle.proxy_lanes.specs.Lane.{held, posted, taken}
use Rattle.proxy_lanes.specs.Beside.{DownLooks, IsInStep, LanesLook}
use Rattle.proxy_turns.specs.declared.newcomer.Newcomer.{Newcomer}
use Rattle.proxy_turns.specs.Beside.{LooksAt}
use Rattle.proxy_turns.specs.WorkerModel.{WorkerModel}
use Rattle.proxy_turns.specs.CarrierModel.{CarrierModel}
use Rattle.proxy_engine.specs.EngineModel.{EngineModel, IsInOrder, Looks}
use Rattle.proxy_engine.specs.Unseen.{DownKnows, KnowsItems, KnowsPlaces, LaneKnows, LanesKnow, WorkerKnows}
use Rattle.proxy_engine.specs.Events.{EngineKnows}
use Rattle.proxy_engine.proofs.Ends.{front-after}
use Rattle.proxy_engine.proofs.Pairs.{none-some, nothing-there, some-same}
use Rattle.proxy_engine.proofs.Looking.{outcome-looks}
use Rattle.proxy_engine.proofs.Unseen.{consumers-after, items-themselves, producers-after}
use Rattle.proxy_engine.proofs.UnseenCarrier.{lane-themselves}

abbrev Pair : Type 0
Pair = Ticket × Told

module _ {T : Type 0} where
  places-after : (a b c : Outlet T) → KnowsPlaces a b → KnowsPlaces b c → KnowsPlaces a c
  places-after a b c p q = (producers-after a b c p.0 q.0, q.1 ∙ p.1)

  items-after : (a b c : Inlet T) → KnowsItems a b → KnowsItems b c → KnowsItems a c
  items-after a b c p q = (consumers-after a b c p.0 q.0, q.1 ∙ p.1, front-after (held a) (held b) (held c) p.2 q.2)

  -- what was taken and posted is the same
  step-known : (less more : Outlet T) (in-less in-more : Inlet T) → KnowsPlaces less more → KnowsItems in-less in-more → IsInStep more in-more → IsInStep less in-less
  step-known less more in-less in-more p i s = (s.0, ap (λ xs. xs ++ s.0) (sym i.1) ∙ s.1 ∙ p.1)

down-after : (a b c : Option (Outlet Pair)) → DownKnows a b → DownKnows b c → DownKnows a c
down-after None b c p q = subst (λ o. DownKnows o c) p q
down-after (Some old) b c p q =
    let later : DownKnows (Some p.0) c = subst (λ o. DownKnows o c) p.1 q in
    (later.0, later.1, places-after old p.0 later.0 p.2 later.2)

down-to : (a b : Option (Outlet Pair)) → DownKnows a b → (outlet : Outlet Pair) → a ≡ Some outlet → (next : Outlet Pair) × (b ≡ Some next) × KnowsPlaces outlet next
down-to None b k outlet e = absurd (none-some None outlet refl e)
down-to (Some old) b k outlet e = (k.0, k.1, subst (λ o. KnowsPlaces o k.0) (some-same old outlet e) k.2)

module _ {H : Type 0} where
  lane-after : (a b c : LaneEnds H) → LaneKnows a b → LaneKnows b c → LaneKnows a c
  lane-after a b c p q = (items-after a.up b.up c.up p.0 q.0, down-after a.down b.down c.down p.1 q.1, places-after a.door b.door c.door p.2 q.2)

  know-themselves : (lanes : List (LaneEnds H)) → LanesKnow lanes lanes
  know-themselves [] = tt
  know-themselves (lane ∷ lanes) = (lane-themselves lane, know-themselves lanes)

  know-after : (a b c : List (LaneEnds H)) → LanesKnow a b → LanesKnow b c → LanesKnow a c
  know-after [] [] [] p q = tt
  know-after [] [] (z ∷ zs) p q = absurd q
  know-after [] (y ∷ ys) c p q = absurd p
  know-after (x ∷ xs) [] c p q = absurd p
  know-after (x ∷ xs) (y ∷ ys) [] p q = absurd q
  know-after (x ∷ xs) (y ∷ ys) (z ∷ zs) p q = (lane-after x y z p.0 q.0, know-after xs ys zs p.1 q.1)

  know-one : (lanes : List (LaneEnds H)) (k : ℕ) (x y : LaneEnds H) → slice_get lanes k ≡ Some x → LaneKnows x y → LanesKnow lanes (slice_set lanes k y)
  know-one [] k x y e l = absurd (nothing-there k x e)
  know-one (z ∷ lanes) zero x y e l = (subst (λ v. LaneKnows v y) (some-same x z (sym e)) l, know-themselves lanes)
  know-one (z ∷ lanes) (suc k) x y e l = (lane-themselves z, know-one lanes k x y e l)

  know-to : (less more : List (LaneEnds H)) (k : ℕ) (w : LaneEnds H) → LanesKnow less more → slice_get less k ≡ Some w → (x : LaneEnds H) × (slice_get more k ≡ Some x) × LaneKnows w x
  know-to [] ys k w p e = absurd (nothing-there k w e)
  know-to (v ∷ ws) [] k w p e = absurd p
  know-to (v ∷ ws) (y ∷ ys) zero w p e = (y, refl, subst (λ u. LaneKnows u y) (some-same v w e) p.0)
  know-to (v ∷ ws) (y ∷ ys) (suc k) w p e = know-to ws ys k w p.1 e

-- ---- a look

down-looked : (a b : Option (Outlet Pair)) (inlet inlet' : Inlet Pair) (left : ℕ) → DownLooks a inlet b inlet' left → DownKnows a b × KnowsItems inlet inlet'
down-looked None b inlet inlet' left d = (d.0, subst (λ i. KnowsItems inlet i) (sym d.1) (items-themselves inlet))
down-looked (Some old) b inlet inlet' left d = ((d.0, d.1, (d.2.0.0, d.2.0.1)), d.2.1)

module _ {C J : Type 0} where
  looked-know : (old new : WorkerModel C J) (lanes lanes' : List (LaneEnds (Newcomer C J))) (counts : LeftInLanes) → LooksAt old lanes counts new lanes' → WorkerKnows old new × LanesKnow lanes lanes'
  looked-know old new lanes lanes' counts l =
      let x = l.0.0 in
      let y = l.0.1 in
      let looked : LanesLook old.outlet old.inlet old.newcomers x counts new.outlet new.inlet new.newcomers y = l.0.4 in
      let down = down-looked x.down y.down old.inlet new.inlet counts.down looked.1 in (
        ((looked.0.0.0, looked.0.0.1), down.1, looked.2.1, l.1),
        subst (λ xs. LanesKnow lanes xs) (sym l.0.3) (know-one lanes old.worker x y l.0.2 (looked.0.1, down.0, (looked.2.0.0, looked.2.0.1))),
      )

  worker-after : (a b c : WorkerModel C J) → WorkerKnows a b → WorkerKnows b c → WorkerKnows a c
  worker-after a b c p q = (
    places-after a.outlet b.outlet c.outlet p.0 q.0,
    items-after a.inlet b.inlet c.inlet p.1 q.1,
    items-after a.newcomers b.newcomers c.newcomers p.2 q.2,
    q.3 ∙ ap (λ (w : WorkerModel C J). record w { outlet = c.outlet; inlet = c.inlet; newcomers = c.newcomers }) p.3,
  )

module _ {C J P : Type 0} where
  pub looks-know : (old new : EngineModel C J P) (left : Bool) → Looks old left new → EngineKnows old new
  looks-know old new left l =
      let looked = outcome-looks left old.worker new.worker old.carrier.lanes new.carrier.lanes l.0 in
      let known = looked-know old.worker new.worker old.carrier.lanes new.carrier.lanes looked.0 looked.1 in
      (known.0, (known.1, ap (λ (e : EngineModel C J P). e.carrier) l.1))

  pub engine-after : (a b c : EngineModel C J P) → EngineKnows a b → EngineKnows b c → EngineKnows a c
  engine-after a b c p q = (
    worker-after a.worker b.worker c.worker p.0 q.0,
    (know-after a.carrier.lanes b.carrier.lanes c.carrier.lanes p.1.0 q.1.0, q.1.1 ∙ ap (λ (k : CarrierModel (Newcomer C J) P). record k { lanes = c.carrier.lanes }) p.1.1),
  )

  -- an engine is in order where one like it is
  pub order-known : (less more : EngineModel C J P) → EngineKnows less more → IsInOrder more → IsInOrder less
  order-known less more k order =
      let number = ap (λ (w : WorkerModel C J). w.worker) k.0.3 in
      let to : (lane : LaneEnds (Newcomer C J)) → slice_get less.carrier.lanes less.worker.worker ≡ Some lane → (x : LaneEnds (Newcomer C J)) × (slice_get more.carrier.lanes less.worker.worker ≡ Some x) × LaneKnows lane x =
      λ lane e. know-to less.carrier.lanes more.carrier.lanes less.worker.worker lane k.1.0 e in
      record {
        up = λ lane e. let x = to lane e in step-known less.worker.outlet more.worker.outlet lane.up x.0.up k.0.0 x.2.0 (order.up x.0 (ap (λ n. slice_get more.carrier.lanes n) number ∙ x.1));
        down = λ lane e outlet o.
            let x = to lane e in
            let d = down-to lane.down x.0.down x.2.1 outlet o in
            step-known outlet d.0 less.worker.inlet more.worker.inlet d.2 k.0.1 (order.down x.0 (ap (λ n. slice_get more.carrier.lanes n) number ∙ x.1) d.0 d.1);
        door = λ lane e. let x = to lane e in step-known lane.door x.0.door less.worker.newcomers more.worker.newcomers x.2.2 k.0.2 (order.door x.0 (ap (λ n. slice_get more.carrier.lanes n) number ∙ x.1));
        view = subst (λ xs. IsPrefix xs less.carrier.published) (ap (λ (w : WorkerModel C J). w.view.known) k.0.3) (subst (λ ys. IsPrefix more.worker.view.known ys) (ap (λ (c : CarrierModel (Newcomer C J) P). c.published) k.1.1) order.view);
      }
