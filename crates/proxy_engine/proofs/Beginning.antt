-- A new engine, and a client that is handed over.
use Rattle.std.proofs.Common.{◌≡◌, ℕ, zero, suc, List, [], ◌∷◌, ◌++◌, Option, Some, None, Result, refl, sym, ap, ◌∙◌, subst, arith, length}
use Rattle.std.specs.Prelude.{IsSome, IsSomeAnd, slice_get}
use mathlib.Core.List.{IsPrefix}
use Rattle.key_split.specs.declared.travel.Ticket.{Ticket}
use Rattle.key_split.specs.declared.travel.Told.{Told}
use Rattle.slot_map.specs.Table.{Endpoint}
use Rattle.slot_map.specs.declared.ops.MapOp.{MapOp}
use Rattle.proxy_lanes.specs.declared.ring.Outlet.{Outlet}
use Rattle.proxy_lanes.specs.declared.ring.Inlet.{Inlet}
use Rattle.proxy_lanes.specs.declared.ends.WorkerEnds.{WorkerEnds}
use Rattle.proxy_lanes.specs.declared.ends.lane_ends.LaneEnds.{LaneEnds}
use Rattle.proxy_lanes.specs.Carrier.{AreLanes, AreLanesOf}
use Rattle.proxy_lanes.specs.View.{ViewModel}
use Rattle.proxy_lanes.specs.Ends.{HandsOver}
use Rattle.proxy_lanes.specs.Lane.{IsNewLane, posted, taken}
use Rattle.proxy_lanes.specs.Beside.{AreBeside, IsInStep}
use Rattle.proxy_turns.specs.declared.newcomer.Newcomer.{Newcomer}
use Rattle.proxy_turns.specs.Worker.{new_worker}
use Rattle.proxy_turns.specs.WorkerModel.{WorkerModel}
use Rattle.proxy_turns.specs.CarrierModel.{CarrierModel, new_carrier}
use Rattle.proxy_engine.specs.Together.{AreTogether}
use Rattle.proxy_engine.specs.EngineModel.{EngineModel, HandsClient, IsInOrder, IsNewEngine}
use Rattle.proxy_engine.proofs.Pairs.{pairs-changed, pairs-from, some-same}
use Rattle.proxy_engine.proofs.Ends.{SameOutlet, front-after, inlet-itself, outlet-itself, posts-there}
use Rattle.proxy_engine.proofs.Carrying.{SameLane, SameLanes, changes, down-itself}

-- ---- new lanes

only-lanes : {H J : Type 0} (ws : List (WorkerEnds H J)) (ls : List (LaneEnds H)) → AreLanes 1 ws ls → length ws ≡ 1 → (w : WorkerEnds H J) × (l : LaneEnds H) × (ws ≡ w ∷ []) × (ls ≡ l ∷ []) × AreLanesOf 1 0 w l
only-lanes [] ls a e = absurd (omega (arith, e))
only-lanes (w ∷ []) [] a e = absurd a
only-lanes (w ∷ []) (l ∷ []) a e = (w, l, refl, refl, a.0)
only-lanes (w ∷ []) (l ∷ m ∷ ls) a e = absurd a.1
only-lanes (w ∷ v ∷ ws) ls a e = absurd (omega (arith, e))

-- what came off the end of a list of one
one-off : {X : Type 0} (x y : X) (xs : List X) → x ∷ [] ≡ xs ++ y ∷ [] → x ≡ y
one-off x y [] e = let same : x ∷ [] ≡ y ∷ [] = e in cc
one-off x y (z ∷ []) e = absurd (let two : x ∷ [] ≡ z ∷ y ∷ [] = e in omega (arith, ap length two))
one-off x y (z ∷ u ∷ xs) e = absurd (let many : x ∷ [] ≡ z ∷ u ∷ (xs ++ y ∷ []) = e in omega (arith, ap length many))

the-only : {X : Type 0} (l lane : X) (k : ℕ) → k ≡ 0 → slice_get (l ∷ []) k ≡ Some lane → l ≡ lane
the-only l lane zero z e = some-same l lane e
the-only l lane (suc k) z e = absurd (omega (arith, z))

new-down : (down : Option (Outlet (Ticket × Told))) (inlet : Inlet (Ticket × Told)) → IsSomeAnd down (λ outlet. IsNewLane outlet inlet) → IsSome down × ((outlet : Outlet (Ticket × Told)) → down ≡ Some outlet → IsNewLane outlet inlet)
new-down None inlet a = absurd a
new-down (Some new) inlet a = (refl, λ outlet e. subst (λ o. IsNewLane o inlet) (some-same new outlet e) a)

-- nothing is a front of anything
nothing-first : {X : Type 0} (xs ys : List X) → xs ≡ [] → IsPrefix xs ys
nothing-first xs ys e = (ys, ap (λ zs. zs ++ ys) e)

module _ {C J : Type 0} where
  begin-together : (left : Option ℕ) (w : WorkerEnds (Newcomer C J) J) (l : LaneEnds (Newcomer C J)) → AreLanesOf 1 0 w l → AreTogether (new_worker w left) (l ∷ [])
  begin-together left w l a =
      let down = new-down l.down w.inlet a.3 in
      let beside : AreBeside w.outlet w.inlet w.newcomers l = (a.2.0, (λ outlet e. (down.1 outlet e).0), a.4.0) in (
        a.0,
        refl,
        (omega (arith, a.0), λ lane e. subst (λ x. AreBeside w.outlet w.inlet w.newcomers x) (the-only l lane w.worker a.0 e) beside),
        (λ lane e. subst (λ (x : LaneEnds (Newcomer C J)). IsSome x.down) (the-only l lane w.worker a.0 e) down.0),
      )

module _ {C J P : Type 0} where
  begin-in-order : (left : Option ℕ) (seeds : List Endpoint) (failures : ℕ) (w : WorkerEnds (Newcomer C J) J) (l : LaneEnds (Newcomer C J)) → AreLanesOf 1 0 w l
      → IsInOrder {C = C} {J = J} {P = P} (record { worker = new_worker w left; carrier = new_carrier (l ∷ []) seeds [] failures })
  begin-in-order left seeds failures w l a =
      let down = new-down l.down w.inlet a.3 in record {
        up = λ lane e. let same = the-only l lane w.worker a.0 e in nothing-first (taken lane.up) (posted w.outlet) (ap (λ (x : LaneEnds (Newcomer C J)). taken x.up) (sym same) ∙ a.2.2);
        down = λ lane e outlet o.
            let same = the-only l lane w.worker a.0 e in
            let there : l.down ≡ Some outlet = ap (λ (x : LaneEnds (Newcomer C J)). x.down) same ∙ o in
            nothing-first (taken w.inlet) (posted outlet) (down.1 outlet there).2;
        door = λ lane e. nothing-first (taken w.newcomers) (posted lane.door) a.4.2;
        view = nothing-first w.view.known [] (ap (λ (v : ViewModel). v.known) a.5);
      }

-- ---- a client is handed over

abbrev Handed : {H : Type 0} → LaneEnds H → LaneEnds H → Type 0
Handed old new = (new.up ≡ old.up) × (new.down ≡ old.down) × SameOutlet old.door new.door

handed-itself : {H : Type 0} (lane : LaneEnds H) → Handed lane lane
handed-itself lane = (refl, refl, outlet-itself lane.door)

hands-there : {H : Type 0} (client : H) (given : Result (Unit {0}) H) (x y : LaneEnds H) → HandsOver x y client given → Handed x y
hands-there {H} client given x y h = (ap (λ (l : LaneEnds H). l.up) h.0, ap (λ (l : LaneEnds H). l.down) h.0, posts-there x.door y.door client given h.1)

module _ {C J P : Type 0} where
  pub handed-lanes : (old new : EngineModel C J P) (client : Newcomer C J) (given : Result (Unit {0}) (Newcomer C J)) → HandsClient old client given new → SameLanes old.carrier.lanes new.carrier.lanes
  handed-lanes old new client given h = changes _ (λ x y r. subst (λ l. SameLane x l) (sym r.0) (inlet-itself x.up, down-itself x.down, posts-there x.door y.door client given r.1)) old.carrier.lanes new.carrier.lanes 0 h.0

  pub handed-in-order : (old new : EngineModel C J P) (client : Newcomer C J) (given : Result (Unit {0}) (Newcomer C J)) → HandsClient old client given new → IsInOrder old → IsInOrder new
  handed-in-order old new client given h order =
      let next : EngineModel C J P = record old { carrier = record old.carrier { lanes = new.carrier.lanes } } in
      let k = old.worker.worker in
      let from : (lane : LaneEnds (Newcomer C J)) → slice_get new.carrier.lanes k ≡ Some lane → (w : LaneEnds (Newcomer C J)) × (slice_get old.carrier.lanes k ≡ Some w) × Handed w lane =
      λ lane e. pairs-from Handed old.carrier.lanes new.carrier.lanes k lane (pairs-changed _ Handed handed-itself (hands-there client given) old.carrier.lanes new.carrier.lanes 0 h.0) e in
      let there : IsInOrder next = record {
        up = λ lane e. let was = from lane e in subst (λ inlet. IsInStep old.worker.outlet inlet) (sym was.2.0) (order.up was.0 was.1);
        down = λ lane e outlet o. let was = from lane e in order.down was.0 was.1 outlet (sym was.2.1 ∙ o);
        door = λ lane e. let was = from lane e in front-after (taken old.worker.newcomers) (posted was.0.door) (posted lane.door) (order.door was.0 was.1) was.2.2.1;
        view = order.view;
      } in
      subst IsInOrder (sym h.1) there

  -- ---- what is made of new lanes

  pub begun : (left : Option ℕ) (seeds : List Endpoint) (failures : ℕ) (ws : List (WorkerEnds (Newcomer C J) J)) (ls : List (LaneEnds (Newcomer C J))) (published : List MapOp) (popped : List (WorkerEnds (Newcomer C J) J)) (own : WorkerEnds (Newcomer C J) J)
      (worker : WorkerModel C J) (carrier : CarrierModel (Newcomer C J) P) → AreLanes 1 ws ls → length ws ≡ 1 → published ≡ [] → ws ≡ popped ++ own ∷ [] → worker ≡ new_worker own left → carrier ≡ new_carrier ls seeds published failures
      → IsNewEngine left seeds failures (record { worker = worker; carrier = carrier })
  begun left seeds failures ws ls published popped own worker carrier lanes one none off is over =
      let made = only-lanes ws ls lanes one in
      let same : made.0 ≡ own = one-off made.0 own popped (sym made.2 ∙ off) in
      let at : carrier ≡ new_carrier (made.1 ∷ []) seeds [] failures = over ∙ ap (λ xs. new_carrier xs seeds published failures) made.3 ∙ ap (λ ops. new_carrier (made.1 ∷ []) seeds ops failures) none in
      (own, made.1, subst (λ w. AreLanesOf 1 0 w made.1) same made.4, λ i. record { worker = is i; carrier = at i })

  pub new-together : (left : Option ℕ) (seeds : List Endpoint) (failures : ℕ) (engine : EngineModel C J P) → IsNewEngine left seeds failures engine → AreTogether engine.worker engine.carrier.lanes
  new-together left seeds failures engine n = subst (λ (e : EngineModel C J P). AreTogether e.worker e.carrier.lanes) (sym n.3) (begin-together left n.0 n.1 n.2)

  pub new-in-order : (left : Option ℕ) (seeds : List Endpoint) (failures : ℕ) (engine : EngineModel C J P) → IsNewEngine left seeds failures engine → IsInOrder engine
  new-in-order left seeds failures engine n = subst IsInOrder (sym n.3) (begin-in-order left seeds failures n.0 n.1 n.2)
