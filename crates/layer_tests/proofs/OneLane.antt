-- The lanes of one worker.
use Rattle.std.proofs.Common.{◌≡◌, List, [], ◌∷◌, ◌++◌, Some, length, refl, sym, ap, ◌∙◌, subst, arith}
use Rattle.std.specs.Prelude.{slice_get}
use Rattle.proxy_lanes.specs.declared.ends.WorkerEnds.{WorkerEnds}
use Rattle.proxy_lanes.specs.declared.ends.lane_ends.LaneEnds.{LaneEnds}
use Rattle.proxy_lanes.specs.Carrier.{AreLanes}
use Rattle.proxy_lanes.specs.Lane.{IsLane}

-- what came off the end of a list of one
one-off : {X : Type 0} (x y : X) (xs : List X) → x ∷ [] ≡ xs ++ y ∷ [] → x ≡ y
one-off x y [] e = let same : x ∷ [] ≡ y ∷ [] = e in cc
one-off x y (z ∷ []) e = absurd (let two : x ∷ [] ≡ z ∷ y ∷ [] = e in omega (arith, ap length two))
one-off x y (z ∷ u ∷ xs) e = absurd (let many : x ∷ [] ≡ z ∷ u ∷ (xs ++ y ∷ []) = e in omega (arith, ap length many))

one-place : {X : Type 0} (l lane : X) → slice_get (l ∷ []) 0 ≡ Some lane → l ≡ lane
one-place l lane at = let found : Some l ≡ Some lane = at in cc

module _ {H J : Type 0} where
  -- one worker has one lane
  one-each : (ends : List (WorkerEnds H J)) (lanes : List (LaneEnds H)) → AreLanes 1 ends lanes → length ends ≡ 1
      → (w : WorkerEnds H J) × (l : LaneEnds H) × (ends ≡ w ∷ []) × (lanes ≡ l ∷ []) × IsLane w.outlet l.up
  one-each [] lanes are one = absurd (omega (arith, one))
  one-each (w ∷ []) [] are one = absurd are
  one-each (w ∷ []) (l ∷ []) are one = (w, l, refl, refl, are.0.2.0)
  one-each (w ∷ []) (l ∷ m ∷ ls) are one = absurd are.1
  one-each (w ∷ v ∷ ws) lanes are one = absurd (omega (arith, one))

  -- what the only worker posts goes up the only lane
  pub only-lane : (ends rest : List (WorkerEnds H J)) (own : WorkerEnds H J) (lanes : List (LaneEnds H)) → AreLanes 1 ends lanes → length ends ≡ 1 → ends ≡ rest ++ own ∷ []
      → (lane : LaneEnds H) → slice_get lanes 0 ≡ Some lane → IsLane own.outlet lane.up
  only-lane ends rest own lanes are one off lane at =
      let (w, l, made, there, is_lane) = one-each ends lanes are one in
      let same : w ≡ own = one-off w own rest (sym made ∙ off) in
      let first : l ≡ lane = one-place l lane (subst (λ ls. slice_get ls 0 ≡ Some lane) there at) in
      subst (λ (x : LaneEnds H). IsLane own.outlet x.up) first (subst (λ (v : WorkerEnds H J). IsLane v.outlet l.up) same is_lane)
