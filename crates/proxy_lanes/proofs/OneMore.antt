-- One worker more.
use Rattle.std.proofs.Common.{◌≡◌, ℕ, ◌+◌, List, [], ◌∷◌, ◌++◌, length, subst, arith}
use Rattle.proxy_lanes.specs.declared.ends.lane_ends.LaneEnds.{LaneEnds}
use Rattle.proxy_lanes.specs.declared.ends.WorkerEnds.{WorkerEnds}
use Rattle.proxy_lanes.specs.Carrier.{AreLanesOf, AreLanesFrom}

module _ {H J : Type 0} where
  pub one_more : (workers k : ℕ) (ws : List (WorkerEnds H J)) (lanes : List (LaneEnds H)) → AreLanesFrom workers k ws lanes
      → (w : WorkerEnds H J) (lane : LaneEnds H) → AreLanesOf workers (k + length ws) w lane
      → AreLanesFrom workers k (ws ++ w ∷ []) (lanes ++ lane ∷ [])
  one_more workers k [] [] h w lane is = let same : k + 0 ≡ k = omega arith in (subst (λ n. AreLanesOf workers n w lane) same is, tt)
  one_more workers k (v ∷ vs) (l ∷ ls) h w lane is =
      let same : k + length (v ∷ vs) ≡ k + 1 + length vs = omega arith in
      (h.0, one_more workers (k + 1) vs ls h.1 w lane (subst (λ n. AreLanesOf workers n w lane) same is))
  one_more workers k [] (l ∷ ls) h w lane is = absurd h
  one_more workers k (v ∷ vs) [] h w lane is = absurd h
