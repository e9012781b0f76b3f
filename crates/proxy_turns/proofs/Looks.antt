-- What a look at the lanes of a worker came to.
use Rattle.std.proofs.Common.{◌≡◌, ◌||◌, ◌↔◌, IsTrue, List, Bool, true, false, not, Some, refl, inl, inr}
use Rattle.std.specs.Prelude.{slice_get}
use Rattle.std.specs.Option.{ForSome}
use Rattle.proxy_lanes.specs.declared.ends.lane_ends.LaneEnds.{LaneEnds}
use Rattle.proxy_lanes.specs.declared.ends.lane_ends.LeftInLanes.{LeftInLanes}
use Rattle.proxy_lanes.specs.Beside.{HavePlaces}
use Rattle.proxy_turns.specs.declared.newcomer.Newcomer.{Newcomer}
use Rattle.proxy_turns.specs.Beside.{IsLeft, LookOutcome, LooksAt}
use Rattle.proxy_turns.specs.WorkerModel.{WorkerModel}

not-so : IsTrue false → ⊥
not-so e = cc

module _ {C J : Type 0} where
  pub look-outcome : (old new : WorkerModel C J) (lanes lanes' : List (LaneEnds (Newcomer C J))) (counts : LeftInLanes) (places left : Bool) → ForSome (slice_get lanes old.worker) (λ lane. IsTrue places ↔ HavePlaces old.outlet lane)
      → (IsTrue left ↔ IsLeft counts old.left) → LooksAt old lanes counts new lanes' → LookOutcome old lanes (not places || left) new lanes'
  look-outcome old new lanes lanes' counts false left have is looks = (counts, looks, inr (λ all. absurd (not-so ((have looks.0.0 looks.0.2).1 (all looks.0.0 looks.0.2)))))
  look-outcome old new lanes lanes' counts true true have is looks = (counts, looks, inl (is.0 refl))
  look-outcome old new lanes lanes' counts true false have is looks = (counts, looks, (λ some. absurd (not-so (is.1 some))), (λ lane e. (have lane e).0 refl))
