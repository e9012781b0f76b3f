-- The steps one after another.
use Rattle.std.proofs.Common.{◌≡◌, ℕ, ◌+◌, Bool, List, [], ◌∷◌, ◌++◌, refl, arith}
use Rattle.local_cluster.specs.declared.step.MoveStep.{MoveStep}
use Rattle.std.specs.Prelude.{IfOk, Result}
use Rattle.local_cluster.specs.declared.step.MoveStep.TheVariants.{Import, Migrate, MoveKey, MoveRest, Own, Release, Forget, Stay}
use Rattle.script_runs.specs.Mover.{AllEnd, Ends, WasMade, skips}

pub one_more : (steps : List MoveStep) (step : MoveStep) (skipped : ℕ) (made : Bool) → AllEnd steps skipped → Ends step made
    → AllEnd (steps ++ step ∷ []) (skipped + skips made)
one_more [] step skipped made all ends = (made, 0, ends, refl, omega (arith, all))
one_more (first ∷ steps) step skipped made all ends =
    (all.0, all.1 + skips made, all.2, one_more steps step all.1 made all.3 ends, omega (arith, all.4))

-- any step but one that moves the rest of the keys ends where it was made or not
pub other-ends : {E : Type 0} (step : MoveStep) (tried : Result Bool E) → ((slot : ℕ) → step ≡ MoveRest slot → ⊥) → IfOk tried (WasMade step) → IfOk tried (Ends step)
other-ends (Import slot target) tried other made = made
other-ends (Migrate slot) tried other made = made
other-ends (MoveKey slot key) tried other made = made
other-ends (MoveRest slot) tried other made = absurd (other slot refl)
other-ends (Own slot) tried other made = made
other-ends (Release slot) tried other made = made
other-ends (Forget slot) tried other made = made
other-ends (Stay slot) tried other made = made
