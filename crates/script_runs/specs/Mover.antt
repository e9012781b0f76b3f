-- What the mover says of its steps.
-- Private: no fact crosses a thread's join, so no contract that callers see counts the steps that were skipped.
use Rattle.std.specs.Prelude.{◌≡◌, ℕ, ◌+◌, Bool, true, false, List, [], ◌∷◌, Ok, Err}
use Rattle.node_model.specs.declared.standing.MoveFault.TheVariants.{NotNow}
use Rattle.local_cluster.specs.Held.{WasTried}
use Rattle.local_cluster.specs.declared.step.MoveStep.{MoveStep}
use Rattle.local_cluster.specs.declared.step.MoveStep.TheVariants.{Import, Migrate, MoveKey, MoveRest, Own, Release, Forget, Stay}

-- it was made, or the state did not allow it
abbrev pub WasMade : MoveStep → Bool → Type 0
WasMade step true = WasTried {U = Unit {0}} step (Ok tt)
WasMade step false = WasTried {U = Unit {0}} step (Err NotNow)

-- keys are moved until none is left; any other step was made, or it is skipped, since the state did not allow it
abbrev pub Ends : MoveStep → Bool → Type 0
Ends (Import slot target) made = WasMade (Import slot target) made
Ends (Migrate slot) made = WasMade (Migrate slot) made
Ends (MoveKey slot key) made = WasMade (MoveKey slot key) made
Ends (MoveRest slot) made = (made ≡ true) × WasMade (MoveRest slot) false
Ends (Own slot) made = WasMade (Own slot) made
Ends (Release slot) made = WasMade (Release slot) made
Ends (Forget slot) made = WasMade (Forget slot) made
Ends (Stay slot) made = WasMade (Stay slot) made

abbrev pub skips : Bool → ℕ
skips true = 0
skips false = 1

-- all steps came to their ends in order, and `skipped` of them were skipped
abbrev pub AllEnd : List MoveStep → ℕ → Type 0
AllEnd [] skipped = skipped ≡ 0
AllEnd (step ∷ steps) skipped = (made : Bool) × (later : ℕ) × Ends step made × AllEnd steps later × (skipped ≡ skips made + later)
