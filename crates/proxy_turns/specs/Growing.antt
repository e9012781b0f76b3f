-- A list to which the same is added, once or more.
use Rattle.std.specs.Prelude.{◌≡◌, ◌++◌, ◌∷◌, [], ℕ, zero, suc, List}

-- the list, with a number of these behind it
abbrev pub grown : {X : Type 0} → ℕ → X → List X → List X
grown zero x xs = xs
grown (suc n) x xs = grown n x xs ++ x ∷ []

-- some are added, or none
abbrev pub Grows : {X : Type 0} → X → List X → List X → Type 0
Grows x old new = (n : ℕ) × (new ≡ grown n x old)
