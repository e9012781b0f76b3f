-- What stands in a list.
use Rattle.std.proofs.Common.{◌≡◌, ℕ, zero, suc, List, [], ◌∷◌, ◌++◌, Some, arith}
use Rattle.std.specs.Prelude.{All, slice_get}

-- nothing stands in an empty list
pub nothing-there : {X : Type 0} (k : ℕ) (x : X) → slice_get [] k ≡ Some x → ⊥
nothing-there k x e = absurd (cc)

-- what is so of each is so of each of a front
pub all-front : {X : Type 0} (P : X → Type 0) (a b : List X) → All P (a ++ b) → All P a
all-front P [] b h i d lt = absurd (omega (arith, lt))
all-front P (x ∷ a) b h zero d lt = h 0 d (omega arith)
all-front P (x ∷ a) b h (suc i) d lt = all-front P a b (λ j e l. h (suc j) e (omega (arith, l))) i d (omega (arith, lt))

-- what stands in a list stands behind others
pub in-right : {X : Type 0} (xs ys : List X) (i : ℕ) (p : X) → slice_get ys i ≡ Some p → (j : ℕ) × (slice_get (xs ++ ys) j ≡ Some p)
in-right [] ys i p e = (i, e)
in-right (x ∷ xs) ys i p e = let r = in-right xs ys i p e in (suc r.0, r.1)
