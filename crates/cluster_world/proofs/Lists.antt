-- What loops need that look for an element which fails.
use Rattle.std.proofs.Common.{◌≡◌, ◌↔◌, Result, Ok, Err, IfOk, ℕ, zero, suc, refl, arith, ◌≤◌, [], ◌+◌, ◌<◌, List, length, get_or, drop, ◌∷◌, ◌∙◌, ap, sym, subst, false, IsTrue, below_more}
use Rattle.std.proofs.lemmas.List.{get_or_default, drop_more}

pub never : IsTrue false → ⊥
never h = cc

module _ {X : Type 0} where
  pub all-more : (P : X → Type 0) (xs : List X) (i : ℕ) (x : X) → i < length xs
      → ((k : ℕ) (d : X) → k < i → P (get_or xs k d)) → P (get_or xs i x) → (k : ℕ) (d : X) → k < i + 1 → P (get_or xs k d)
  all-more P xs i x lt below here k d =
      below_more _ i (λ k h. below k d h) (subst P (get_or_default xs i x d lt) here) k

pub both-ways : {A B C : Type 0} → (A ↔ B) → (B ↔ C) → (A ↔ C)
both-ways f g = (λ a. g.0 (f.0 a), λ x. f.1 (g.1 x))

-- the list from the item at i on
pub from-item : {X : Type 0} (xs : List X) (i : ℕ) (x : X) → i < length xs → x ≡ get_or xs i x → drop i xs ≡ x ∷ drop (i + 1) xs
from-item xs i x lt is = drop_more xs i x lt ∙ ap (λ y. y ∷ drop (i + 1) xs) (sym is)

pub past-end : {X : Type 0} (i : ℕ) (xs : List X) → length xs ≤ i → drop i xs ≡ []
past-end zero [] le = refl
past-end (suc i) [] le = refl
past-end zero (x ∷ xs) le = absurd (omega (arith, le))
past-end (suc i) (x ∷ xs) le = past-end i xs (omega (arith, le))

pub of-ok : {T E : Type 0} (P Q : T → Type 0) (r : Result T E) → ((x : T) → P x → Q x) → IfOk r P → IfOk r Q
of-ok P Q (Ok x) f h = f x h
of-ok P Q (Err e) f h = h
