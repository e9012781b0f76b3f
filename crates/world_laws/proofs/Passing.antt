-- The elements of a list that pass a test.
use Rattle.std.proofs.Common.{◌≡◌, ℕ, zero, suc, ◌<◌, Bool, true, false, List, [], ◌∷◌, ◌++◌, Some, refl, sym, ap, ◌∙◌, subst, arith}
use Rattle.std.specs.Prelude.{if◌then◌else◌}
use Rattle.world_laws.specs.Headline.{At}

-- the elements that pass, in order
abbrev pub keep : {X : Type 0} → (X → Bool) → List X → List X
keep p [] = []
keep p (x ∷ xs) = if p x then x ∷ keep p xs else keep p xs

-- how many pass before a place
abbrev pub rank : {X : Type 0} → (X → Bool) → List X → ℕ → ℕ
rank p [] k = 0
rank p (x ∷ xs) zero = 0
rank p (x ∷ xs) (suc k) = if p x then suc (rank p xs k) else rank p xs k

pub keep-joins : {X : Type 0} (p : X → Bool) (xs ys : List X) → keep p (xs ++ ys) ≡ keep p xs ++ keep p ys
keep-joins p [] ys = refl
keep-joins {X} p (x ∷ xs) ys = go (p x) (keep p (xs ++ ys)) (keep-joins p xs ys)
  where
    go : (b : Bool) (zs : List X) → zs ≡ keep p xs ++ keep p ys → (if b then x ∷ zs else zs) ≡ (if b then x ∷ keep p xs else keep p xs) ++ keep p ys
    go true zs e = ap (λ ws. x ∷ ws) e
    go false zs e = e

pub keep-all : {X : Type 0} (p : X → Bool) (xs : List X) → ((k : ℕ) (x : X) → At xs k x → p x ≡ true) → keep p xs ≡ xs
keep-all p [] h = refl
keep-all p (x ∷ xs) h = (λ i. if h 0 x refl i then x ∷ keep p xs else keep p xs) ∙ ap (λ ys. x ∷ ys) (keep-all p xs (λ k y e. h (suc k) y e))

pub keep-none : {X : Type 0} (p : X → Bool) (xs : List X) → ((k : ℕ) (x : X) → At xs k x → p x ≡ false) → keep p xs ≡ []
keep-none p [] h = refl
keep-none p (x ∷ xs) h = (λ i. if h 0 x refl i then x ∷ keep p xs else keep p xs) ∙ keep-none p xs (λ k y e. h (suc k) y e)

pub kept-at : {X : Type 0} (p : X → Bool) (xs : List X) (k : ℕ) (x : X) → At xs k x → p x ≡ true → At (keep p xs) (rank p xs k) x
kept-at p [] k x e y = absurd (cc)
kept-at p (z ∷ xs) zero x e y =
    let same : z ≡ x = cc in
    subst (λ b. At (if b then z ∷ keep p xs else keep p xs) 0 x) (sym (ap p same ∙ y)) (ap Some same)
kept-at {X} p (z ∷ xs) (suc k) x e y = go (p z) (kept-at p xs k x e y)
  where
    go : (b : Bool) → At (keep p xs) (rank p xs k) x → At (if b then z ∷ keep p xs else keep p xs) (if b then suc (rank p xs k) else rank p xs k) x
    go true h = h
    go false h = h

pub rank-up : {X : Type 0} (p : X → Bool) (xs : List X) (k l : ℕ) (x : X) → At xs k x → p x ≡ true → k < l → rank p xs k < rank p xs l
rank-up p [] k l x e y lt = absurd (cc)
rank-up p (z ∷ xs) k zero x e y lt = absurd (omega arith)
rank-up p (z ∷ xs) zero (suc l) x e y lt =
    let same : z ≡ x = cc in
    subst (λ b. 0 < (if b then suc (rank p xs l) else rank p xs l)) (sym (ap p same ∙ y)) (omega arith)
rank-up {X} p (z ∷ xs) (suc k) (suc l) x e y lt = go (p z) (rank-up p xs k l x e y (omega arith))
  where
    go : (b : Bool) → rank p xs k < rank p xs l → (if b then suc (rank p xs k) else rank p xs k) < (if b then suc (rank p xs l) else rank p xs l)
    go true h = omega (arith, h)
    go false h = h

pub of-keep : {X : Type 0} (p : X → Bool) (xs : List X) (j : ℕ) (x : X) → At (keep p xs) j x → (k : ℕ) × At xs k x × (p x ≡ true)
of-keep p [] j x e = absurd (cc)
of-keep {X} p (z ∷ xs) j x e = go (p z) refl j e (of-keep p xs)
  where
    go : (b : Bool) → p z ≡ b → (j : ℕ) → At (if b then z ∷ keep p xs else keep p xs) j x → ((j : ℕ) (x : X) → At (keep p xs) j x → (k : ℕ) × At xs k x × (p x ≡ true)) → (k : ℕ) × At (z ∷ xs) k x × (p x ≡ true)
    go true y zero e rest = let same : z ≡ x = cc in (0, ap Some same, ap p (sym same) ∙ y)
    go true y (suc j) e rest = let r = rest j x e in (suc r.0, r.1, r.2)
    go false y j e rest = let r = rest j x e in (suc r.0, r.1, r.2)
