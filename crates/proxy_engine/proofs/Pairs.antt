-- Two lists of one length, whose items are related place by place.
use Rattle.std.proofs.Common.{◌≡◌, ℕ, zero, suc, List, [], ◌∷◌, Bool, true, false, Option, Some, None, refl, sym, ap, ◌∙◌, subst, length}
use Rattle.std.specs.Prelude.{slice_get, slice_set}
use Rattle.proxy_lanes.specs.Ends.{ChangesAt}

pub some-same : {X : Type 0} (x y : X) → Some x ≡ Some y → x ≡ y
some-same x y e = cc

pub one-there : {X : Type 0} (o : Option X) (x y : X) → o ≡ Some x → o ≡ Some y → x ≡ y
one-there o x y p q = some-same x y (sym p ∙ q)

pub none-some : {X : Type 0} (o : Option X) (x : X) → o ≡ None → o ≡ Some x → ⊥
none-some o x p q = cc

pub not-both : (b : Bool) → b ≡ true → b ≡ false → ⊥
not-both b p q = cc

pub nothing-there : {X : Type 0} (k : ℕ) (x : X) → slice_get [] k ≡ Some x → ⊥
nothing-there k x e = cc

abbrev pub Pairs : {X : Type 0} → (X → X → Type 0) → List X → List X → Type 0
Pairs R [] [] = Unit {0}
Pairs R [] (y ∷ ys) = ⊥
Pairs R (x ∷ xs) [] = ⊥
Pairs R (x ∷ xs) (y ∷ ys) = R x y × Pairs R xs ys

pub pairs-itself : {X : Type 0} (R : X → X → Type 0) → ((x : X) → R x x) → (xs : List X) → Pairs R xs xs
pairs-itself R itself [] = tt
pairs-itself R itself (x ∷ xs) = (itself x, pairs-itself R itself xs)

pub pairs-after : {X : Type 0} (R : X → X → Type 0) → ((a b c : X) → R a b → R b c → R a c) → (a b c : List X) → Pairs R a b → Pairs R b c → Pairs R a c
pairs-after R after [] [] [] p q = tt
pairs-after R after [] [] (z ∷ zs) p q = absurd q
pairs-after R after [] (y ∷ ys) c p q = absurd p
pairs-after R after (x ∷ xs) [] c p q = absurd p
pairs-after R after (x ∷ xs) (y ∷ ys) [] p q = absurd q
pairs-after R after (x ∷ xs) (y ∷ ys) (z ∷ zs) p q = (after x y z p.0 q.0, pairs-after R after xs ys zs p.1 q.1)

-- one item changes
pub pairs-one : {X : Type 0} (R : X → X → Type 0) → ((x : X) → R x x) → (xs : List X) (k : ℕ) (x y : X) → slice_get xs k ≡ Some x → R x y → Pairs R xs (slice_set xs k y)
pairs-one R itself [] k x y e r = absurd (nothing-there k x e)
pairs-one R itself (z ∷ xs) zero x y e r = (subst (λ v. R v y) (some-same x z (sym e)) r, pairs-itself R itself xs)
pairs-one R itself (z ∷ xs) (suc k) x y e r = (itself z, pairs-one R itself xs k x y e r)

pub pairs-changed : {X : Type 0} (R S : X → X → Type 0) → ((x : X) → S x x) → ((x y : X) → R x y → S x y) → (old new : List X) (k : ℕ) → ChangesAt old k new R → Pairs S old new
pairs-changed R S itself makes old new k c = subst (λ xs. Pairs S old xs) (sym c.3) (pairs-one S itself old k c.0 c.1 c.2 (makes c.0 c.1 c.4))

pub pairs-count : {X : Type 0} (R : X → X → Type 0) (xs ys : List X) → Pairs R xs ys → length ys ≡ length xs
pairs-count R [] [] p = refl
pairs-count R [] (y ∷ ys) p = absurd p
pairs-count R (x ∷ xs) [] p = absurd p
pairs-count R (x ∷ xs) (y ∷ ys) p = ap suc (pairs-count R xs ys p.1)

-- what an item was before, and what it is later
pub pairs-from : {X : Type 0} (R : X → X → Type 0) (xs ys : List X) (k : ℕ) (y : X) → Pairs R xs ys → slice_get ys k ≡ Some y → (x : X) × (slice_get xs k ≡ Some x) × R x y
pairs-from R [] [] k y p e = absurd (nothing-there k y e)
pairs-from R [] (z ∷ ys) k y p e = absurd p
pairs-from R (x ∷ xs) [] k y p e = absurd p
pairs-from R (x ∷ xs) (z ∷ ys) zero y p e = (x, refl, subst (λ v. R x v) (some-same z y e) p.0)
pairs-from R (x ∷ xs) (z ∷ ys) (suc k) y p e = pairs-from R xs ys k y p.1 e

pub pairs-to : {X : Type 0} (R : X → X → Type 0) (xs ys : List X) (k : ℕ) (x : X) → Pairs R xs ys → slice_get xs k ≡ Some x → (y : X) × (slice_get ys k ≡ Some y) × R x y
pairs-to R [] ys k x p e = absurd (nothing-there k x e)
pairs-to R (z ∷ xs) [] k x p e = absurd p
pairs-to R (z ∷ xs) (y ∷ ys) zero x p e = (y, refl, subst (λ v. R v y) (some-same z x e) p.0)
pairs-to R (z ∷ xs) (y ∷ ys) (suc k) x p e = pairs-to R xs ys k x p.1 e

pub set-same : {X : Type 0} (xs : List X) (k : ℕ) (x y : X) → slice_get xs k ≡ Some x → slice_get (slice_set xs k y) k ≡ Some y
set-same [] k x y e = absurd (nothing-there k x e)
set-same (z ∷ xs) zero x y e = refl
set-same (z ∷ xs) (suc k) x y e = set-same xs k x y e
