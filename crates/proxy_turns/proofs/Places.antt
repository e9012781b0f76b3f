-- What stands at a place of a list, and tests.
use Rattle.std.proofs.Common.{◌≡◌, ◌||◌, ◌<◌, ◌≤◌, ◌+◌, ℕ, zero, suc, List, [], ◌∷◌, ◌++◌, length, Bool, true, false, Option, Some, None, nat_lt, refl, sym, subst, arith}
use Rattle.std.proofs.lemmas.Bool.Decides.{nat_tests}
use Rattle.std.specs.Prelude.{slice_get, slice_set}
use Rattle.std.specs.Option.{ForSome}

-- ---- tests

pub or_false : (a b : Bool) → (a || b) ≡ false → (a ≡ false) × (b ≡ false)
or_false false b e = (refl, e)
or_false true b e = absurd (cc)

pub three_false : (a b c : Bool) → ((a || b) || c) ≡ false → (a ≡ false) × (b ≡ false) × (c ≡ false)
three_false a b c e = let f = or_false (a || b) c e in let g = or_false a b f.0 in (g.0, g.1, f.1)

pub four_false : (a b c d : Bool) → (((a || b) || c) || d) ≡ false → (a ≡ false) × (b ≡ false) × (c ≡ false) × (d ≡ false)
four_false a b c d e = let f = or_false ((a || b) || c) d e in let g = three_false a b c f.0 in (g.0, g.1, g.2, f.1)

-- whether anything moved after one more step, and where there is none
pub one_moved : (n : ℕ) (moved : Bool) → moved ≡ true → (nat_lt 0 n || moved) ≡ nat_lt 0 (n + 1)
one_moved n moved is = grind (arith, nat_tests, is)

pub none_moved : (n : ℕ) (moved : Bool) → moved ≡ false → (nat_lt 0 n || moved) ≡ nat_lt 0 n
none_moved n true is = absurd (cc)
none_moved n false is = last_none (nat_lt 0 n)
  where
    last_none : (b : Bool) → (b || false) ≡ b
    last_none true = refl
    last_none false = refl

pub some_after : (n : ℕ) → nat_lt 0 (n + 1) ≡ false → ⊥
some_after n none = grind (arith, nat_tests, none)

pub some_moved : (n m : ℕ) → suc m ≤ n → nat_lt 0 n ≡ true
some_moved n m le = grind (arith, nat_tests, le)

-- ---- what stands at a place of a list

-- a relation of what stood at each place and what stands there now
module _ {X : Type 0} (R : Option X → Option X → Type 0) where
  pub set_stays : ((o : Option X) → R o o) → (xs : List X) (k : ℕ) (x y : X) → slice_get xs k ≡ Some x → R (Some x) (Some y) → (j : ℕ) → R (slice_get xs j) (slice_get (slice_set xs k y) j)
  set_stays same [] k x y at r j = absurd (cc)
  set_stays same (z ∷ xs) zero x y at r zero = let P : Option X → Type 0 = λ o. R o (Some y) in subst P (sym at) r
  set_stays same (z ∷ xs) zero x y at r (suc j) = same (slice_get xs j)
  set_stays same (z ∷ xs) (suc k) x y at r zero = same (Some z)
  set_stays same (z ∷ xs) (suc k) x y at r (suc j) = set_stays same xs k x y at r j

  pub added_stays : ((o : Option X) → R o o) → (xs : List X) (y : X) → R None (Some y) → (j : ℕ) → R (slice_get xs j) (slice_get (xs ++ y ∷ []) j)
  added_stays same [] y r zero = r
  added_stays same [] y r (suc j) = same None
  added_stays same (z ∷ xs) y r zero = same (Some z)
  added_stays same (z ∷ xs) y r (suc j) = added_stays same xs y r j

pub past : {X : Type 0} (F : X → Type 0) (xs : List X) (k : ℕ) → length xs ≤ k → ForSome (slice_get xs k) F
past F [] k le x at = absurd (cc)
past F (y ∷ ys) zero le x at = absurd (omega (arith, le))
past F (y ∷ ys) (suc k) le x at = past F ys k (omega (arith, le)) x at

pub get_set : {X : Type 0} (xs : List X) (k : ℕ) (x y : X) → slice_get xs k ≡ Some x → slice_get (slice_set xs k y) k ≡ Some y
get_set [] k x y at = absurd (cc)
get_set (z ∷ xs) zero x y at = refl
get_set (z ∷ xs) (suc k) x y at = get_set xs k x y at

pub some_same : {X : Type 0} {o : Option X} {x y : X} → o ≡ Some x → o ≡ Some y → x ≡ y
some_same e f = cc

-- what holds of the item that was put there
pub set_at : {X : Type 0} (F : X → Type 0) (xs : List X) (k : ℕ) (x y : X) → slice_get xs k ≡ Some x → F y → ForSome (slice_get (slice_set xs k y) k) F
set_at F xs k x y at holds z there = subst F (some_same (get_set xs k x y at) there) holds

pub at_one : {X : Type 0} (F : X → Type 0) (xs : List X) (k : ℕ) (x : X) → slice_get xs k ≡ Some x → F x → ForSome (slice_get xs k) F
at_one F xs k x at holds z there = subst F (some_same at there) holds

-- a fact of each number below, and of the next
pub up_to : (F : ℕ → Type 0) (n : ℕ) → ((k : ℕ) → k < n → F k) → F n → (k : ℕ) → k < n + 1 → F k
up_to F zero before last zero lt = last
up_to F zero before last (suc k) lt = absurd (omega (arith, lt))
up_to F (suc n) before last zero lt = before zero (omega arith)
up_to F (suc n) before last (suc k) lt = up_to (λ j. F (suc j)) n (λ j l. before (suc j) (omega (arith, l))) last k (omega (arith, lt))

pub either_side : (F : ℕ → Type 0) (n : ℕ) → ((k : ℕ) → k < n → F k) → ((k : ℕ) → n ≤ k → F k) → (k : ℕ) → F k
either_side F zero below above k = above k (omega arith)
either_side F (suc n) below above zero = below zero (omega arith)
either_side F (suc n) below above (suc k) = either_side (λ j. F (suc j)) n (λ j l. below (suc j) (omega (arith, l))) (λ j l. above (suc j) (omega (arith, l))) k

-- where there is none, whatever holds
pub none_there : {X : Type 0} (F : X → Type 0) (o : Option X) → o ≡ None → ForSome o F
none_there F o none x is = absurd (cc)

-- the one that is there
pub one_there : {X : Type 0} (F : X → Type 0) (o : Option X) (x : X) → o ≡ Some x → F x → ForSome o F
one_there F o x is holds y there = subst F (some_same is there) holds
