-- What is looked up in a list.
use Rattle.std.proofs.Common.{◌≡◌, ◌≢◌, ◌⊎◌, inl, inr, ℕ, zero, suc, ◌<◌, ◌≤◌, ◌==◌, ◌&&◌, not, List, [], ◌∷◌, length, take, Option, Some, None, Bool, true, false, refl, sym, ap, ◌∙◌, subst, arith, get_or}
use Rattle.std.specs.Prelude.{slice_get, slice_set, slice_index_or, position, nat_lt, cond, All}
use Rattle.std.specs.List.{position_or_len}
use Rattle.std.proofs.lemmas.Bool.Decides.{eqb_tells, nat_tests}
use Rattle.std.proofs.lemmas.List.Sums.{passes_at_first, fails_before_first, position_or_len_is}
use Rattle.std.proofs.lemmas.Option.{slice_get_read, get_or_from_slice_get, slice_get_within, slice_get-get_or}
use borrow.Author.Tests.{ltb-true}
use Rattle.world_laws.specs.World.{IsFirst}

pub at-place : {X : Type 0} (xs : List X) (i : ℕ) (x : X) → i < length xs → x ≡ slice_index_or xs i x → slice_get xs i ≡ Some x
at-place xs i x lt e = slice_get_read xs (length xs) i x refl lt e

-- what is written is what was there
pub set-itself : {X : Type 0} (xs : List X) (i : ℕ) (x : X) → slice_get xs i ≡ Some x → slice_set xs i x ≡ xs
set-itself [] i x e = absurd (cc)
set-itself (z ∷ xs) zero x e = let same : z ≡ x = cc in ap (λ y. y ∷ xs) (sym same)
set-itself (z ∷ xs) (suc i) x e = ap (λ ys. z ∷ ys) (set-itself xs i x e)

pub same-item : {X : Type 0} (xs : List X) (i : ℕ) (x y : X) → slice_get xs i ≡ Some x → slice_get xs i ≡ Some y → x ≡ y
same-item xs i x y e f = cc

pub first-same : {X : Type 0} (p : X → Bool) (xs : List X) (i j : ℕ) (x y : X) → IsFirst p xs i x → IsFirst p xs j y → (i ≡ j) × (x ≡ y)
first-same p xs i j x y a b =
    let pa : position p xs ≡ Some i = a.0 in
    let pb : position p xs ≡ Some j = b.0 in
    let same : i ≡ j = cc in
    let at : slice_get xs i ≡ slice_get xs j = ap (slice_get xs) same in
    let ga : slice_get xs i ≡ Some x = a.1 in
    let gb : slice_get xs j ≡ Some y = b.1 in
    (same, cc)

pub none-first : {X : Type 0} (p : X → Bool) (xs : List X) (i : ℕ) (x : X) → position p xs ≡ None → IsFirst p xs i x → ⊥
none-first p xs i x n a = let pa : position p xs ≡ Some i = a.0 in cc

-- the first that passes, by its place

pub place-within : {X : Type 0} (p : X → Bool) (xs : List X) (i : ℕ) → position p xs ≡ Some i → (position_or_len p xs ≡ i) × (i < length xs)
place-within p xs i e = go (nat_lt (position_or_len p xs) (length xs)) refl e
  where
    go : (b : Bool) → nat_lt (position_or_len p xs) (length xs) ≡ b → cond b (Some (position_or_len p xs)) None ≡ Some i → (position_or_len p xs ≡ i) × (i < length xs)
    go true t h = let same : position_or_len p xs ≡ i = cc in let lt : position_or_len p xs < length xs = ltb-true _ _ t in (same, omega (arith, same, lt))
    go false t h = absurd (cc)

pub first-at : {X : Type 0} (p : X → Bool) (xs : List X) (i : ℕ) (x : X) → position p xs ≡ Some i → x ≡ slice_index_or xs i x → IsFirst p xs i x
first-at p xs i x e is = (e, at-place xs i x (place-within p xs i e).1 is)

pub past-none : {X : Type 0} (xs : List X) (i : ℕ) → slice_get xs i ≡ None → length xs ≤ i
past-none [] i e = omega arith
past-none (x ∷ xs) zero e = absurd (cc)
past-none (x ∷ xs) (suc i) e = omega (arith, past-none xs i e)

pub first-there : {X : Type 0} (p : X → Bool) (xs : List X) (i : ℕ) → position p xs ≡ Some i → (x : X) × IsFirst p xs i x
first-there {X} p xs i e = go (slice_get xs i) refl
  where
    go : (o : Option X) → slice_get xs i ≡ o → (x : X) × IsFirst p xs i x
    go (Some x) at = (x, (e, at))
    go None none = absurd (let w = place-within p xs i e in omega (arith, w.1, past-none xs i none))

pub first-passes : {X : Type 0} (p : X → Bool) (xs : List X) (i : ℕ) (x : X) → IsFirst p xs i x → p x ≡ true
first-passes p xs i x h =
    let w = place-within p xs i h.0 in
    let lt : position_or_len p xs < length xs = omega (arith, w.0, w.1) in
    let item : get_or xs (position_or_len p xs) x ≡ x = ap (λ k. get_or xs k x) w.0 ∙ get_or_from_slice_get xs i x x h.1 in
    ap p (sym item) ∙ passes_at_first p xs x lt

-- what stands before the first that passes

pub none-before : {X : Type 0} (p : X → Bool) (xs : List X) (i : ℕ) → position p xs ≡ Some i → (k : ℕ) (x : X) → k < i → slice_get xs k ≡ Some x → p x ≡ false
none-before p xs i e k x lt at =
    let w = place-within p xs i e in
    ap p (sym (get_or_from_slice_get xs k x x at)) ∙ fails_before_first p xs k x (omega (arith, w.0, lt))

pub first-is : {X : Type 0} (p : X → Bool) (xs : List X) (i : ℕ) (x : X) → slice_get xs i ≡ Some x → p x ≡ true → ((k : ℕ) (y : X) → k < i → slice_get xs k ≡ Some y → p y ≡ false) → position p xs ≡ Some i
first-is p xs i x at yes' no' =
    let lt : i < length xs = slice_get_within xs i x at in
    let e : position_or_len p xs ≡ i = position_or_len_is p xs i x (omega arith) (λ k l. no' k (get_or xs k x) l (slice_get-get_or xs k x (omega arith))) (λ _. ap p (get_or_from_slice_get xs i x x at) ∙ yes') in
    let t : nat_lt i (length xs) ≡ true = grind (arith, nat_tests) in
    ap (λ n. cond (nat_lt n (length xs)) (Some n) None) e ∙ ap (λ b. cond b (Some i) None) t

pub all-before : {X : Type 0} (P : X → Type 0) (xs : List X) (n : ℕ) → ((k : ℕ) (x : X) → k < n → slice_get xs k ≡ Some x → P x) → All P (take n xs)
all-before P [] zero f k d lt = absurd (omega arith)
all-before P [] (suc n) f k d lt = absurd (omega arith)
all-before P (x ∷ xs) zero f k d lt = absurd (omega arith)
all-before P (x ∷ xs) (suc n) f zero d lt = f 0 x (omega arith) refl
all-before P (x ∷ xs) (suc n) f (suc k) d lt = all-before P xs n (λ j y l e. f (suc j) y (omega arith) e) k d (omega arith)

pub before-all : {X : Type 0} (P : X → Type 0) (xs : List X) (n i : ℕ) (x : X) → All P (take n xs) → i < n → slice_get xs i ≡ Some x → P x
before-all P [] n i x h lt e = absurd (cc)
before-all P (z ∷ xs) zero i x h lt e = absurd (omega arith)
before-all P (z ∷ xs) (suc n) zero x h lt e = let same : z ≡ x = cc in subst P same (h 0 z (omega arith))
before-all P (z ∷ xs) (suc n) (suc i) x h lt e = before-all P xs n i x (λ k d lt'. h (suc k) d (omega arith)) (omega arith) e

-- a client's command that was not answered

pub open-so : (t n : ℕ) (b : Bool) → ((t == n) && not b) ≡ true → (t ≡ n) × (b ≡ false)
open-so t n true e = grind (arith, nat_tests)
open-so t n false e = (grind (arith, nat_tests), refl)

pub closed-so : (t n : ℕ) (b : Bool) → ((t == n) && not b) ≡ false → t ≡ n → b ≡ true
closed-so t n true e s = refl
closed-so t n false e s = grind (arith, nat_tests)

pub so-open : (t n : ℕ) (b : Bool) → t ≡ n → b ≡ false → ((t == n) && not b) ≡ true
so-open t n true s e = absurd (cc)
so-open t n false s e = grind (arith, nat_tests)

pub so-closed : (t n : ℕ) (b : Bool) → (t ≡ n → b ≡ true) → ((t == n) && not b) ≡ false
so-closed t n true h = grind (arith, nat_tests)
so-closed t n false h = go (t == n) (eqb_tells t n)
  where
    go : (x : Bool) → ((x ≡ true) × (t ≡ n)) ⊎ ((x ≡ false) × (t ≢ n)) → (x && true) ≡ false
    go true (inl y) = let no : false ≡ true = h y.1 in absurd (cc)
    go true (inr y) = absurd (cc)
    go false y = refl
