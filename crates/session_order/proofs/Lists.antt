-- On lists: what stands at a place, and what passes a test.
use Rattle.std.proofs.Common.{◌≡◌, ◌≢◌, ◌++◌, ◌∷◌, [], ◌+◌, ◌≤◌, ◌<◌, ℕ, List, Bool, true, false, Some, zero, suc, take, drop, sym, ap, subst, ◌∙◌, length, arith, rules, refl, ◌||◌, ◌&&◌, nat_eq}
use Rattle.std.specs.Prelude.{slice_get, slice_set}
use Rattle.std.specs.List.{list_any, list_all}
use Rattle.std.proofs.lemmas.Bool.{eqb-false}

pub eqb-no : (a b : ℕ) → (a ≡ b → ⊥) → nat_eq a b ≡ false
eqb-no a b apart = elim (nat_eq a b) as (λ t. nat_eq a b ≡ t → nat_eq a b ≡ false) [ true ↦ λ is. absurd (apart (search rules)) | false ↦ λ is. is ] refl

pub eqb-yes : (a b : ℕ) → a ≡ b → nat_eq a b ≡ true
eqb-yes a b same = elim (nat_eq a b) as (λ t. nat_eq a b ≡ t → nat_eq a b ≡ true) [ true ↦ λ is. is | false ↦ λ is. absurd (eqb-false a b is same) ] refl

any_set_here : (b b' rest : Bool) → (b ≡ false → b' ≡ false) → b || rest ≡ false → b' || rest ≡ false
any_set_here true b' rest less none = cc
any_set_here false b' rest less none = rw (less refl) none

any_set_later : (b rest rest' : Bool) → (rest ≡ false → rest' ≡ false) → b || rest ≡ false → b || rest' ≡ false
any_set_later true rest rest' less none = cc
any_set_later false rest rest' less none = less none

-- another item at j that passes the test no more than the one before
pub any_set : {A : Type 0} (p : A → Bool) (xs : List A) (i j : ℕ) (x y : A) → slice_get xs j ≡ Some x → (p x ≡ false → p y ≡ false)
    → list_any p (take i xs) ≡ false → list_any p (take i (slice_set xs j y)) ≡ false
any_set p [] i j x y at less none = none
any_set p (h ∷ xs) zero j x y at less none = refl
any_set p (h ∷ xs) (suc i) zero x y at less none =
    let same : h ≡ x = search rules in
    any_set_here (p h) (p y) (list_any p (take i xs)) (λ no. less (subst (λ z. p z ≡ false) same no)) none
any_set p (h ∷ xs) (suc i) (suc j) x y at less none =
    any_set_later (p h) (list_any p (take i xs)) (list_any p (take i (slice_set xs j y))) (any_set p xs i j x y at less) none

-- the others stay
pub get_set_other : {A : Type 0} (xs : List A) (i j : ℕ) (y z : A) → j ≢ i → slice_get xs j ≡ Some z → slice_get (slice_set xs i y) j ≡ Some z
get_set_other [] i j y z other at = at
get_set_other (h ∷ xs) zero zero y z other at = absurd (other refl)
get_set_other (h ∷ xs) zero (suc j) y z other at = at
get_set_other (h ∷ xs) (suc i) zero y z other at = at
get_set_other (h ∷ xs) (suc i) (suc j) y z other at = get_set_other xs i j y z (λ same. other (ap suc same)) at

pub get_set_same : {A : Type 0} (xs : List A) (i : ℕ) (x y : A) → slice_get xs i ≡ Some x → slice_get (slice_set xs i y) i ≡ Some y
get_set_same [] i x y at = cc
get_set_same (h ∷ xs) zero x y at = refl
get_set_same (h ∷ xs) (suc i) x y at = get_set_same xs i x y at

pub get_append : {A : Type 0} (xs more : List A) (i : ℕ) (x : A) → slice_get xs i ≡ Some x → slice_get (xs ++ more) i ≡ Some x
get_append [] more i x at = cc
get_append (h ∷ xs) more zero x at = at
get_append (h ∷ xs) more (suc i) x at = get_append xs more i x at

pub get_drop : {A : Type 0} (xs : List A) (n i k : ℕ) → k ≡ n + i → slice_get (drop n xs) i ≡ slice_get xs k
get_drop xs zero i k sum = let same : k ≡ i = omega (arith, sum) in rw same refl
get_drop [] (suc n) i k sum = refl
get_drop (h ∷ xs) (suc n) i zero sum = absurd (omega (arith, sum))
get_drop (h ∷ xs) (suc n) i (suc k) sum = get_drop xs n i k (omega (arith, sum))

any_rest : (b rest : Bool) → b || rest ≡ false → rest ≡ false
any_rest true rest none = cc
any_rest false rest none = none

pub any_drop : {A : Type 0} (p : A → Bool) (xs : List A) (n i k : ℕ) → k ≡ n + i → list_any p (take k xs) ≡ false → list_any p (take i (drop n xs)) ≡ false
any_drop p xs zero i k sum none = let same : i ≡ k = omega (arith, sum) in rw same none
any_drop p [] (suc n) zero k sum none = refl
any_drop p [] (suc n) (suc i) k sum none = refl
any_drop p (h ∷ xs) (suc n) i zero sum none = absurd (omega (arith, sum))
any_drop p (h ∷ xs) (suc n) i (suc k) sum none = any_drop p xs n i k (omega (arith, sum)) (any_rest (p h) (list_any p (take k xs)) none)

all_first : (b rest : Bool) → b && rest ≡ true → b ≡ true
all_first true rest all = refl
all_first false rest all = all

all_rest : (b rest : Bool) → b && rest ≡ true → rest ≡ true
all_rest true rest all = all
all_rest false rest all = cc

-- what does not pass stands behind those that do
pub stands_behind : {A : Type 0} (p : A → Bool) (xs : List A) (n i : ℕ) (x : A) → list_all p (take n xs) ≡ true → slice_get xs i ≡ Some x → p x ≡ false → n ≤ i
stands_behind p xs zero i x all at fails = omega arith
stands_behind p [] (suc n) i x all at fails = cc
stands_behind p (h ∷ xs) (suc n) zero x all at fails =
    let same : h ≡ x = search rules in
    let yes : p x ≡ true = subst (λ z. p z ≡ true) same (all_first (p h) (list_all p (take n xs)) all) in cc
stands_behind p (h ∷ xs) (suc n) (suc i) x all at fails =
    omega (arith, stands_behind p xs n i x (all_rest (p h) (list_all p (take n xs)) all) at fails)

all_both : (b rest : Bool) → b ≡ true → rest ≡ true → b && rest ≡ true
all_both true rest one others = others
all_both false rest one others = one

pub all_take : {A : Type 0} (p : A → Bool) (xs : List A) (n m k : ℕ) → k ≡ n + m → list_all p (take n xs) ≡ true → list_all p (take m (drop n xs)) ≡ true
    → list_all p (take k xs) ≡ true
all_take p xs zero m k sum front back = let same : k ≡ m = omega (arith, sum) in rw same back
all_take p [] (suc n) m zero sum front back = refl
all_take p [] (suc n) m (suc k) sum front back = refl
all_take p (h ∷ xs) (suc n) m zero sum front back = refl
all_take p (h ∷ xs) (suc n) m (suc k) sum front back =
    all_both (p h) (list_all p (take k xs)) (all_first (p h) (list_all p (take n xs)) front)
    (all_take p xs n m k (omega (arith, sum)) (all_rest (p h) (list_all p (take n xs)) front) back)

-- ---- what stands before a place

-- two items that stand at one place are one
pub one_of : {A : Type 0} (xs : List A) (i : ℕ) (x y : A) → slice_get xs i ≡ Some x → slice_get xs i ≡ Some y → x ≡ y
one_of xs i x y a b = (let e : Some x ≡ Some y = sym a ∙ b in search rules)

pub get_take : {A : Type 0} (xs : List A) (n i : ℕ) (x : A) → slice_get xs i ≡ Some x → i < n → slice_get (take n xs) i ≡ Some x
get_take [] n i x at less = cc
get_take (h ∷ xs) zero i x at less = absurd (omega (arith, less))
get_take (h ∷ xs) (suc n) zero x at less = at
get_take (h ∷ xs) (suc n) (suc i) x at less = get_take xs n i x at (omega (arith, less))

pub get_taken : {A : Type 0} (xs : List A) (n i : ℕ) (x : A) → slice_get (take n xs) i ≡ Some x → (slice_get xs i ≡ Some x) × (i < n)
get_taken [] zero i x at = cc
get_taken [] (suc n) i x at = cc
get_taken (h ∷ xs) zero i x at = cc
get_taken (h ∷ xs) (suc n) zero x at = (at, omega arith)
get_taken (h ∷ xs) (suc n) (suc i) x at = (let more = get_taken xs n i x at in (more.0, omega (arith, more.1)))

pub some_at : {A : Type 0} (xs : List A) (i : ℕ) → i < length xs → (x : A) × (slice_get xs i ≡ Some x)
some_at [] i within = absurd (omega (arith, within))
some_at (h ∷ xs) zero within = (h, refl)
some_at (h ∷ xs) (suc i) within = some_at xs i (omega (arith, within))

pub set_same : {A : Type 0} (xs : List A) (i : ℕ) (x : A) → slice_get xs i ≡ Some x → slice_set xs i x ≡ xs
set_same [] i x at = refl
set_same (h ∷ xs) zero x at = (let is : h ≡ x = search rules in ap (λ y. y ∷ xs) (sym is))
set_same (h ∷ xs) (suc i) x at = ap (λ ys. h ∷ ys) (set_same xs i x at)

-- another item behind changes nothing
pub take_set : {A : Type 0} (xs : List A) (i : ℕ) (y : A) → take i (slice_set xs i y) ≡ take i xs
take_set [] i y = refl
take_set (h ∷ xs) zero y = refl
take_set (h ∷ xs) (suc i) y = ap (λ ys. h ∷ ys) (take_set xs i y)

any_here : (b rest : Bool) → b || rest ≡ false → b ≡ false
any_here true rest none = cc
any_here false rest none = refl

any_none : (b rest : Bool) → b ≡ false → rest ≡ false → b || rest ≡ false
any_none true rest not none = cc
any_none false rest not none = none

-- where none passes, an item before does not
pub any_at : {A : Type 0} (p : A → Bool) (xs : List A) (n i : ℕ) (x : A) → list_any p (take n xs) ≡ false → slice_get xs i ≡ Some x → i < n → p x ≡ false
any_at p [] n i x none at less = cc
any_at p (h ∷ xs) zero i x none at less = absurd (omega (arith, less))
any_at p (h ∷ xs) (suc n) zero x none at less =
    let same : h ≡ x = search rules in
    subst (λ z. p z ≡ false) same (any_here (p h) (list_any p (take n xs)) none)
any_at p (h ∷ xs) (suc n) (suc i) x none at less = any_at p xs n i x (any_rest (p h) (list_any p (take n xs)) none) at (omega (arith, less))

-- where none of some passes, none of fewer does
pub any_fewer : {A : Type 0} (p : A → Bool) (xs : List A) (n m : ℕ) → m ≤ n → list_any p (take n xs) ≡ false → list_any p (take m xs) ≡ false
any_fewer p [] n m le none = let empty : list_any p (take m []) ≡ list_any p (take n []) = any_nil p m ∙ sym (any_nil p n) in empty ∙ none
  where
    any_nil : {A : Type 0} (p : A → Bool) (k : ℕ) → list_any p (take k []) ≡ false
    any_nil p zero = refl
    any_nil p (suc k) = refl
any_fewer p (h ∷ xs) n zero le none = refl
any_fewer p (h ∷ xs) zero (suc m) le none = absurd (omega (arith, le))
any_fewer p (h ∷ xs) (suc n) (suc m) le none =
    any_none (p h) (list_any p (take m xs)) (any_here (p h) (list_any p (take n xs)) none) (any_fewer p xs n m (omega (arith, le)) (any_rest (p h) (list_any p (take n xs)) none))

-- what passes no less than another test
pub any_weaker : {A : Type 0} (p q : A → Bool) (xs : List A) → ((x : A) → p x ≡ false → q x ≡ false) → list_any p xs ≡ false → list_any q xs ≡ false
any_weaker p q [] less none = refl
any_weaker p q (h ∷ xs) less none =
    any_none (q h) (list_any q xs) (less h (any_here (p h) (list_any p xs) none)) (any_weaker p q xs less (any_rest (p h) (list_any p xs) none))

-- none before an item, not the item, none of a number of items behind it
pub any_around : {A : Type 0} (p : A → Bool) (xs : List A) (i k n : ℕ) (x : A) → n ≡ suc i + k → slice_get xs i ≡ Some x → list_any p (take i xs) ≡ false → p x ≡ false
    → list_any p (take k (drop (suc i) xs)) ≡ false → list_any p (take n xs) ≡ false
any_around p [] i k n x sum at fore not aft = cc
any_around p (h ∷ xs) i k zero x sum at fore not aft = absurd (omega (arith, sum))
any_around p (h ∷ xs) zero k (suc n) x sum at fore not aft =
    let same : h ≡ x = search rules in
    let len : k ≡ n = omega (arith, sum) in
    any_none (p h) (list_any p (take n xs)) (subst (λ z. p z ≡ false) (sym same) not) (subst (λ m. list_any p (take m xs) ≡ false) len aft)
any_around p (h ∷ xs) (suc i) k (suc n) x sum at fore not aft =
    any_none (p h) (list_any p (take n xs)) (any_here (p h) (list_any p (take i xs)) fore) (any_around p xs i k n x (omega (arith, sum)) at (any_rest (p h) (list_any p (take i xs)) fore) not aft)

-- where none of the items passes
pub any_all : {A : Type 0} (p : A → Bool) (xs : List A) (n : ℕ) → ((j : ℕ) (x : A) → slice_get xs j ≡ Some x → j < n → p x ≡ false) → list_any p (take n xs) ≡ false
any_all p [] zero none = refl
any_all p [] (suc n) none = refl
any_all p (h ∷ xs) zero none = refl
any_all p (h ∷ xs) (suc n) none = any_none (p h) (list_any p (take n xs)) (none 0 h refl (omega arith)) (any_all p xs n (λ j x at less. none (suc j) x at (omega (arith, less))))
