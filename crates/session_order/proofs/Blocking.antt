-- Which part is the first of its slot, and which is the last.
use Rattle.std.proofs.Common.{◌≡◌, ◌≢◌, ◌<◌, ◌+◌, ◌++◌, ◌∷◌, [], ℕ, List, Bool, true, false, Some, zero, suc, inl, inr, length, take, sym, ap, subst, ◌∙◌, arith, rules, refl, nat_eq, ◌⊎◌}
use Rattle.std.specs.Prelude.{slice_get, slice_set}
use Rattle.std.specs.List.{list_any}
use Rattle.slot_hash.specs.Slot.{slot_of}
use Rattle.key_split.specs.PartModel.{PartModel}
use Rattle.session_order.specs.declared.queue.PartStage.{PartStage}
use Rattle.session_order.specs.declared.queue.PartStage.TheVariants.{Waiting, Out, Done}
use Rattle.session_order.specs.Turn.{blocks, MayPost}
use Rattle.session_order.specs.Tables.{in_front, open_parts, first_of, last_of}
use Rattle.session_order.proofs.Lists.{eqb-no, eqb-yes}
use Rattle.session_order.proofs.Opening.{first_if_free, free_if_first}
use Rattle.session_order.proofs.Chaining.{Avoids}

-- what stands at a place after another was set
pub set_back : {A : Type 0} (xs : List A) (i j : ℕ) (y z : A) → slice_get (slice_set xs i y) j ≡ Some z → ((j ≡ i) × (z ≡ y)) ⊎ ((j ≢ i) × (slice_get xs j ≡ Some z))
set_back [] i j y z at = cc
set_back (h ∷ xs) zero zero y z at = inl (refl, (let e : Some y ≡ Some z = at in search rules))
set_back (h ∷ xs) zero (suc j) y z at = inr (λ same. omega (arith, same), at)
set_back (h ∷ xs) (suc i) zero y z at = inr (λ same. omega (arith, same), at)
set_back (h ∷ xs) (suc i) (suc j) y z at =
    elim (set_back xs i j y z at) [ inl here ↦ inl (ap suc here.0, here.1) | inr there ↦ inr (λ same. there.0 (omega (arith, same)), there.1) ]

pub append_back : {A : Type 0} (xs : List A) (j : ℕ) (y z : A) → slice_get (xs ++ y ∷ []) j ≡ Some z → ((j ≡ length xs) × (z ≡ y)) ⊎ (slice_get xs j ≡ Some z)
append_back [] zero y z at = inl (refl, (let e : Some y ≡ Some z = at in search rules))
append_back [] (suc j) y z at = cc
append_back (h ∷ xs) zero y z at = inr at
append_back (h ∷ xs) (suc j) y z at = elim (append_back xs j y z at) [ inl here ↦ inl (omega (arith, here.0), here.1) | inr there ↦ inr there ]

pub nat_cases : (a b : ℕ) → (a ≡ b) ⊎ (a ≢ b)
nat_cases a b = elim (nat_eq a b) as (λ t. nat_eq a b ≡ t → (a ≡ b) ⊎ (a ≢ b)) [
  | true ↦ λ is. inl (search rules)
  | false ↦ λ is. inr (λ same. (let yes : nat_eq a b ≡ true = eqb-yes a b same in cc))
] refl

pub eq_from : (a b : ℕ) → nat_eq a b ≡ true → a ≡ b
eq_from a b is = search rules

pub waits : (part : PartModel) → blocks (slot_of part.key) (Waiting part) ≡ true
waits part = eqb-yes (slot_of part.key) (slot_of part.key) refl

-- a part whose turn it is is the first of its slot, and the other way round
pub may_first : (first i : ℕ) (stages : List PartStage) (part : PartModel) → slice_get stages i ≡ Some (Waiting part)
    → list_any (blocks (slot_of part.key)) (take i stages) ≡ false → first_of (open_parts (slot_of part.key) first stages) ≡ Some (first + i)
may_first first i stages part at free = first_if_free (slot_of part.key) first i (first + i) stages (Waiting part) refl at (waits part) free

pub first_may : (first i : ℕ) (stages : List PartStage) (part : PartModel) → slice_get stages i ≡ Some (Waiting part)
    → first_of (open_parts (slot_of part.key) first stages) ≡ Some (first + i) → MayPost stages i
first_may first i stages part at is = (part, at, free_if_first (slot_of part.key) first i (first + i) stages refl is)

-- a part that blocks one slot blocks no other
pub blocks_one : (slot other : ℕ) (s : PartStage) → blocks slot s ≡ true → slot ≢ other → blocks other s ≡ false
blocks_one slot other (Waiting part) is apart = eqb-no (slot_of part.key) other (λ same. apart (sym (eq_from (slot_of part.key) slot is) ∙ same))
blocks_one slot other (Out own) is apart = eqb-no own other (λ same. apart (sym (eq_from own slot is) ∙ same))
blocks_one slot other Done is apart = refl

-- the part of a number stands at its place and is for the slot
pub record At (slot first number : ℕ) (stages : List PartStage) : Type 0 where
  pub i : ℕ
  pub stage : PartStage
  pub numbered : number ≡ first + i
  pub there : slice_get stages i ≡ Some stage
  pub blocking : blocks slot stage ≡ true

later_at : (slot n m : ℕ) (s : PartStage) (ss : List PartStage) → At slot (suc n) m ss → At slot n m (s ∷ ss)
later_at slot n m s ss at = record { i = suc at.i; stage = at.stage; numbered = omega (arith, at.numbered); there = at.there; blocking = at.blocking }

at_in : (slot n m : ℕ) (s : PartStage) (ss : List PartStage) (b : Bool) → blocks slot s ≡ b → (first_of (open_parts slot (suc n) ss) ≡ Some m → At slot (suc n) m ss)
    → first_of (in_front b n (open_parts slot (suc n) ss)) ≡ Some m → At slot n m (s ∷ ss)
at_in slot n m s ss true is rest first = let e : n ≡ m = (let f : Some n ≡ Some m = first in search rules) in
    record { i = 0; stage = s; numbered = omega (arith, e); there = refl; blocking = is }
at_in slot n m s ss false is rest first = later_at slot n m s ss (rest first)

pub first_at : (slot n m : ℕ) (stages : List PartStage) → first_of (open_parts slot n stages) ≡ Some m → At slot n m stages
first_at slot n m [] is = cc
first_at slot n m (s ∷ ss) is = at_in slot n m s ss (blocks slot s) refl (first_at slot (suc n) m ss) is

last_in : (slot n m : ℕ) (s : PartStage) (ss : List PartStage) (b : Bool) (rest : List ℕ) → blocks slot s ≡ b → (last_of rest ≡ Some m → At slot (suc n) m ss)
    → last_of (in_front b n rest) ≡ Some m → At slot n m (s ∷ ss)
last_in slot n m s ss true [] is rest last = let e : n ≡ m = (let f : Some n ≡ Some m = last in search rules) in
    record { i = 0; stage = s; numbered = omega (arith, e); there = refl; blocking = is }
last_in slot n m s ss true (r ∷ rs) is rest last = later_at slot n m s ss (rest last)
last_in slot n m s ss false rs is rest last = later_at slot n m s ss (rest last)

pub last_at : (slot n m : ℕ) (stages : List PartStage) → last_of (open_parts slot n stages) ≡ Some m → At slot n m stages
last_at slot n m [] is = cc
last_at slot n m (s ∷ ss) is = last_in slot n m s ss (blocks slot s) (open_parts slot (suc n) ss) refl (last_at slot (suc n) m ss) is

avoids_in : (b : Bool) (n m : ℕ) (rest : List ℕ) → n ≢ m → Avoids m rest → Avoids m (in_front b n rest)
avoids_in true n m rest apart others = (apart, others)
avoids_in false n m rest apart others = others

avoids_low : (slot n m : ℕ) (stages : List PartStage) → m < n → Avoids m (open_parts slot n stages)
avoids_low slot n m [] less = tt
avoids_low slot n m (s ∷ ss) less = avoids_in (blocks slot s) n m (open_parts slot (suc n) ss) (λ same. omega (arith, same, less)) (avoids_low slot (suc n) m ss (omega (arith, less)))

-- a part that does not block the slot is none of its parts
pub avoids : (slot n i m : ℕ) (stages : List PartStage) (s : PartStage) → m ≡ n + i → slice_get stages i ≡ Some s → blocks slot s ≡ false → Avoids m (open_parts slot n stages)
avoids slot n i m [] s sum at free = cc
avoids slot n zero m (h ∷ ss) s sum at free =
    let is : h ≡ s = search rules in
    subst (λ (b : Bool). Avoids m (in_front b n (open_parts slot (suc n) ss))) (sym (ap (blocks slot) is ∙ free)) (avoids_low slot (suc n) m ss (omega (arith, sum)))
avoids slot n (suc i) m (h ∷ ss) s sum at free =
    avoids_in (blocks slot h) n m (open_parts slot (suc n) ss) (λ same. omega (arith, same, sum)) (avoids slot (suc n) i m ss s (omega (arith, sum)) at free)

pub first_more : (ns more : List ℕ) (m : ℕ) → first_of ns ≡ Some m → first_of (ns ++ more) ≡ Some m
first_more [] more m is = cc
first_more (n ∷ ns) more m is = is
