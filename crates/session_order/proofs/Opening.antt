-- The parts of a slot that have not ended, in order, as the parts change.
use Rattle.std.proofs.Common.{◌≡◌, ◌≤◌, ◌<◌, ◌+◌, ◌++◌, ◌∷◌, [], ℕ, List, Bool, true, false, Some, zero, suc, inl, inr, length, take, drop, sym, ap, ◌∙◌, arith, rules, refl, ◌||◌, ◌&&◌, ◌⊎◌}
use Rattle.std.specs.Prelude.{slice_get, slice_set, is_some}
use Rattle.std.specs.List.{list_any, list_all}
use Rattle.session_order.specs.declared.queue.PartStage.{PartStage}
use Rattle.session_order.specs.declared.queue.PartStage.TheVariants.{Waiting, Out, Done}
use Rattle.session_order.specs.Turn.{is_done, blocks}
use Rattle.session_order.specs.Tables.{in_front, open_parts, first_of, last_of, last_behind}

-- a part at the front that blocks is the first
abbrev pub parts_at : Bool → ℕ → List ℕ → List ℕ
parts_at b n rest = in_front b n rest

-- another stage that blocks the slot as the one before changes nothing
pub open_set : (slot n i : ℕ) (stages : List PartStage) (s s' : PartStage) → slice_get stages i ≡ Some s → blocks slot s' ≡ blocks slot s
    → open_parts slot n (slice_set stages i s') ≡ open_parts slot n stages
open_set slot n i [] s s' at same = cc
open_set slot n zero (h ∷ ss) s s' at same =
    let is : h ≡ s = search rules in
    ap (λ (b : Bool). in_front b n (open_parts slot (suc n) ss)) (same ∙ ap (blocks slot) (sym is))
open_set slot n (suc i) (h ∷ ss) s s' at same = ap (in_front (blocks slot h) n) (open_set slot (suc n) i ss s s' at same)

first_in : (b : Bool) (n m : ℕ) (rest : List ℕ) → first_of (in_front b n rest) ≡ Some m → (m ≡ n) ⊎ ((b ≡ false) × (first_of rest ≡ Some m))
first_in true n m rest is = let e : Some n ≡ Some m = is in inl (search rules)
first_in false n m rest is = inr (refl, is)

above_in : (b : Bool) (n m : ℕ) (rest : List ℕ) → (first_of rest ≡ Some m → n < m) → first_of (in_front b n rest) ≡ Some m → n ≤ m
above_in true n m rest h is = let e : n ≡ m = (let f : Some n ≡ Some m = is in search rules) in omega (arith, e)
above_in false n m rest h is = omega (arith, h is)

-- the first is one of the parts
pub first_above : (slot n m : ℕ) (stages : List PartStage) → first_of (open_parts slot n stages) ≡ Some m → n ≤ m
first_above slot n m [] is = cc
first_above slot n m (s ∷ ss) is = above_in (blocks slot s) n m (open_parts slot (suc n) ss) (λ h. omega (arith, first_above slot (suc n) m ss h)) is

any_first : (b rest : Bool) → b || rest ≡ false → (b ≡ false) × (rest ≡ false)
any_first true rest none = cc
any_first false rest none = (refl, none)

-- the part at i is the first of its slot where no earlier one blocks it
pub first_if_free : (slot n i k : ℕ) (stages : List PartStage) (s : PartStage) → k ≡ n + i → slice_get stages i ≡ Some s → blocks slot s ≡ true
    → list_any (blocks slot) (take i stages) ≡ false → first_of (open_parts slot n stages) ≡ Some k
first_if_free slot n i k [] s sum at blocking free = cc
first_if_free slot n zero k (h ∷ ss) s sum at blocking free =
    let is : h ≡ s = search rules in
    let here : k ≡ n = omega (arith, sum) in
    ap (λ (b : Bool). first_of (in_front b n (open_parts slot (suc n) ss))) (ap (blocks slot) is ∙ blocking) ∙ ap Some (sym here)
first_if_free slot n (suc i) k (h ∷ ss) s sum at blocking free =
    let both = any_first (blocks slot h) (list_any (blocks slot) (take i ss)) free in
    ap (λ (b : Bool). first_of (in_front b n (open_parts slot (suc n) ss))) both.0
    ∙ first_if_free slot (suc n) i k ss s (omega (arith, sum)) at blocking both.1

-- and no earlier one blocks it where it is the first
pub free_if_first : (slot n i k : ℕ) (stages : List PartStage) → k ≡ n + i → first_of (open_parts slot n stages) ≡ Some k → list_any (blocks slot) (take i stages) ≡ false
free_if_first slot n zero k stages sum is = refl
free_if_first slot n (suc i) k [] sum is = refl
free_if_first slot n (suc i) k (h ∷ ss) sum is =
    elim (first_in (blocks slot h) n k (open_parts slot (suc n) ss) is) [
      | inl same ↦ absurd (omega (arith, same, sum))
      | inr rest ↦ ap (λ (b : Bool). b || list_any (blocks slot) (take i ss)) rest.0 ∙ free_if_first slot (suc n) i k ss (omega (arith, sum)) rest.1
    ]

push_in : (b : Bool) (n : ℕ) (rest more : List ℕ) → in_front b n (rest ++ more) ≡ in_front b n rest ++ more
push_in true n rest more = refl
push_in false n rest more = refl

-- more parts stand behind
pub open_append : (slot n k : ℕ) (stages more : List PartStage) → k ≡ n + length stages → open_parts slot n (stages ++ more) ≡ open_parts slot n stages ++ open_parts slot k more
open_append slot n k [] more sum = let same : n ≡ k = omega (arith, sum) in ap (λ m. open_parts slot m more) same
open_append slot n k (s ∷ ss) more sum =
    ap (in_front (blocks slot s) n) (open_append slot (suc n) k ss more (omega (arith, sum))) ∙ push_in (blocks slot s) n (open_parts slot (suc n) ss) (open_parts slot k more)

done_blocks : (slot : ℕ) (s : PartStage) → is_done s ≡ true → blocks slot s ≡ false
done_blocks slot (Waiting part) is = cc
done_blocks slot (Out own) is = cc
done_blocks slot Done is = refl

all_both : (b rest : Bool) → b && rest ≡ true → (b ≡ true) × (rest ≡ true)
all_both true rest all = (refl, all)
all_both false rest all = cc

-- parts that are done leave
pub open_drop : (slot n k count : ℕ) (stages : List PartStage) → k ≡ n + count → list_all is_done (take count stages) ≡ true → count ≤ length stages
    → open_parts slot k (drop count stages) ≡ open_parts slot n stages
open_drop slot n k zero stages sum done fits = let same : k ≡ n = omega (arith, sum) in ap (λ m. open_parts slot m stages) same
open_drop slot n k (suc count) [] sum done fits = absurd (omega (arith, fits))
open_drop slot n k (suc count) (s ∷ ss) sum done fits =
    let both = all_both (is_done s) (list_all is_done (take count ss)) done in
    open_drop slot (suc n) k count ss (omega (arith, sum)) both.1 (omega (arith, fits))
    ∙ ap (λ (b : Bool). in_front b n (open_parts slot (suc n) ss)) (sym (done_blocks slot s both.0))

-- ---- the parts before one and the parts behind it

pub open_around : (slot n i k : ℕ) (stages : List PartStage) (s : PartStage) → k ≡ n + i → slice_get stages i ≡ Some s → blocks slot s ≡ true
    → open_parts slot n stages ≡ open_parts slot n (take i stages) ++ k ∷ open_parts slot (suc k) (drop (suc i) stages)
open_around slot n i k [] s sum at own = cc
open_around slot n zero k (h ∷ ss) s sum at own =
    let is : h ≡ s = search rules in
    let here : n ≡ k = omega (arith, sum) in
    ap (λ (b : Bool). in_front b n (open_parts slot (suc n) ss)) (ap (blocks slot) is ∙ own) ∙ ap (λ m. m ∷ open_parts slot (suc m) ss) here
open_around slot n (suc i) k (h ∷ ss) s sum at own =
    ap (in_front (blocks slot h) n) (open_around slot (suc n) i k ss s (omega (arith, sum)) at own)
    ∙ push_in (blocks slot h) n (open_parts slot (suc n) (take i ss)) (k ∷ open_parts slot (suc k) (drop (suc i) ss))

-- without the one
pub open_left : (slot n i k : ℕ) (stages : List PartStage) (s : PartStage) → k ≡ n + i → slice_get stages i ≡ Some s
    → open_parts slot n (slice_set stages i Done) ≡ open_parts slot n (take i stages) ++ open_parts slot (suc k) (drop (suc i) stages)
open_left slot n i k [] s sum at = cc
open_left slot n zero k (h ∷ ss) s sum at =
    let here : n ≡ k = omega (arith, sum) in
    ap (λ m. open_parts slot (suc m) ss) here
open_left slot n (suc i) k (h ∷ ss) s sum at =
    ap (in_front (blocks slot h) n) (open_left slot (suc n) i k ss s (omega (arith, sum)) at)
    ∙ push_in (blocks slot h) n (open_parts slot (suc n) (take i ss)) (open_parts slot (suc k) (drop (suc i) ss))

-- where those behind a place have ended, those before it are all
pub open_take : (slot n count : ℕ) (stages : List PartStage) → ((j : ℕ) (s : PartStage) → slice_get stages j ≡ Some s → count ≤ j → is_done s ≡ true)
    → open_parts slot n (take count stages) ≡ open_parts slot n stages
open_take slot n zero [] done = refl
open_take slot n (suc count) [] done = refl
open_take slot n zero (h ∷ ss) done =
    none_taken ss (open_take slot (suc n) zero ss (λ j s at le. done (suc j) s at (omega arith)))
    ∙ sym (ap (λ (b : Bool). in_front b n (open_parts slot (suc n) ss)) (done_blocks slot h (done 0 h refl (omega arith))))
  where
    none_taken : (ss : List PartStage) → open_parts slot (suc n) (take 0 ss) ≡ open_parts slot (suc n) ss → [] ≡ open_parts slot (suc n) ss
    none_taken [] same = refl
    none_taken (s ∷ ss) same = same
open_take slot n (suc count) (h ∷ ss) done = ap (in_front (blocks slot h) n) (open_take slot (suc n) count ss (λ j s at le. done (suc j) s at (omega (arith, le))))

some_behind : (n : ℕ) (ns : List ℕ) → is_some (last_behind (Some n) ns) ≡ true
some_behind n [] = refl
some_behind n (m ∷ ns) = some_behind m ns

any_front : (b rest : Bool) (n : ℕ) (ns : List ℕ) → rest ≡ is_some (last_of ns) → b || rest ≡ is_some (last_of (in_front b n ns))
any_front true rest n ns is = sym (some_behind n ns)
any_front false rest n ns is = is

-- some part is for the slot exactly where one is the last
pub any_open : (slot n : ℕ) (stages : List PartStage) → list_any (blocks slot) stages ≡ is_some (last_of (open_parts slot n stages))
any_open slot n [] = refl
any_open slot n (s ∷ ss) = any_front (blocks slot s) (list_any (blocks slot) ss) n (open_parts slot (suc n) ss) (any_open slot (suc n) ss)
