-- The heap of the parts whose turn it is, and the room that it has.
use Rattle.std.proofs.Common.{◌≡◌, ◌≢◌, ◌≤◌, ◌<◌, ◌+◌, ◌-◌, ◌++◌, ◌∷◌, [], ℕ, List, Bool, true, false, Option, Some, None, Result, Ok, Err, zero, suc, length, drop, sym, ap, subst, ◌∙◌, arith, rules, refl, cond, nat_eq, get_or}
use Rattle.std.specs.Prelude.{slice_get, slice_set, IsOk, OnOk}
use Rattle.std.specs.List.{sum_by}
use Rattle.std.specs.List.Sorted.{IsPermutation}
use Rattle.std.specs.declared.cmp.Reverse.{Reverse}
use Rattle.std.specs.Ordering.{nat_cmp, is_lt}
use Rattle.std.specs.BinaryHeap.{IsUpperBound}
use Rattle.std.proofs.lemmas.List.Sorted.{sum_by-IsPermutation}
use Rattle.std.proofs.lemmas.List.Recursion.{is_sum_by}
use Rattle.key_split.specs.PartModel.{PartModel}
use Rattle.session_order.specs.declared.queue.PartStage.{PartStage}
use Rattle.session_order.specs.declared.queue.PartStage.TheVariants.{Waiting, Out, Done}
use Rattle.session_order.specs.Turn.{IsWaiting, MayPost, IsNext, NextPlace}
use Rattle.session_order.specs.Tables.{IsTabled, HasTurn, tally, waiting, is_waiting, earliest_first}
use Rattle.session_order.proofs.Lists.{eqb-yes, get_set_other}

tally_is : (m : ℕ) (items : List (Reverse ℕ)) → tally items m ≡ sum_by (λ turn. cond {A = ℕ} (nat_eq m turn.0) 1 0) items
tally_is m items = is_sum_by (λ xs. tally xs m) (λ turn. cond {A = ℕ} (nat_eq m turn.0) 1 0) refl (λ x xs. refl) items

tally_moved : (items more : List (Reverse ℕ)) → IsPermutation items more → (m : ℕ) → tally more m ≡ tally items m
tally_moved items more moved m = tally_is m more ∙ sum_by-IsPermutation (λ turn. cond {A = ℕ} (nat_eq m turn.0) 1 0) items more moved ∙ sym (tally_is m items)

pub tally_pop : (items rest : List (Reverse ℕ)) (x : Reverse ℕ) → IsPermutation items (x ∷ rest) → (m : ℕ) → tally items m ≡ cond (nat_eq m x.0) 1 0 + tally rest m
tally_pop items rest x moved m = sym (tally_moved items (x ∷ rest) moved m)

pub tally_push : (items more : List (Reverse ℕ)) (x : Reverse ℕ) → IsPermutation (x ∷ items) more → (m : ℕ) → tally more m ≡ cond (nat_eq m x.0) 1 0 + tally items m
tally_push items more x moved m = tally_moved (x ∷ items) more moved m

pub on_ok : {A E : Type 0} {P : Type 0} (r : Result A E) → IsOk r → OnOk r P → P
on_ok (Ok a) is p = p
on_ok (Err e) is p = cc

-- the number at the top has its turn
pub top_turn : (first : ℕ) (stages : List PartStage) (later earlier : List (Option ℕ)) (last : ℕ → Option ℕ) (items rest : List (Reverse ℕ)) (x : Reverse ℕ)
    → IsTabled first stages later earlier last (tally items) → IsPermutation items (x ∷ rest) → HasTurn first stages x.0
top_turn first stages later earlier last items rest x t moved =
    let here : tally items x.0 ≡ 1 + tally rest x.0 = tally_pop items rest x moved x.0 ∙ ap (λ (b : Bool). cond {A = ℕ} b 1 0 + tally rest x.0) (eqb-yes x.0 x.0 refl) in
    t.sound x.0 (omega (arith, here))

least_in : (b : Bool) (m x y rest : ℕ) → nat_eq m y ≡ b → x ≤ y → (0 < rest → x ≤ m) → 0 < cond b 1 0 + rest → x ≤ m
least_in true m x y rest is le h pos = (let e : m ≡ y = search rules in omega (arith, e, le))
least_in false m x y rest is le h pos = h (omega (arith, pos))

not_less : (x y : ℕ) → is_lt (nat_cmp y x) ≡ false → x ≤ y
not_less x y is = grind (arith, rules, is)

-- no number in the heap is below the top
pub least : (items : List (Reverse ℕ)) (x : Reverse ℕ) (m : ℕ) → IsUpperBound earliest_first x items → 0 < tally items m → x.0 ≤ m
least [] x m bound pos = absurd (omega (arith, pos))
least (y ∷ ys) x m bound pos = least_in (nat_eq m y.0) m x.0 y.0 (tally ys m) refl (not_less x.0 y.0 bound.0) (λ more. least ys x m bound.1 more) pos

abbrev bit : PartStage → ℕ
bit s = cond (is_waiting s) 1 0

-- how many wait, as one stage changes
pub waiting_set : (stages : List PartStage) (i : ℕ) (s s' : PartStage) → slice_get stages i ≡ Some s → waiting (slice_set stages i s') + bit s ≡ waiting stages + bit s'
waiting_set [] i s s' at = cc
waiting_set (h ∷ ss) zero s s' at = let is : h ≡ s = search rules in
    (let e : bit h ≡ bit s = ap bit is in omega (arith, e))
waiting_set (h ∷ ss) (suc i) s s' at = omega (arith, waiting_set ss i s s' at)

waiting_in : (s : PartStage) → bit s ≤ 1
waiting_in (Waiting part) = omega arith
waiting_in (Out slot) = omega arith
waiting_in Done = omega arith

pub waiting_few : (stages : List PartStage) → waiting stages ≤ length stages
waiting_few [] = omega arith
waiting_few (s ∷ ss) = omega (arith, waiting_in s, waiting_few ss)

pub waiting_push : (stages : List PartStage) (part : PartModel) → waiting (stages ++ Waiting part ∷ []) ≡ waiting stages + 1
waiting_push [] part = refl
waiting_push (s ∷ ss) part = omega (arith, waiting_push ss part)

pub waiting_drop : (count : ℕ) (stages : List PartStage) → waiting (drop count stages) ≤ waiting stages
waiting_drop zero stages = omega arith
waiting_drop (suc count) [] = omega arith
waiting_drop (suc count) (s ∷ ss) = omega (arith, waiting_drop count ss)

pub waiting_none : (stages : List PartStage) → ((i : ℕ) → IsWaiting (slice_get stages i) → ⊥) → waiting stages ≡ 0
waiting_none [] none = refl
waiting_none (Waiting part ∷ ss) none = absurd (none 0 tt)
waiting_none (Out slot ∷ ss) none = omega (arith, waiting_none ss (λ i. none (suc i)))
waiting_none (Done ∷ ss) none = omega (arith, waiting_none ss (λ i. none (suc i)))

-- ---- how long the heap is

pub waiting_part : (o : Option PartStage) → IsWaiting o → (part : PartModel) × (o ≡ Some (Waiting part))
waiting_part (Some (Waiting part)) waits = (part, refl)
waiting_part (Some (Out slot)) waits = absurd waits
waiting_part (Some Done) waits = absurd waits
waiting_part None waits = absurd waits

pub part_waits : (o : Option PartStage) (part : PartModel) → o ≡ Some (Waiting part) → IsWaiting o
part_waits o part is = subst IsWaiting (sym is) tt

-- what the test says
pub waits_if : (o : Option PartStage) (s : PartStage) → o ≡ Some s → is_waiting s ≡ true → IsWaiting o
waits_if o (Waiting part) at is = part_waits o part at
waits_if o (Out slot) at is = absurd (cc)
waits_if o Done at is = absurd (cc)

pub stands_if : (o : Option PartStage) (s : PartStage) → o ≡ Some s → is_waiting s ≡ false → IsWaiting o → ⊥
stands_if o (Waiting part) at is waits = cc
stands_if o (Out slot) at is waits = subst IsWaiting at waits
stands_if o Done at is waits = subst IsWaiting at waits

-- no more numbers stand in it than parts wait
few_waiting : (first : ℕ) (stages : List PartStage) (items : List (Reverse ℕ)) → ((m : ℕ) → tally items m ≤ 1)
    → ((m : ℕ) → 0 < tally items m → (first ≤ m) × IsWaiting (slice_get stages (m - first))) → length items ≤ waiting stages
few_waiting first stages [] once sound = omega arith
few_waiting first stages (x ∷ xs) once sound =
    let here : tally (x ∷ xs) x.0 ≡ 1 + tally xs x.0 = ap (λ (b : Bool). cond {A = ℕ} b 1 0 + tally xs x.0) (eqb-yes x.0 x.0 refl) in
    let own = sound x.0 (omega (arith, here)) in
    let i = x.0 - first in
    let part = waiting_part (slice_get stages i) own.1 in
    let fewer : waiting (slice_set stages i Done) + 1 ≡ waiting stages + 0 = waiting_set stages i (Waiting part.0) Done part.1 in
    let rest = few_waiting first (slice_set stages i Done) xs (λ m. omega (arith, once m)) (λ m pos.
    let its = sound m (omega (arith, pos)) in
    let other : m - first ≢ i = λ same. (
    let e : m ≡ x.0 = omega (arith, same, its.0, own.0) in
    let pos' : 0 < tally xs x.0 = subst (λ n. 0 < tally xs n) e pos in
    omega (arith, here, once x.0, pos')
    ) in
    let stands = waiting_part (slice_get stages (m - first)) its.1 in
    (its.0, part_waits (slice_get (slice_set stages i Done) (m - first)) stands.0 (get_set_other stages i (m - first) Done (Waiting stands.0) other stands.1))
    ) in
    omega (arith, rest, fewer)

-- the part of a turn waits at its place
pub turn_place : (first number : ℕ) (stages : List PartStage) → HasTurn first stages number → (part : PartModel) × (slice_get stages (number - first) ≡ Some (Waiting part))
turn_place first number stages (i, sum, (part, at, free)) = (let place : i ≡ number - first = omega (arith, sum) in (part, subst (λ n. slice_get stages n ≡ Some (Waiting part)) place at))

pub turn_waits : (first number : ℕ) (stages : List PartStage) → HasTurn first stages number → IsWaiting (slice_get stages (number - first))
turn_waits first number stages turn = (let at = turn_place first number stages turn in subst IsWaiting (sym at.1) tt)

pub turn_may : (first number : ℕ) (stages : List PartStage) → HasTurn first stages number → MayPost stages (number - first)
turn_may first number stages (i, sum, may) = (let place : i ≡ number - first = omega (arith, sum) in subst (λ n. MayPost stages n) place may)

pub turn_above : (first number : ℕ) (stages : List PartStage) → HasTurn first stages number → first ≤ number
turn_above first number stages turn = omega (arith, turn.1)

pub heap_few : (first : ℕ) (stages : List PartStage) (later earlier : List (Option ℕ)) (last : ℕ → Option ℕ) (items : List (Reverse ℕ)) → IsTabled first stages later earlier last (tally items)
    → length items ≤ waiting stages
heap_few first stages later earlier last items t = few_waiting first stages items t.once (λ m pos. (turn_above first m stages (t.sound m pos), turn_waits first m stages (t.sound m pos)))

-- the top is the earliest
pub top_next : (first : ℕ) (stages : List PartStage) (later earlier : List (Option ℕ)) (last : ℕ → Option ℕ) (items rest : List (Reverse ℕ)) (x : Reverse ℕ) (part : PartModel)
    → IsTabled first stages later earlier last (tally items) → IsPermutation items (x ∷ rest) → IsUpperBound earliest_first x items → slice_get stages (x.0 - first) ≡ Some (Waiting part)
    → IsNext stages (x.0 - first) part
top_next first stages later earlier last items rest x part t moved bound at =
    let turn = top_turn first stages later earlier last items rest x t moved in
    (turn_may first x.0 stages turn, λ j less may. (let le = least items x (first + j) bound (t.complete j may) in omega (arith, le, less, turn_above first x.0 stages turn)), at)

pub none_next : (first : ℕ) (stages : List PartStage) (later earlier : List (Option ℕ)) (last : ℕ → Option ℕ) (items : List (Reverse ℕ)) → IsTabled first stages later earlier last (tally items) → items ≡ []
    → (i : ℕ) → MayPost stages i → ⊥
none_next first stages later earlier last items t none i may =
    let pos : 0 < tally [] (first + i) = subst (λ xs. 0 < tally xs (first + i)) none (t.complete i may) in omega (arith, pos)

-- what is read at an index stands there
pub got : {A : Type 0} (xs : List A) (i : ℕ) (x : A) → i < length xs → x ≡ get_or xs i x → slice_get xs i ≡ Some x
got [] i x within is = absurd (omega (arith, within))
got (y ∷ ys) zero x within is = ap Some (sym is)
got (y ∷ ys) (suc i) x within is = got ys i x (omega (arith, within)) is

-- ---- the number at the top, where it is only looked at

-- it is in the heap
pub top_counts : (items : List (Reverse ℕ)) (x : Reverse ℕ) → 0 < length items → x ≡ get_or items 0 x → 0 < tally items x.0
top_counts [] x some is = absurd (omega (arith, some))
top_counts (y ∷ ys) x some is =
    let here : cond {A = ℕ} (nat_eq x.0 y.0) 1 0 ≡ 1 = ap (λ (b : Bool). cond {A = ℕ} b 1 0) (eqb-yes x.0 y.0 (ap (λ (r : Reverse ℕ). r.0) is)) in
    omega (arith, here)

-- it is the number of the earliest part whose turn it is
pub top_place : (first : ℕ) (stages : List PartStage) (later earlier : List (Option ℕ)) (last : ℕ → Option ℕ) (items : List (Reverse ℕ)) (x : Reverse ℕ)
    → IsTabled first stages later earlier last (tally items) → 0 < tally items x.0 → IsUpperBound earliest_first x items
    → (first ≤ x.0) × NextPlace stages (Some (x.0 - first))
top_place first stages later earlier last items x t counts bound =
    let turn = t.sound x.0 counts in
    (turn_above first x.0 stages turn, (turn_may first x.0 stages turn, λ j less may. (let le = least items x (first + j) bound (t.complete j may) in omega (arith, le, less, turn_above first x.0 stages turn))))

pub none_at : (n : ℕ) → (0 < n → false ≡ true) → n ≡ 0
none_at zero none = refl
none_at (suc n) none = (let no : false ≡ true = none (omega arith) in search rules)

-- ---- a part that waits

pub waits_within : (stages : List PartStage) (i : ℕ) → IsWaiting (slice_get stages i) → i < length stages
waits_within [] i waits = absurd waits
waits_within (s ∷ ss) zero waits = omega arith
waits_within (s ∷ ss) (suc i) waits = omega (arith, waits_within ss i waits)

pub waits : (stages : List PartStage) (i : ℕ) (s : PartStage) → IsWaiting (slice_get stages i) → slice_get stages i ≡ Some s → ((part : PartModel) → s ≡ Waiting part → ⊥) → ⊥
waits stages i (Waiting part) is at others = others part refl
waits stages i (Out slot) is at others = subst IsWaiting at is
waits stages i Done is at others = subst IsWaiting at is
