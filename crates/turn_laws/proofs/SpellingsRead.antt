-- A reader that begins where words were written finds those words, whole.
-- What is written need not be within the reader's limits: where it is not, the reader finds no value.
use Rattle.std.proofs.Common.{◌≡◌, ◌+◌, ◌*◌, ◌/◌, ◌%◌, ◌<◌, ◌≤◌, ℕ, zero, suc, Bool, true, false, cond, IsTrue, List, [], ◌∷◌, ◌++◌, drop, length, map, take, Some, None, refl, sym, ap, ◌∙◌, subst, inl, inr, arith, append_assoc}
use Rattle.std.specs.Prelude.{nat_eq, nat_lt}
use Rattle.std.specs.Fmt.{decimal, digit_glyph, digits, digits_onto}
use Rattle.std.specs.Str.Parse.{digits_value}
use Rattle.std.proofs.lemmas.Bool.Decides.{nat_tests}
use Rattle.std.proofs.lemmas.Bool.{cond_both, eqb-true, ltb-true}
use Rattle.std.proofs.lemmas.Fmt.{decimal_is_IsNumeral}
use Rattle.std.proofs.lemmas.List.{append_cancel_right, drop_at, take_at}
use Rattle.resp_wire.specs.Text.{is_one_line}
use Rattle.resp_wire.specs.Canonical.{canonical, canonical_all}
use Rattle.resp_wire.specs.Data.{Data, Items, simple, error, integer, bulk, null_bulk, array, null_array, no_items, item, items_of}
use Rattle.resp_wire.specs.FirstValue.{front, Whole}
use Rattle.resp_wire.specs.LimitsModel.{LimitsModel}
use Rattle.resp_wire.specs.Spelling.{BeginsLine, Spells, SpellsAll, count_of, is_digits, length_in, none}
use Rattle.resp_wire.proofs.Digits.{is_digits_to}
use Rattle.resp_wire.proofs.FrontLaws.{front_is_whole}
use Rattle.resp_wire.proofs.OneLine.{plain_head, plain_more, plain_tail}
use Rattle.resp_wire.proofs.Sound.{chosen}

abbrev Words : Type 0
Words = List (List ℕ)

abbrev spelled : Words → List ℕ
spelled words = canonical (array (items_of (map bulk words)))

-- ---- lists

first-same : {X : Type 0} (x y : X) (xs ys : List X) → x ∷ xs ≡ y ∷ ys → x ≡ y
first-same x y xs ys e = cc

later-same : {X : Type 0} (x y : X) (xs ys : List X) → x ∷ xs ≡ y ∷ ys → xs ≡ ys
later-same x y xs ys e = cc

both-same : {X : Type 0} (x y : X) (xs ys : List X) → x ≡ y → xs ≡ ys → x ∷ xs ≡ y ∷ ys
both-same x y xs ys e f = cc

-- two lines that begin one text are one
cut-line : (s t x y : List ℕ) → IsTrue (is_one_line s) → IsTrue (is_one_line t) → s ++ 13 ∷ 10 ∷ x ≡ t ++ 13 ∷ 10 ∷ y → (s ≡ t) × (x ≡ y)
cut-line [] [] x y p q e = (refl, later-same 10 10 x y (later-same 13 13 (10 ∷ x) (10 ∷ y) e))
cut-line [] (b ∷ t) x y p q e = absurd ((plain_head b t q).0 (sym (first-same 13 b (10 ∷ x) (t ++ 13 ∷ 10 ∷ y) e)))
cut-line (a ∷ s) [] x y p q e = absurd ((plain_head a s p).0 (first-same a 13 (s ++ 13 ∷ 10 ∷ x) (10 ∷ y) e))
cut-line (a ∷ s) (b ∷ t) x y p q e =
    let more = cut-line s t x y (plain_tail a s p) (plain_tail b t q) (later-same a b (s ++ 13 ∷ 10 ∷ x) (t ++ 13 ∷ 10 ∷ y) e) in
    (both-same a b s t (first-same a b (s ++ 13 ∷ 10 ∷ x) (t ++ 13 ∷ 10 ∷ y) e) more.0, more.1)

-- ---- the digits of a number

-- all bytes come from 0 on
abbrev AreDigits : List ℕ → Type 0
AreDigits [] = Unit {0}
AreDigits (b ∷ bs) = (47 < b) × AreDigits bs

glyph : (d : ℕ) → 47 < digit_glyph false d
glyph d = at (nat_lt d 10)
  where
    at : (small : Bool) → 47 < cond small (48 + d) (87 + d)
    at true = omega arith
    at false = omega arith

are-digits : (k n : ℕ) (acc : List ℕ) → AreDigits acc → AreDigits (digits_onto k 10 false n acc)
are-digits zero n acc p = p
are-digits (suc k) n acc p =
    let one : AreDigits (digit_glyph false (n % 10) ∷ acc) = (glyph (n % 10), p) in
    cond_both (nat_eq (n / 10) 0) (digit_glyph false (n % 10) ∷ acc) (digits_onto k 10 false (n / 10) (digit_glyph false (n % 10) ∷ acc)) AreDigits (λ e. one)
    (λ e. are-digits k (n / 10) (digit_glyph false (n % 10) ∷ acc) one)

digits-line : (text : List ℕ) → AreDigits text → IsTrue (is_one_line text)
digits-line [] p = refl
digits-line (b ∷ bs) p = plain_more b bs ((λ e. omega (arith, p.0, e)), (λ e. omega (arith, p.0, e))) (digits-line bs p.1)

decimal-digits : (n : ℕ) → AreDigits (decimal n)
unfolding digits
decimal-digits n = are-digits 64 n [] tt

decimal-line : (n : ℕ) → IsTrue (is_one_line (decimal n))
decimal-line n = digits-line (decimal n) (decimal-digits n)

no-null : (n : ℕ) → none ≡ decimal n → ⊥
no-null n e = let first : AreDigits none = subst AreDigits (sym e) (decimal-digits n) in omega (arith, first.0)

abbrev power : ℕ → ℕ
power zero = 1
power (suc j) = 10 * power j

some : (j : ℕ) → 0 < power j
some zero = omega arith
some (suc j) = omega (arith, some j)

tenth : (p n : ℕ) → 10 * p ≤ n → p ≤ n / 10
tenth p n h = omega (arith, h)

longer : (k n : ℕ) (acc : List ℕ) → length acc ≤ length (digits_onto k 10 false n acc)
longer zero n acc = omega arith
longer (suc k) n acc =
    cond_both (nat_eq (n / 10) 0) (digit_glyph false (n % 10) ∷ acc) (digits_onto k 10 false (n / 10) (digit_glyph false (n % 10) ∷ acc)) (λ bs. length acc ≤ length bs)
    (λ e. omega arith) (λ e. omega (arith, longer k (n / 10) (digit_glyph false (n % 10) ∷ acc)))

-- a number that is so large has so many digits
many : (j k n : ℕ) (acc : List ℕ) → power j ≤ n → j < k → j + suc (length acc) ≤ length (digits_onto k 10 false n acc)
many j zero n acc h l = absurd (omega (arith, l))
many zero (suc k) n acc h l =
    cond_both (nat_eq (n / 10) 0) (digit_glyph false (n % 10) ∷ acc) (digits_onto k 10 false (n / 10) (digit_glyph false (n % 10) ∷ acc)) (λ bs. 0 + suc (length acc) ≤ length bs)
    (λ e. omega arith) (λ e. omega (arith, longer k (n / 10) (digit_glyph false (n % 10) ∷ acc)))
many (suc j) (suc k) n acc h l =
    let t = tenth (power j) n h in
    cond_both (nat_eq (n / 10) 0) (digit_glyph false (n % 10) ∷ acc) (digits_onto k 10 false (n / 10) (digit_glyph false (n % 10) ∷ acc)) (λ bs. suc j + suc (length acc) ≤ length bs)
    (λ e. absurd (omega (arith, t, some j, eqb-true (n / 10) 0 e)))
    (λ e. omega (arith, many j k (n / 10) (digit_glyph false (n % 10) ∷ acc) t (omega (arith, l))))

long : (n : ℕ) → 10000000000 ≤ n → 11 ≤ length (decimal n)
unfolding digits
long n h = let more : 10 + suc 0 ≤ length (digits_onto 64 10 false n []) = many 10 64 n [] h (omega arith) in more

at-least : (n m : ℕ) → nat_lt n m ≡ false → m ≤ n
at-least n m e = grind (arith, nat_tests)

below : (n : ℕ) → length (decimal n) ≤ 10 → n < 10000000000
below n few = at (nat_lt n 10000000000) refl
  where
    at : (small : Bool) → nat_lt n 10000000000 ≡ small → n < 10000000000
    at true e = ltb-true n 10000000000 e
    at false e = absurd (omega (arith, few, long n (at-least n 10000000000 e)))

num-is : (m n : ℕ) → Some m ≡ Some n → m ≡ n
num-is m n e = cc

-- the length that a number's digits are read as is that number
length-of : (n m : ℕ) → length_in (decimal n) ≡ Some m → m ≡ n
unfolding length_in
length-of n m e = elim (chosen (is_digits 10 (decimal n)) (Some (digits_value 10 (decimal n))) None (Some m) e) [
  | inl h ↦
      let small = below n (is_digits_to 10 (decimal n) h.0).few in
      sym (num-is (digits_value 10 (decimal n)) m h.1) ∙ (decimal_is_IsNumeral n (omega (arith, small))).1
  | inr h ↦ absurd (let k = h.1 in cc)
]

-- ---- what is read where words begin

line-same : (l : LimitsModel) (kind kind' : ℕ) (text text' bytes more x y : List ℕ) → BeginsLine l kind text bytes more → IsTrue (is_one_line text') → bytes ++ x ≡ kind' ∷ (text' ++ 13 ∷ 10 ∷ y)
    → (kind ≡ kind') × (text ≡ text') × (more ++ x ≡ y)
line-same l kind kind' text text' bytes more x y b p e =
    let is : kind ∷ ((text ++ 13 ∷ 10 ∷ more) ++ x) ≡ kind' ∷ (text' ++ 13 ∷ 10 ∷ y) = sym (ap (λ bs. bs ++ x) b.are) ∙ e in
    let cut = cut-line text text' (more ++ x) y b.plain p
    (sym (append_assoc text (13 ∷ 10 ∷ more) x) ∙ later-same kind kind' ((text ++ 13 ∷ 10 ∷ more) ++ x) (text' ++ 13 ∷ 10 ∷ y) is) in
    (first-same kind kind' ((text ++ 13 ∷ 10 ∷ more) ++ x) (text' ++ 13 ∷ 10 ∷ y) is, cut.0, cut.1)

bulk-start : (w y : List ℕ) → canonical (bulk w) ++ y ≡ 36 ∷ (decimal (length w) ++ 13 ∷ 10 ∷ (w ++ 13 ∷ 10 ∷ y))
bulk-start w y =
    ap (λ bs. 36 ∷ bs) (append_assoc (decimal (length w)) (13 ∷ 10 ∷ (w ++ 13 ∷ 10 ∷ [])) y ∙ ap (λ bs. decimal (length w) ++ 13 ∷ 10 ∷ bs) (append_assoc w (13 ∷ 10 ∷ []) y))

bulk-line : (l : LimitsModel) (kind : ℕ) (text bytes more x w y : List ℕ) → BeginsLine l kind text bytes more → bytes ++ x ≡ canonical (bulk w) ++ y
    → (kind ≡ 36) × (text ≡ decimal (length w)) × (more ++ x ≡ w ++ 13 ∷ 10 ∷ y)
bulk-line l kind text bytes more x w y b e =
    line-same l kind 36 text (decimal (length w)) bytes more x (w ++ 13 ∷ 10 ∷ y) b (decimal-line (length w)) (e ∙ bulk-start w y)

bulk-read : (l : LimitsModel) (room : ℕ) (w a x y : List ℕ) (v : Data) → Spells l room a v → a ++ x ≡ canonical (bulk w) ++ y → (v ≡ bulk w) × (x ≡ y)
bulk-read l room w a x y (simple text) s e = absurd (omega (arith, (bulk-line l 43 text a [] x w y s e).0))
bulk-read l room w a x y (error text) s e = absurd (omega (arith, (bulk-line l 45 text a [] x w y s e).0))
bulk-read l room w a x y (integer number) (text, is, s) e = absurd (omega (arith, (bulk-line l 58 text a [] x w y s e).0))
bulk-read l room w a x y (bulk body) (text, is, small, s) e =
    let b = bulk-line l 36 text a (body ++ 13 ∷ 10 ∷ []) x w y s e in
    let same = length-of (length w) (length body) (ap length_in (sym b.1) ∙ is) in
    let whole = sym (append_assoc body (13 ∷ 10 ∷ []) x) ∙ b.2 in
    let first = sym (take_at body (13 ∷ 10 ∷ x) (length w) same) ∙ ap (take (length w)) whole ∙ take_at w (13 ∷ 10 ∷ y) (length w) refl in
    let behind = sym (drop_at body (13 ∷ 10 ∷ x) (length w) same) ∙ ap (drop (length w)) whole ∙ drop_at w (13 ∷ 10 ∷ y) (length w) refl in
    (ap bulk first, later-same 10 10 x y (later-same 13 13 (10 ∷ x) (10 ∷ y) behind))
bulk-read l room w a x y null_bulk s e = absurd (no-null (length w) (bulk-line l 36 none a [] x w y s e).1)
bulk-read l room w a x y (array items) (text, body, inner, is, count, few, s, all) e = absurd (omega (arith, (bulk-line l 42 text a body x w y s e).0))
bulk-read l room w a x y null_array s e = absurd (omega (arith, (bulk-line l 42 none a [] x w y s e).0))

all-read : (l : LimitsModel) (room : ℕ) (words : Words) (vs : Items) (a x y : List ℕ) → SpellsAll l room a vs → count_of vs ≡ length words → a ++ x ≡ canonical_all (items_of (map bulk words)) ++ y
    → (vs ≡ items_of (map bulk words)) × (x ≡ y)
all-read l room [] no_items a x y s n e = (refl, sym (ap (λ bs. bs ++ x) s) ∙ e)
all-read l room [] (item v vs) a x y s n e = absurd (omega (arith, n))
all-read l room (w ∷ words) no_items a x y s n e = absurd (omega (arith, n))
all-read l room (w ∷ words) (item v vs) a x y (first, rest, is, one, all) n e =
    let more = canonical_all (items_of (map bulk words)) in
    let begins : first ++ (rest ++ x) ≡ canonical (bulk w) ++ (more ++ y) =
    sym (append_assoc first rest x) ∙ ap (λ bs. bs ++ x) (sym is) ∙ e ∙ append_assoc (canonical (bulk w)) more y in
    let read = bulk-read l room w first (rest ++ x) (more ++ y) v one begins in
    let later = all-read l room words vs rest x y all (omega (arith, n)) read.1 in
    (ap (λ d. item d vs) read.0 ∙ ap (λ ds. item (bulk w) ds) later.0, later.1)

count-is : (words : Words) → count_of (items_of (map bulk words)) ≡ length words
count-is [] = refl
count-is (word ∷ words) = ap suc (count-is words)

array-start : (vs : Items) (y : List ℕ) → canonical (array vs) ++ y ≡ 42 ∷ (decimal (count_of vs) ++ 13 ∷ 10 ∷ (canonical_all vs ++ y))
array-start vs y = ap (λ bs. 42 ∷ bs) (append_assoc (decimal (count_of vs)) (13 ∷ 10 ∷ canonical_all vs) y)

array-line : (l : LimitsModel) (kind : ℕ) (text bytes more x : List ℕ) (vs : Items) (y : List ℕ) → BeginsLine l kind text bytes more → bytes ++ x ≡ canonical (array vs) ++ y
    → (kind ≡ 42) × (text ≡ decimal (count_of vs)) × (more ++ x ≡ canonical_all vs ++ y)
array-line l kind text bytes more x vs y b e =
    line-same l kind 42 text (decimal (count_of vs)) bytes more x (canonical_all vs ++ y) b (decimal-line (count_of vs)) (e ∙ array-start vs y)

words-read : (l : LimitsModel) (room : ℕ) (words : Words) (a x y : List ℕ) (v : Data) → Spells l room a v → a ++ x ≡ spelled words ++ y → (v ≡ array (items_of (map bulk words))) × (x ≡ y)
words-read l room words a x y (simple text) s e = absurd (omega (arith, (array-line l 43 text a [] x (items_of (map bulk words)) y s e).0))
words-read l room words a x y (error text) s e = absurd (omega (arith, (array-line l 45 text a [] x (items_of (map bulk words)) y s e).0))
words-read l room words a x y (integer number) (text, is, s) e = absurd (omega (arith, (array-line l 58 text a [] x (items_of (map bulk words)) y s e).0))
words-read l room words a x y (bulk body) (text, is, small, s) e = absurd (omega (arith, (array-line l 36 text a (body ++ 13 ∷ 10 ∷ []) x (items_of (map bulk words)) y s e).0))
words-read l room words a x y null_bulk s e = absurd (omega (arith, (array-line l 36 none a [] x (items_of (map bulk words)) y s e).0))
words-read l room words a x y (array items) (text, body, inner, is, count, few, s, all) e =
    let vs = items_of (map bulk words) in
    let b = array-line l 42 text a body x vs y s e in
    let same = length-of (count_of vs) (count_of items) (ap length_in (sym b.1) ∙ count) ∙ count-is words in
    let read = all-read l inner words items body x y all same b.2 in
    (ap array read.0, read.1)
words-read l room words a x y null_array s e = absurd (no-null (count_of (items_of (map bulk words))) (array-line l 42 none a [] x (items_of (map bulk words)) y s e).1)

-- ---- the words that a reader finds

item-first : (v w : List ℕ) (vs ws : Items) → item (bulk v) vs ≡ item (bulk w) ws → v ≡ w
item-first v w vs ws e = cc

item-later : (v w : Data) (vs ws : Items) → item v vs ≡ item w ws → vs ≡ ws
item-later v w vs ws e = cc

items-in : (vs ws : Items) → array vs ≡ array ws → vs ≡ ws
items-in vs ws e = cc

no-more : (v : Data) (vs : Items) → no_items ≡ item v vs → ⊥
no-more v vs e = absurd cc

items-same : (v w : Words) → items_of (map bulk v) ≡ items_of (map bulk w) → v ≡ w
items-same [] [] e = refl
items-same [] (b ∷ w) e = absurd (no-more (bulk b) (items_of (map bulk w)) e)
items-same (a ∷ v) [] e = absurd (no-more (bulk a) (items_of (map bulk v)) (sym e))
items-same (a ∷ v) (b ∷ w) e =
    both-same a b v w (item-first a b (items_of (map bulk v)) (items_of (map bulk w)) e) (items-same v w (item-later (bulk a) (bulk b) (items_of (map bulk v)) (items_of (map bulk w)) e))

-- What a reader finds first, where words were written first, are those words, and they came whole.
pub words-found : (l : LimitsModel) (came later more rest : List ℕ) (found words : Words) → front l came ≡ Whole (array (items_of (map bulk found))) more → came ++ later ≡ spelled words ++ rest
    → (found ≡ words) × (came ≡ spelled words ++ more) × (more ++ later ≡ rest)
words-found l came later more rest found words whole is =
    let d = array (items_of (map bulk found)) in
    let begun = (front_is_whole l came more d).0 whole in
    let begins : begun.0 ++ (more ++ later) ≡ spelled words ++ rest = sym (append_assoc begun.0 more later) ∙ ap (λ bs. bs ++ later) (sym begun.2) ∙ is in
    let read = words-read l l.depth words begun.0 (more ++ later) rest d begun.1 begins in
    let same = append_cancel_right begun.0 (spelled words) (more ++ later) (begins ∙ ap (λ bs. spelled words ++ bs) (sym read.1)) in
    (items-same found words (items-in (items_of (map bulk found)) (items_of (map bulk words)) read.0), begun.2 ∙ ap (λ bs. bs ++ more) same, read.1)
