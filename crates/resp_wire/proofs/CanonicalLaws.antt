-- The canonical spelling is a spelling wherever there is one.
use Rattle.std.proofs.Common.{◌≡◌, ◌≢◌, ℕ, ℤ, pos, negsuc, neg_ℤ, zero, suc, ◌+◌, ◌-◌, ◌*◌, ◌^◌, ◌<◌, ◌≤◌, Bool, true, false, cond, eqb, ltb, leb, List, [], ◌∷◌, ◌++◌, length, get_or, drop, Option, Some, None, refl, sym, ap, subst, ◌∙◌, inl, inr, ◌⊎◌, arith, IsTrue}
use Rattle.std.specs.Str.{all_ascii_digits}
use Rattle.std.specs.Str.Parse.{digits_value, starts_with_minus, without_leading_sign, without_leading_plus}
use Rattle.std.specs.Fmt.{decimal, signed_decimal}
use Rattle.std.proofs.lemmas.Bool.{ltb-true, leb-true, lt-ltb, le-leb, ne_eqb}
use Rattle.std.proofs.lemmas.Int.Digits.{digits_value-lt}
use Rattle.std.proofs.lemmas.Str.Parse.{tells_all_ascii_digits}
use Rattle.std.proofs.lemmas.Fmt.{length-decimal-le, decimal_is_IsNumeral}
use Rattle.std.proofs.lemmas.List.{length-drop}
use Rattle.resp_wire.specs.Text.{is_one_line}
use Rattle.resp_wire.specs.Data.{Data, Items, simple, error, integer, bulk, null_bulk, array, null_array, no_items, item}
use Rattle.resp_wire.specs.LimitsModel.{LimitsModel}
use Rattle.resp_wire.specs.Spelling.{is_digits, signed_64, length_in, integer_in, Spells, SpellsAll, count_of}
use Rattle.resp_wire.specs.Canonical.{canonical, canonical_all}
use Rattle.resp_wire.specs.Laws.{CanonicalSpells, CanonicalReads}
use Rattle.resp_wire.proofs.OneLine.{plain_more}
use Rattle.resp_wire.proofs.Digits.{from_digits, is_digits_from, is_digits_to, value_below}
use Rattle.resp_wire.proofs.Sound.{chosen}
use Rattle.resp_wire.proofs.FrontLaws.{front_is_whole}

-- ---- the digits of a number are at most those of a text that writes it

-- neither CR nor LF is a digit
digits_plain : (ds : List ℕ) → all_ascii_digits ds ≡ true → IsTrue (is_one_line ds)
digits_plain [] e = refl
digits_plain (c ∷ cs) e =
    let p = tells_all_ascii_digits.parts c cs e in
    let r = p.0 in
    plain_more c cs ((λ k. absurd (omega arith)), (λ k. absurd (omega arith))) (digits_plain cs p.1)

record IsShortest (most n : ℕ) (text : List ℕ) : Type 0 where
  pub short : length (decimal n) ≤ length text
  pub digits : is_digits most (decimal n) ≡ true
  pub value : digits_value 10 (decimal n) ≡ n
  pub plain : IsTrue (is_one_line (decimal n))
  pub some : 0 < length (decimal n)
  pub all : all_ascii_digits (decimal n) ≡ true

shortest : (most n : ℕ) (text : List ℕ) → is_digits most text ≡ true → digits_value 10 text ≡ n → n < 18446744073709551616 → IsShortest most n text
shortest most n text e v h =
    let d = is_digits_to most text e in
    let below : n < 10 ^ length text = subst (λ (k : ℕ). k < 10 ^ length text) v (digits_value-lt 10 text d.digits) in
    let short : length (decimal n) ≤ length text = length-decimal-le (length text) n d.some below h in
    let numeral = decimal_is_IsNumeral n h in
    let all = from_digits (decimal n) numeral.0.1 in
    record {
      short = short;
      digits = is_digits_from most (decimal n) numeral.0.0 (omega (arith, short, d.few)) numeral.0.1;
      value = numeral.1;
      plain = digits_plain (decimal n) all;
      some = numeral.0.0;
      all = all;
    }

-- ---- lengths

num_is : (m n : ℕ) → Some m ≡ Some n → m ≡ n
num_is m n e = cc

length_again : (text : List ℕ) (n : ℕ) → length_in text ≡ Some n → (length (decimal n) ≤ length text) × (length_in (decimal n) ≡ Some n) × IsTrue (is_one_line (decimal n))
unfolding length_in
length_again text n e = elim (chosen (is_digits 10 text) (Some (digits_value 10 text)) None (Some n) e) [
  | inl h ↦
      let v = num_is (digits_value 10 text) n h.1 in
      let d = is_digits_to 10 text h.0 in
      let small = value_below 10 text d.few d.digits in
      let s = shortest 10 n text h.0 v (omega (arith, small, v)) in
      (s.short, rw (s.digits, s.value) refl, s.plain)
  | inr h ↦ absurd (let k = h.1 in cc)
]

-- ---- integers

signed_pos : (minus : Bool) (n m : ℕ) → signed_64 minus n ≡ Some (pos m) → (n ≡ m) × (m < 9223372036854775808)
signed_pos true zero m e = let k : 0 ≡ m = cc in (k, omega arith)
signed_pos true (suc n) m e = elim (chosen (leb (suc n) 9223372036854775808) (Some (neg_ℤ (pos (suc n)))) None (Some (pos m)) e) [
  | inl h ↦ absurd (let k = h.1 in cc)
  | inr h ↦ absurd (let k = h.1 in cc)
]
signed_pos false n m e = elim (chosen (ltb n 9223372036854775808) (Some (pos n)) None (Some (pos m)) e) [
  | inl h ↦ let k = h.1 in let same : n ≡ m = cc in let lt = ltb-true n 9223372036854775808 h.0 in (same, omega (arith, same, lt))
  | inr h ↦ absurd (let k = h.1 in cc)
]

signed_neg : (minus : Bool) (n k : ℕ) → signed_64 minus n ≡ Some (negsuc k) → (minus ≡ true) × (n ≡ suc k) × (n ≤ 9223372036854775808)
signed_neg true zero k e = absurd cc
signed_neg true (suc n) k e = elim (chosen (leb (suc n) 9223372036854775808) (Some (neg_ℤ (pos (suc n)))) None (Some (negsuc k)) e) [
  | inl h ↦ let j = h.1 in let same : n ≡ k = cc in (refl, ap suc same, leb-true (suc n) 9223372036854775808 h.0)
  | inr h ↦ absurd (let j = h.1 in cc)
]
signed_neg false n k e = elim (chosen (ltb n 9223372036854775808) (Some (pos n)) None (Some (negsuc k)) e) [
  | inl h ↦ absurd (let j = h.1 in cc)
  | inr h ↦ absurd (let j = h.1 in cc)
]

either_le : (b : Bool) (x y : List ℕ) (n : ℕ) → length x ≤ n → length y ≤ n → length (cond b x y) ≤ n
either_le true x y n h k = h
either_le false x y n h k = k

sign_shortens : (text : List ℕ) → length (without_leading_sign text) ≤ length text
sign_shortens text =
    let one : length (drop 1 text) ≤ length text = omega (arith, length-drop 1 text) in
    let plus : length (without_leading_plus text) ≤ length text = omega (arith, length-drop (cond (eqb (get_or text 0 0) 43) 1 0) text) in
    either_le (starts_with_minus text) (drop 1 text) (without_leading_plus text) (length text) one plus

-- digits have no sign
no_sign : (ds : List ℕ) → 0 < length ds → all_ascii_digits ds ≡ true → (starts_with_minus ds ≡ false) × (without_leading_sign ds ≡ ds)
no_sign [] h e = absurd (omega arith)
no_sign (c ∷ cs) h e =
    let r = (tells_all_ascii_digits.parts c cs e).0 in
    let minus : eqb c 45 ≡ false = ne_eqb c 45 (λ k. absurd (omega arith)) in
    let plus : eqb c 43 ≡ false = ne_eqb c 43 (λ k. absurd (omega arith)) in
    (minus, rw (minus, plus) refl)

record IsAgain (text : List ℕ) (z : ℤ) : Type 0 where
  pub short : length (signed_decimal z) ≤ length text
  pub reads : integer_in (signed_decimal z) ≡ Some z
  pub plain : IsTrue (is_one_line (signed_decimal z))

integer_from : (text : List ℕ) (z : ℤ) → is_digits 20 (without_leading_sign text) ≡ true → signed_64 (starts_with_minus text) (digits_value 10 (without_leading_sign text)) ≡ Some z → IsAgain text z
unfolding integer_in
integer_from text (pos m) d e =
    let p = signed_pos (starts_with_minus text) (digits_value 10 (without_leading_sign text)) m e in
    let s = shortest 20 m (without_leading_sign text) d p.0 (omega (arith, p.1)) in
    let n = no_sign (decimal m) s.some s.all in
    record {
      short = omega (arith, s.short, sign_shortens text);
      reads = rw (n.1, s.digits, n.0, s.value, lt-ltb m 9223372036854775808 p.1) refl;
      plain = s.plain;
    }
integer_from text (negsuc k) d e =
    let p = signed_neg (starts_with_minus text) (digits_value 10 (without_leading_sign text)) k e in
    let bound : suc k ≤ 9223372036854775808 = omega (arith, p.1, p.2) in
    let s = shortest 20 (suc k) (without_leading_sign text) d p.1 (omega (arith, bound)) in
    let digits = is_digits_to 20 (without_leading_sign text) d in
    let rest : without_leading_sign text ≡ drop 1 text = rw p.0 refl in
    let len : length (without_leading_sign text) ≡ length text - 1 = ap length rest ∙ length-drop 1 text in
    record {
      short = omega (arith, s.short, len, digits.some);
      reads = rw (s.digits, s.value, le-leb (suc k) 9223372036854775808 bound) refl;
      plain = plain_more 45 (decimal (suc k)) ((λ j. absurd (omega arith)), (λ j. absurd (omega arith))) s.plain;
    }

integer_again : (text : List ℕ) (z : ℤ) → integer_in text ≡ Some z → IsAgain text z
unfolding integer_in
integer_again text z e =
    elim (chosen (is_digits 20 (without_leading_sign text)) (signed_64 (starts_with_minus text) (digits_value 10 (without_leading_sign text))) None (Some z) e) [
      | inl h ↦ integer_from text z h.0 h.1
      | inr h ↦ absurd (let k = h.1 in cc)
    ]

-- ---- values

mutual
  pub canonical_spells : CanonicalSpells
  canonical_spells l room bytes (simple text) s = record { plain = s.plain; short = s.short; are = refl }
  canonical_spells l room bytes (error text) s = record { plain = s.plain; short = s.short; are = refl }
  canonical_spells l room bytes (integer z) s =
      let a = integer_again s.0 z s.1 in
      (signed_decimal z, a.reads, record { plain = a.plain; short = omega (arith, a.short, s.2.short); are = refl })
  canonical_spells l room bytes (bulk body) s =
      let a = length_again s.0 (length body) s.1 in
      (decimal (length body), a.1, s.2, record { plain = a.2; short = omega (arith, a.0, s.3.short); are = refl })
  canonical_spells l room bytes null_bulk s = record { plain = s.plain; short = s.short; are = refl }
  canonical_spells l room bytes (array vs) s =
      let a = length_again s.0 (count_of vs) s.4 in
      (decimal (count_of vs), canonical_all vs, s.2, s.3, a.1, s.5, record { plain = a.2; short = omega (arith, a.0, s.6.short); are = refl }, all_spell l s.2 s.1 vs s.7)
  canonical_spells l room bytes null_array s = record { plain = s.plain; short = s.short; are = refl }

  all_spell : (l : LimitsModel) (room : ℕ) (bytes : List ℕ) (vs : Items) → SpellsAll l room bytes vs → SpellsAll l room (canonical_all vs) vs
  all_spell l room bytes no_items s = refl
  all_spell l room bytes (item v vs) s = (canonical v, canonical_all vs, refl, canonical_spells l room s.0 v s.3, all_spell l room s.1 vs s.4)

pub canonical_reads : CanonicalReads
canonical_reads l bytes v s more = (front_is_whole l (canonical v ++ more) more v).1 (canonical v, canonical_spells l l.depth bytes v s, refl)
