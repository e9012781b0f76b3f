-- Which numbers a text writes.
use Rattle.std.proofs.Common.{◌≡◌, ℕ, suc, ℤ, pos, negsuc, neg_ℤ, [], ◌∷◌, length, drop, ◌==◌, ◌^◌, ◌<◌, List, Bool, true, false, ◌&&◌, cond, Option, None, Some, Result, Ok, Err, refl, sym, ap, ◌∙◌, subst, arith, FitsSigned, w64, to_z, of_z}
use Rattle.std.proofs.lemmas.Bool.Decides.{nat_tests}
use Rattle.std.specs.Fmt.{decimal, signed_decimal}
use Rattle.std.specs.Str.{bytes_eq, IsUtf8}
use Rattle.std.specs.Str.Parse.{signed_digits_value, IsNumeral, without_leading_sign, digits_value, AllDigits}
use Rattle.std.specs.Int.Signed.{mag}
use Rattle.std.proofs.Math.Facts.{to_z-of_z}
use Rattle.std.proofs.lemmas.Bool.{false≢true, ne_eqb}
use Rattle.std.proofs.lemmas.Fmt.{IsAscii-signed, parse-signed_decimal, decimal_is_IsNumeral}
use Rattle.std.proofs.lemmas.Str.Parse.{digit_from_value}
use Rattle.std.proofs.lemmas.Str.{IsUtf8-from_ascii}
use Rattle.std.proofs.lemmas.Slice.Eq.{bytes_eq-Decides}
use Rattle.key_split.specs.Number.{in_range, number_of, number_spelt}

spelt_if : (a b : Bool) (z : ℤ) → Option ℤ
spelt_if a b z = cond (a && b) (Some z) None

none_if : (a b : Bool) (z : ℤ) → (a ≡ true → b ≡ true → ⊥) → cond (a && b) (Some z) None ≡ None
none_if true true z h = absurd (h refl refl)
none_if true false z h = refl
none_if false b z h = refl

some_if : (a b : Bool) (z : ℤ) → a ≡ true → b ≡ true → cond (a && b) (Some z) None ≡ Some z
some_if true true z h k = refl
some_if true false z h k = cc
some_if false b z h k = cc

pub number_spelt-None : (z : ℤ) (text : List ℕ) → (in_range z ≡ true → signed_decimal z ≡ text → ⊥) → number_spelt z text ≡ None
number_spelt-None z text h = none_if (in_range z) (bytes_eq (signed_decimal z) text) z (λ a b. h a ((bytes_eq-Decides (signed_decimal z) text).0 b))

pub number_spelt-Some : (z : ℤ) (text : List ℕ) → in_range z ≡ true → signed_decimal z ≡ text → number_spelt z text ≡ Some z
number_spelt-Some z text a b = some_if (in_range z) (bytes_eq (signed_decimal z) text) z a ((bytes_eq-Decides (signed_decimal z) text).1 b)

mag_in_range : (z : ℤ) → in_range z ≡ true → mag z < 2 ^ 63
mag_in_range (pos n) h = grind (arith, nat_tests, h)
mag_in_range (negsuc n) h = grind (arith, nat_tests, h)

in_range-mag : (z : ℤ) → mag z < 2 ^ 63 → in_range z ≡ true
in_range-mag (pos n) h = grind (arith, nat_tests, h)
in_range-mag (negsuc n) h = grind (arith, nat_tests, h)

pub FitsSigned-in_range : (z : ℤ) → in_range z ≡ true → FitsSigned w64 z
FitsSigned-in_range z h = record { sfits = mag_in_range z h }

pub in_range-FitsSigned : (z : ℤ) → FitsSigned w64 z → in_range z ≡ true
in_range-FitsSigned z h = in_range-mag z h.sfits

-- a text that is no UTF-8 is no number
pub number_of-not_utf8 : (text : List ℕ) → ¬ (IsUtf8 text) → number_of text ≡ None
unfolding number_of
number_of-not_utf8 text bad =
    number_spelt-None (signed_digits_value 10 text) text
    (λ a b. bad (subst IsUtf8 b (IsUtf8-from_ascii _ (IsAscii-signed (signed_digits_value 10 text) (mag_in_range (signed_digits_value 10 text) a)))))

-- nor is one that does not parse
pub number_of-unread : (digits text : List ℕ) → digits ≡ text → (IsNumeral 10 (without_leading_sign digits) × FitsSigned w64 (signed_digits_value 10 digits) → ⊥) → number_of text ≡ None
unfolding number_of
number_of-unread digits text e bad =
    let z = signed_digits_value 10 digits in
    subst (λ t. number_of t ≡ None) e
    (number_spelt-None z digits
    (λ a b. let same : ◌≡◌ {A = Result ℤ ℕ} (Err 0) (Ok z) = parse-signed_decimal w64 z digits (Err 0) (FitsSigned-in_range z a) (mag_in_range z a) (sym b) bad in absurd cc))

-- a text that reads as z is the number z, if it is z's canonical decimal, and else none
pub number_of-read : (digits text shown : List ℕ) (z : ℤ) → digits ≡ text → FitsSigned w64 (signed_digits_value 10 digits) → z ≡ signed_digits_value 10 digits → shown ≡ signed_decimal (to_z w64 (of_z w64 z)) → true ≡ bytes_eq shown text → Some (to_z w64 (of_z w64 z)) ≡ number_of text
unfolding number_of
number_of-read digits text shown z e fits is spelt same =
    let z_fits : FitsSigned w64 z = subst (FitsSigned w64) (sym is) fits in
    let back : to_z w64 (of_z w64 z) ≡ z = to_z-of_z z_fits in
    let text_is : signed_decimal z ≡ text = ap signed_decimal (sym back) ∙ sym spelt ∙ (bytes_eq-Decides shown text).0 (sym same) in
    ap Some back ∙ sym (subst (λ y. number_spelt y text ≡ Some z) (is ∙ ap (signed_digits_value 10) e) (number_spelt-Some z text (in_range-FitsSigned z z_fits) text_is))

pub number_of-other : (digits text shown : List ℕ) (z : ℤ) → digits ≡ text → FitsSigned w64 (signed_digits_value 10 digits) → z ≡ signed_digits_value 10 digits → shown ≡ signed_decimal (to_z w64 (of_z w64 z)) → false ≡ bytes_eq shown text → None ≡ number_of text
unfolding number_of
number_of-other digits text shown z e fits is spelt other =
    let z_fits : FitsSigned w64 z = subst (FitsSigned w64) (sym is) fits in
    let back : to_z w64 (of_z w64 z) ≡ z = to_z-of_z z_fits in
    sym (subst (λ y. number_spelt y text ≡ None) (is ∙ ap (signed_digits_value 10) e)
    (number_spelt-None z text (λ _ text_is. false≢true (other ∙ (bytes_eq-Decides shown text).1 (spelt ∙ ap signed_decimal back ∙ text_is)))))

-- the value of a text, by whether a minus or a plus stands first
abbrev value_by : Bool → Bool → List ℕ → ℤ
value_by minus plus bs = cond minus (neg_ℤ (pos (digits_value 10 (cond minus (drop 1 bs) (drop (cond plus 1 0) bs))))) (pos (digits_value 10 (cond minus (drop 1 bs) (drop (cond plus 1 0) bs))))

signed_digits_value-digits : (ds : List ℕ) → AllDigits 10 ds → 0 < length ds → signed_digits_value 10 ds ≡ pos (digits_value 10 ds)
signed_digits_value-digits [] d some = absurd (omega arith)
signed_digits_value-digits (c ∷ cs) d some =
    let digit = digit_from_value c d.0 in
    ap (λ b. value_by b (c == 43) (c ∷ cs)) (ne_eqb c 45 (λ e. omega (arith, digit.0))) ∙ ap (λ b. value_by false b (c ∷ cs)) (ne_eqb c 43 (λ e. omega (arith, digit.0)))

signed_digits_value-signed_decimal : (z : ℤ) → mag z < 2 ^ 63 → signed_digits_value 10 (signed_decimal z) ≡ z
signed_digits_value-signed_decimal (pos n) h =
    let k = decimal_is_IsNumeral n (omega arith) in signed_digits_value-digits (decimal n) k.0.1 k.0.0 ∙ ap pos k.1
signed_digits_value-signed_decimal (negsuc n) h =
    let k = decimal_is_IsNumeral (suc n) (omega arith) in ap (λ m. neg_ℤ (pos m)) k.1

-- a number in range is read back from its canonical decimal
pub number_of-signed_decimal : (z : ℤ) → in_range z ≡ true → number_of (signed_decimal z) ≡ Some z
unfolding number_of
number_of-signed_decimal z h =
    subst (λ y. number_spelt y (signed_decimal z) ≡ Some z) (sym (signed_digits_value-signed_decimal z (mag_in_range z h))) (number_spelt-Some z (signed_decimal z) h refl)
