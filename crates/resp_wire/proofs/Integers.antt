-- The integers that lines write.
use Rattle.std.proofs.Common.{◌≡◌, ℕ, ℤ, pos, neg_ℤ, zero, suc, ◌<◌, ◌≤◌, Bool, true, false, cond, ltb, leb, List, Option, Some, None, refl, sym, subst, arith, inl, inr, FitsSigned, w64}
use Rattle.std.specs.Str.Parse.{without_leading_sign, starts_with_minus, digits_value}
use Rattle.std.proofs.lemmas.Bool.{ltb-true, leb-true}
use Rattle.std.proofs.lemmas.Int.{ints}
use Rattle.resp_wire.specs.Spelling.{is_digits, signed_64, integer_in}
use Rattle.resp_wire.proofs.Sound.{chosen}

some_is : (y z : ℤ) → Some y ≡ Some z → y ≡ z
some_is y z e = cc

pos_fits : (n : ℕ) → n < 9223372036854775808 → FitsSigned w64 (pos n)
pos_fits n h = search (arith, ints)

neg_fits : (n : ℕ) → n ≤ 9223372036854775808 → FitsSigned w64 (neg_ℤ (pos n))
neg_fits zero h = search (arith, ints)
neg_fits (suc n) h = search (arith, ints)

signed_fits : (b : Bool) (n : ℕ) (z : ℤ) → signed_64 b n ≡ Some z → FitsSigned w64 z
signed_fits true n z e = elim (chosen (leb n 9223372036854775808) (Some (neg_ℤ (pos n))) None (Some z) e) [
  | inl h ↦ subst (λ (y : ℤ). FitsSigned w64 y) (some_is (neg_ℤ (pos n)) z h.1) (neg_fits n (leb-true n 9223372036854775808 h.0))
  | inr h ↦ absurd (let k = h.1 in cc)
]
signed_fits false n z e = elim (chosen (ltb n 9223372036854775808) (Some (pos n)) None (Some z) e) [
  | inl h ↦ subst (λ (y : ℤ). FitsSigned w64 y) (some_is (pos n) z h.1) (pos_fits n (ltb-true n 9223372036854775808 h.0))
  | inr h ↦ absurd (let k = h.1 in cc)
]

pub integer_fits : (text : List ℕ) (z : ℤ) → Some z ≡ integer_in text → FitsSigned w64 z
unfolding integer_in
integer_fits text z e =
    elim (chosen (is_digits 20 (without_leading_sign text)) (signed_64 (starts_with_minus text) (digits_value 10 (without_leading_sign text))) None (Some z) (sym e)) [
      | inl h ↦ signed_fits (starts_with_minus text) (digits_value 10 (without_leading_sign text)) z h.1
      | inr h ↦ absurd (let k = h.1 in cc)
    ]

pub integer_none : (text digits : List ℕ) → digits ≡ without_leading_sign text → (let r : Option ℕ = None in r) ≡ cond (is_digits 20 digits) (Some (digits_value 10 digits)) None → None ≡ integer_in text
unfolding integer_in
integer_none text digits d e =
    elim (chosen (is_digits 20 digits) (Some (digits_value 10 digits)) None None (sym e)) [
      | inl h ↦ absurd (let k = h.1 in cc)
      | inr h ↦ rw (← d, h.0) refl
    ]

num_is : (y z : ℕ) → Some y ≡ Some z → y ≡ z
num_is y z e = cc

pub integer_some : (text digits : List ℕ) (minus : Bool) (n : ℕ) (r : Option ℤ) → minus ≡ starts_with_minus text → digits ≡ without_leading_sign text → Some n ≡ cond (is_digits 20 digits) (Some (digits_value 10 digits)) None → r ≡ signed_64 minus n → r ≡ integer_in text
unfolding integer_in
integer_some text digits minus n r m d e s =
    elim (chosen (is_digits 20 digits) (Some (digits_value 10 digits)) None (Some n) (sym e)) [
      | inl h ↦ rw (← d, h.0, ← m, num_is (digits_value 10 digits) n h.1) s
      | inr h ↦ absurd (let k = h.1 in cc)
    ]
