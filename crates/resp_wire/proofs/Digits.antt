-- Digits, one after another.
use Rattle.std.proofs.Common.{◌≡◌, ℕ, zero, ◌+◌, ◌-◌, ◌*◌, ◌^◌, ◌<◌, ◌≤◌, Bool, true, false, cond, ltb, leb, ◌&&◌, List, [], ◌∷◌, length, get_or, take, Option, Some, None, refl, arith}
use Rattle.std.specs.Str.{all_ascii_digits}
use Rattle.std.specs.Char.{digit_value}
use Rattle.std.specs.Str.Parse.{digits_value, AllDigits}
use Rattle.std.proofs.lemmas.Bool.{and_parts, ltb-true, leb-true, lt-ltb, le-leb}
use Rattle.std.proofs.lemmas.Int.Digits.{digits_value_more, digits_value-lt}
use Rattle.std.proofs.lemmas.Str.Parse.{tells_all_ascii_digits, tells_digits, digit_at}
use Rattle.std.proofs.lemmas.Str.{digit_value_digit}
use Rattle.std.specs.Int.{IsInRange}
use Rattle.std.proofs.Math.Nat.{pow-le-pow_right}
use Rattle.std.proofs.lemmas.List.{length-take}
use Rattle.resp_wire.specs.Spelling.{is_digits, length_in}

pub to_digits : (ds : List ℕ) → all_ascii_digits ds ≡ true → AllDigits 10 ds
to_digits [] e = tells_digits.empty
to_digits (c ∷ cs) e = let p = tells_all_ascii_digits.parts c cs e in tells_digits.more c cs p.0 (to_digits cs p.1)

pub from_digits : (ds : List ℕ) → AllDigits 10 ds → all_ascii_digits ds ≡ true
from_digits [] e = refl
from_digits (c ∷ cs) e = let p = tells_digits.parts c cs e in tells_all_ascii_digits.more c cs p.0 (from_digits cs p.1)

pub is_digits_from : (most : ℕ) (ds : List ℕ) → 0 < length ds → length ds ≤ most → AllDigits 10 ds → is_digits most ds ≡ true
is_digits_from most ds h k d = rw (lt-ltb 0 (length ds) h, le-leb (length ds) most k) (from_digits ds d)

pub record IsDigits (most : ℕ) (ds : List ℕ) : Type 0 where
  pub some : 0 < length ds
  pub few : length ds ≤ most
  pub digits : AllDigits 10 ds

pub is_digits_to : (most : ℕ) (ds : List ℕ) → is_digits most ds ≡ true → IsDigits most ds
is_digits_to most ds e =
    let p = and_parts (ltb 0 (length ds) && leb (length ds) most) (all_ascii_digits ds) e in
    let q = and_parts (ltb 0 (length ds)) (leb (length ds) most) p.0 in
    record { some = ltb-true 0 (length ds) q.0; few = leb-true (length ds) most q.1; digits = to_digits ds p.1 }

not_true : (b : Bool) → (b ≡ true → ⊥) → b ≡ false
not_true true h = absurd (h refl)
not_true false h = refl

-- a text with another byte in it
pub not_digits : (most : ℕ) (text : List ℕ) (i : ℕ) → i < length text → (48 ≤ get_or text i 0 → get_or text i 0 ≤ 57 → ⊥) → is_digits most text ≡ false
not_digits most text i h e = not_true (is_digits most text) (λ y. let d = digit_at text i (is_digits_to most text y).digits h in e d.0 d.1)

pub not_few : (most : ℕ) (text : List ℕ) → most < length text → is_digits most text ≡ false
not_few most text h = not_true (is_digits most text) (λ y. let d = (is_digits_to most text y).few in absurd (omega arith))

pub not_some : (most : ℕ) (text : List ℕ) → length text ≡ 0 → is_digits most text ≡ false
not_some most text h = not_true (is_digits most text) (λ y. let d = (is_digits_to most text y).some in absurd (omega arith))

pub value_small : (text : List ℕ) (i : ℕ) → i ≤ 20 → AllDigits 10 (take i text) → digits_value 10 (take i text) < 10 ^ 20
value_small text i h d =
    let lt = digits_value-lt 10 (take i text) d in
    let len : length (take i text) ≤ 20 = omega (arith, length-take i text) in
    let ten : zero < 10 = omega arith in
    let le = pow-le-pow_right {n = 10} ten {i = length (take i text)} {j = 20} len in
    omega arith

pub more_digits : (text : List ℕ) (i n d : ℕ) → i < length text → IsInRange 48 57 (get_or text i 0) → n ≡ digits_value 10 (take i text) → d ≡ get_or text i 0 - 48 → n * 10 + d ≡ digits_value 10 (take (i + 1) text)
more_digits text i n d h r e f = let s = digits_value_more 10 text i h in let v = digit_value_digit (get_or text i 0) r in omega (arith, s, v)

pub digit_small : (c : ℕ) → IsInRange 48 57 c → digit_value c < 10
digit_small c r = let v = digit_value_digit c r in omega arith

pub no_digits : (most : ℕ) (text : List ℕ) → is_digits most text ≡ false → (let n : Option ℕ = None in n) ≡ cond (is_digits most text) (Some (digits_value 10 text)) None
no_digits most text e = rw e refl

pub all_digits : (most n : ℕ) (text : List ℕ) → is_digits most text ≡ true → n ≡ digits_value 10 text → Some n ≡ cond (is_digits most text) (Some (digits_value 10 text)) None
all_digits most n text e f = rw (e, f) refl

pub value_below : (most : ℕ) (text : List ℕ) → length text ≤ most → AllDigits 10 text → digits_value 10 text < 10 ^ most
value_below most text h d =
    let lt = digits_value-lt 10 text d in
    let ten : zero < 10 = omega arith in
    let le = pow-le-pow_right {n = 10} ten {i = length text} {j = most} h in
    omega arith

pub length_in_is : (text : List ℕ) (r : Option ℕ) → r ≡ cond (is_digits 10 text) (Some (digits_value 10 text)) None → r ≡ length_in text
unfolding length_in
length_in_is text r e = e
