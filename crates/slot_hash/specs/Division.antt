-- Each polynomial has exactly one remainder.
-- `IsRemainder` (Polynomial.antt) says what a remainder is. There is at most one (`one_remainder`) and at least one
-- (`IsRemainder-remainder`), so `remainder` names it.
use Rattle.std.specs.Prelude.{◌≡◌, ℕ, zero, suc, ◌+◌, ◌-◌, ◌*◌, ◌/◌, ◌^◌, ◌<◌, ◌≤◌, bit_xor}
use Rattle.std.proofs.Common.{refl, sym, ◌∙◌, ap, subst, arith, add-zero, ⊎_elim}
use Rattle.std.proofs.lemmas.Bool.{cases_lt}
use Rattle.std.proofs.lemmas.Nat.{xor_comm, xor_lt, xor_shr, xor_block, pow_pos, pow-add}
use Rattle.std.specs.Int.Bits.{xor_assoc, xor_self}
use lib.Bits.{xor_zero_r}
use Rattle.std.proofs.Math.Nat.{div-eq_of_lt, pow-suc, mul_assoc, mul_comm}
use Rattle.slot_hash.specs.Polynomial.{times_generator, Congruent, IsRemainder}

-- ---- sums
pub swap_middle : (a b c d : ℕ) → bit_xor (bit_xor a b) (bit_xor c d) ≡ bit_xor (bit_xor a c) (bit_xor b d)
swap_middle a b c d =
    xor_assoc a b (bit_xor c d)
    ∙ ap (bit_xor a) (sym (xor_assoc b c d) ∙ ap (λ x. bit_xor x d) (xor_comm b c) ∙ xor_assoc c b d)
    ∙ sym (xor_assoc a c (bit_xor b d))

-- a sum taken twice is gone
pub xor_twice : (a b : ℕ) → bit_xor a (bit_xor a b) ≡ b
xor_twice a b = sym (xor_assoc a a b) ∙ ap (λ x. bit_xor x b) (xor_self a)

pub xor_moves : (a b c : ℕ) → bit_xor a b ≡ c → b ≡ bit_xor a c
xor_moves a b c e = sym (xor_twice a b) ∙ ap (bit_xor a) e

pub xor_shl : (a b k : ℕ) → bit_xor (a * 2 ^ k) (b * 2 ^ k) ≡ bit_xor a b * 2 ^ k
xor_shl a b k =
    ap (λ x. bit_xor x (b * 2 ^ k)) (sym (add-zero (a * 2 ^ k)))
    ∙ ap (bit_xor (a * 2 ^ k + 0)) (sym (add-zero (b * 2 ^ k)))
    ∙ xor_block k a b 0 0 (pow_pos k) (pow_pos k)
    ∙ add-zero (bit_xor a b * 2 ^ k)

-- ---- multiples of the generator
pub times_generator-xor : (p q : ℕ) → times_generator (bit_xor p q) ≡ bit_xor (times_generator p) (times_generator q)
times_generator-xor p q =
    ap (λ x. bit_xor (bit_xor (bit_xor x (bit_xor p q * 2 ^ 12)) (bit_xor p q * 2 ^ 5)) (bit_xor p q)) (sym (xor_shl p q 16))
    ∙ ap (λ x. bit_xor (bit_xor (bit_xor (bit_xor (p * 2 ^ 16) (q * 2 ^ 16)) x) (bit_xor p q * 2 ^ 5)) (bit_xor p q)) (sym (xor_shl p q 12))
    ∙ ap (λ x. bit_xor (bit_xor (bit_xor (bit_xor (p * 2 ^ 16) (q * 2 ^ 16)) (bit_xor (p * 2 ^ 12) (q * 2 ^ 12))) x) (bit_xor p q)) (sym (xor_shl p q 5))
    ∙ ap (λ x. bit_xor (bit_xor x (bit_xor (p * 2 ^ 5) (q * 2 ^ 5))) (bit_xor p q)) (swap_middle (p * 2 ^ 16) (q * 2 ^ 16) (p * 2 ^ 12) (q * 2 ^ 12))
    ∙ ap (λ x. bit_xor x (bit_xor p q)) (swap_middle (bit_xor (p * 2 ^ 16) (p * 2 ^ 12)) (bit_xor (q * 2 ^ 16) (q * 2 ^ 12)) (p * 2 ^ 5) (q * 2 ^ 5))
    ∙ swap_middle (bit_xor (bit_xor (p * 2 ^ 16) (p * 2 ^ 12)) (p * 2 ^ 5)) (bit_xor (bit_xor (q * 2 ^ 16) (q * 2 ^ 12)) (q * 2 ^ 5)) p q

-- a product by x^k of a product by x^j
swap_powers : (q j k : ℕ) → q * 2 ^ k * 2 ^ j ≡ q * 2 ^ j * 2 ^ k
swap_powers q j k = mul_assoc q (2 ^ k) (2 ^ j) ∙ ap (λ x. q * x) (mul_comm (2 ^ k) (2 ^ j)) ∙ sym (mul_assoc q (2 ^ j) (2 ^ k))

pub times_generator-shl : (q k : ℕ) → times_generator (q * 2 ^ k) ≡ times_generator q * 2 ^ k
times_generator-shl q k =
    ap (λ x. bit_xor (bit_xor (bit_xor x (q * 2 ^ k * 2 ^ 12)) (q * 2 ^ k * 2 ^ 5)) (q * 2 ^ k)) (swap_powers q 16 k)
    ∙ ap (λ x. bit_xor (bit_xor (bit_xor (q * 2 ^ 16 * 2 ^ k) x) (q * 2 ^ k * 2 ^ 5)) (q * 2 ^ k)) (swap_powers q 12 k)
    ∙ ap (λ x. bit_xor (bit_xor (bit_xor (q * 2 ^ 16 * 2 ^ k) (q * 2 ^ 12 * 2 ^ k)) x) (q * 2 ^ k)) (swap_powers q 5 k)
    ∙ ap (λ x. bit_xor (bit_xor x (q * 2 ^ 5 * 2 ^ k)) (q * 2 ^ k)) (xor_shl (q * 2 ^ 16) (q * 2 ^ 12) k)
    ∙ ap (λ x. bit_xor x (q * 2 ^ k)) (xor_shl (bit_xor (q * 2 ^ 16) (q * 2 ^ 12)) (q * 2 ^ 5) k)
    ∙ xor_shl (bit_xor (bit_xor (q * 2 ^ 16) (q * 2 ^ 12)) (q * 2 ^ 5)) q k

-- ---- congruence
pub Congruent-refl : (a : ℕ) → Congruent a a
Congruent-refl a = record { quotient = 0; equation = refl }

pub Congruent-trans : (a b c : ℕ) → Congruent a b → Congruent b c → Congruent a c
Congruent-trans a b c h k = record {
  quotient = bit_xor h.quotient k.quotient;
  equation = h.equation
      ∙ ap (bit_xor (times_generator h.quotient)) k.equation
      ∙ sym (xor_assoc (times_generator h.quotient) (times_generator k.quotient) c)
      ∙ ap (λ x. bit_xor x c) (sym (times_generator-xor h.quotient k.quotient));
}

pub Congruent-xor : (a b c : ℕ) → Congruent a b → Congruent (bit_xor a c) (bit_xor b c)
Congruent-xor a b c h = record {
  quotient = h.quotient;
  equation = ap (λ x. bit_xor x c) h.equation ∙ xor_assoc (times_generator h.quotient) b c;
}

pub Congruent-shl : (a b k : ℕ) → Congruent a b → Congruent (a * 2 ^ k) (b * 2 ^ k)
Congruent-shl a b k h = record {
  quotient = h.quotient * 2 ^ k;
  equation = ap (λ x. x * 2 ^ k) h.equation
      ∙ sym (xor_shl (times_generator h.quotient) b k)
      ∙ ap (λ x. bit_xor x (b * 2 ^ k)) (sym (times_generator-shl h.quotient k));
}

-- ---- one remainder at most
below_power : (n : ℕ) → n < 2 ^ n
below_power zero = omega arith
below_power (suc n) = let more = below_power n in let two : 2 ^ suc n ≡ 2 ^ n * 2 = pow-suc 2 n in omega arith

-- what of a multiple stands from x^16 on
high_part : (d : ℕ) → times_generator d / 2 ^ 16 ≡ bit_xor (bit_xor (bit_xor (d * 2 ^ 16 / 2 ^ 16) (d * 2 ^ 12 / 2 ^ 16)) (d * 2 ^ 5 / 2 ^ 16)) (d / 2 ^ 16)
high_part d =
    xor_shr (bit_xor (bit_xor (d * 2 ^ 16) (d * 2 ^ 12)) (d * 2 ^ 5)) d 16
    ∙ ap (λ x. bit_xor x (d / 2 ^ 16)) (xor_shr (bit_xor (d * 2 ^ 16) (d * 2 ^ 12)) (d * 2 ^ 5) 16)
    ∙ ap (λ x. bit_xor (bit_xor x (d * 2 ^ 5 / 2 ^ 16)) (d / 2 ^ 16)) (xor_shr (d * 2 ^ 16) (d * 2 ^ 12) 16)

-- d, where its multiple has nothing from x^16 on
as_lower : (d : ℕ) → times_generator d < 2 ^ 16 → d ≡ bit_xor (d * 2 ^ 12 / 2 ^ 16) (bit_xor (d * 2 ^ 5 / 2 ^ 16) (d / 2 ^ 16))
as_lower d small =
    let none : times_generator d / 2 ^ 16 ≡ 0 = div-eq_of_lt small in
    let whole : d * 2 ^ 16 / 2 ^ 16 ≡ d = omega arith in
    sym
    (xor_moves d _ 0
    (sym (xor_assoc d (d * 2 ^ 12 / 2 ^ 16) (bit_xor (d * 2 ^ 5 / 2 ^ 16) (d / 2 ^ 16)))
    ∙ sym (xor_assoc (bit_xor d (d * 2 ^ 12 / 2 ^ 16)) (d * 2 ^ 5 / 2 ^ 16) (d / 2 ^ 16))
    ∙ ap (λ x. bit_xor (bit_xor (bit_xor x (d * 2 ^ 12 / 2 ^ 16)) (d * 2 ^ 5 / 2 ^ 16)) (d / 2 ^ 16)) (sym whole)
    ∙ sym (high_part d)
    ∙ none)
    ∙ xor_zero_r d)

zero_from_small : (k d : ℕ) → d < 2 ^ k → times_generator d < 2 ^ 16 → d ≡ 0
zero_from_small zero d below _ = omega arith
zero_from_small (suc k) d below small =
    let twice : d < 2 ^ k * 2 = subst (λ x. d < x) (pow-suc 2 k) below in
    let smaller : bit_xor (d * 2 ^ 12 / 2 ^ 16) (bit_xor (d * 2 ^ 5 / 2 ^ 16) (d / 2 ^ 16)) < 2 ^ k =
    xor_lt k (d * 2 ^ 12 / 2 ^ 16) (bit_xor (d * 2 ^ 5 / 2 ^ 16) (d / 2 ^ 16)) (omega arith)
    (xor_lt k (d * 2 ^ 5 / 2 ^ 16) (d / 2 ^ 16) (omega arith) (omega arith))
    in
    zero_from_small k d (subst (λ x. x < 2 ^ k) (sym (as_lower d small)) smaller) small

-- a polynomial has at most one remainder
pub one_remainder : (a r s : ℕ) → IsRemainder a r → IsRemainder a s → r ≡ s
one_remainder a r s h k =
    let p = h.congruent.quotient in
    let q = k.congruent.quotient in
    let same : bit_xor (times_generator p) r ≡ bit_xor (times_generator q) s = sym h.congruent.equation ∙ k.congruent.equation in
    let apart : times_generator (bit_xor q p) ≡ bit_xor r s =
    times_generator-xor q p
    ∙ ap (bit_xor (times_generator q)) (xor_moves r (times_generator p) _ (xor_comm r (times_generator p) ∙ same))
    ∙ ap (bit_xor (times_generator q)) (xor_comm r _ ∙ xor_assoc (times_generator q) s r)
    ∙ xor_twice (times_generator q) (bit_xor s r)
    ∙ xor_comm s r
    in
    let none : bit_xor q p ≡ 0 =
    zero_from_small (bit_xor q p) (bit_xor q p) (below_power (bit_xor q p))
    (subst (λ x. x < 2 ^ 16) (sym apart) (xor_lt 16 r s h.reduced k.reduced))
    in
    sym (xor_moves r s 0 (sym apart ∙ ap times_generator none) ∙ xor_zero_r r)

-- ---- one remainder at least: long division
-- the generator times x^n: its highest term, and what stands below it
shifted_generator : (n : ℕ) → times_generator (2 ^ n) ≡ 1 * 2 ^ (n + 16) + 4129 * 2 ^ n
shifted_generator n =
    let power : 2 ^ (n + 16) ≡ 2 ^ n * 2 ^ 16 = pow-add 2 n 16 in
    let single : 1 * 2 ^ n ≡ 2 ^ n = omega arith in
    ap times_generator (sym single) ∙ times_generator-shl 1 n ∙ omega arith

-- a polynomial of degree n + 16 loses its highest term by the generator times x^n
without_highest : (n a : ℕ) → a < 2 ^ (suc n + 16) → 2 ^ (n + 16) ≤ a → bit_xor a (times_generator (2 ^ n)) < 2 ^ (n + 16)
without_highest n a below above =
    let wide : 2 ^ (suc n + 16) ≡ 2 ^ (suc n) * 2 ^ 16 = pow-add 2 (suc n) 16 in
    let two : 2 ^ suc n ≡ 2 ^ n * 2 = pow-suc 2 n in
    let power : 2 ^ (n + 16) ≡ 2 ^ n * 2 ^ 16 = pow-add 2 n 16 in
    let low : a - 2 ^ (n + 16) < 2 ^ (n + 16) = omega arith in
    let rest : 4129 * 2 ^ n < 2 ^ (n + 16) = let some : 0 < 2 ^ n = pow_pos n in omega arith in
    let split : a ≡ 1 * 2 ^ (n + 16) + (a - 2 ^ (n + 16)) = omega arith in
    let sum : bit_xor a (times_generator (2 ^ n)) ≡ bit_xor (a - 2 ^ (n + 16)) (4129 * 2 ^ n) =
    ap (bit_xor a) (shifted_generator n)
    ∙ ap (λ x. bit_xor x (1 * 2 ^ (n + 16) + 4129 * 2 ^ n)) split
    ∙ xor_block (n + 16) 1 1 (a - 2 ^ (n + 16)) (4129 * 2 ^ n) low rest
    ∙ omega arith
    in
    subst (λ x. x < 2 ^ (n + 16)) (sym sum) (xor_lt (n + 16) (a - 2 ^ (n + 16)) (4129 * 2 ^ n) low rest)

-- a, where its sum with a multiple of the generator has the remainder r
IsRemainder-more : (a q r : ℕ) → IsRemainder (bit_xor a (times_generator q)) r → IsRemainder a r
IsRemainder-more a q r h = record {
  reduced = h.reduced;
  congruent = Congruent-trans a (bit_xor a (times_generator q)) r
      (record { quotient = q; equation = sym (xor_twice (times_generator q) a) ∙ ap (bit_xor (times_generator q)) (xor_comm (times_generator q) a) })
      h.congruent;
}

remainder_below : (n a : ℕ) → a < 2 ^ (n + 16) → (r : ℕ) × IsRemainder a r
remainder_below zero a below = (a, record { reduced = below; congruent = Congruent-refl a })
remainder_below (suc n) a below =
    ⊎_elim (λ (low : a < 2 ^ (n + 16)). remainder_below n a low)
    (λ (high : 2 ^ (n + 16) ≤ a).
    let less = remainder_below n (bit_xor a (times_generator (2 ^ n))) (without_highest n a below high) in
    (less.0, IsRemainder-more a (2 ^ n) less.0 less.1))
    (cases_lt a (2 ^ (n + 16)))

division : (a : ℕ) → (r : ℕ) × IsRemainder a r
division a = remainder_below a a (let wide : 2 ^ (a + 16) ≡ 2 ^ a * 2 ^ 16 = pow-add 2 a 16 in let low : a < 2 ^ a = below_power a in omega arith)

-- the remainder of a
pub remainder : ℕ → ℕ
remainder a = (division a).0

pub IsRemainder-remainder : (a : ℕ) → IsRemainder a (remainder a)
unfolding remainder
IsRemainder-remainder a = (division a).1

pub remainder-unique : (a r : ℕ) → IsRemainder a r → r ≡ remainder a
remainder-unique a r h = one_remainder a r (remainder a) h (IsRemainder-remainder a)
