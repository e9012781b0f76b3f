-- The table of remainders.
use Rattle.std.proofs.Common.{◌≡◌, ℕ, ◌*◌, ◌/◌, ◌^◌, ◌<◌, bit_xor, Bool, true, ◌==◌, get_or, refl}
use Rattle.std.proofs.lemmas.Bool.{agree_below, agree_below_at, eqb-true}
use Rattle.slot_hash.specs.Polynomial.{times_generator, Congruent}
use Rattle.slot_hash.specs.declared.crc.TheConstants.{REMAINDERS}

-- the quotient of the byte's bits times x^16
abbrev quotient_of : ℕ → ℕ
quotient_of byte = bit_xor byte (byte / 2 ^ 4)

abbrev is_remainder_of : ℕ → Bool
is_remainder_of byte = (byte * 2 ^ 16) == bit_xor (times_generator (quotient_of byte)) (get_or REMAINDERS byte 0)

-- the whole table is computed once
all_remainders : agree_below is_remainder_of (λ byte. true) 256 ≡ true
all_remainders = refl

pub Congruent-REMAINDERS : (byte : ℕ) → byte < 256 → Congruent (byte * 2 ^ 16) (get_or REMAINDERS byte 0)
Congruent-REMAINDERS byte below = record {
  quotient = quotient_of byte;
  equation = eqb-true _ _ (agree_below_at is_remainder_of (λ _. true) 256 byte all_remainders below);
}
