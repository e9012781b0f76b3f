-- The hash slot of a key: Redis Cluster specification, "Key distribution model" and "Hash tags".
-- `crc16_of` and `slot_of` are computed; `IsSlotNumber` says the same without computing. Braces behind the first pair
-- do not count. Every key has a slot, the empty one too.
use Rattle.std.specs.Prelude.{◌≡◌, ℕ, ◌+◌, ◌*◌, ◌^◌, ◌%◌, List, zero, suc, Bool, ◌==◌, take, position, Option, None, Some}
use Rattle.std.specs.List.{fold, after_first}
use Rattle.slot_hash.specs.Division.{remainder, IsRemainder-remainder}
use Rattle.slot_hash.specs.Polynomial.{IsRemainder}
use Rattle.std.proofs.Common.{refl}

-- a `{`
abbrev pub is_open : ℕ → Bool
is_open byte = byte == 123

-- a `}`
abbrev pub is_close : ℕ → Bool
is_close byte = byte == 125

-- the bytes of `rest` before its first `}`, where that stands behind at least one byte, else the whole key
abbrev pub tag_before : Option ℕ → List ℕ → List ℕ → List ℕ
tag_before None rest key = key
tag_before (Some zero) rest key = key
tag_before (Some (suc n)) rest key = take (suc n) rest

-- the bytes between the first `{` and the first `}` after it, if both are there with at least one byte between, else the whole key
abbrev pub tag_of : List ℕ → List ℕ
tag_of key = let rest = after_first is_open key in tag_before (position is_close rest) rest key

-- the bits of the bytes, the first byte's highest bit first, as a polynomial
abbrev pub message : List ℕ → ℕ
message bytes = fold (λ sum byte. sum * 2 ^ 8 + byte) 0 bytes

-- CRC-16 in its XMODEM form: what remains of the message times x^16
unfoldable pub crc16_of : List ℕ → ℕ
crc16_of bytes = remainder (message bytes * 2 ^ 16)

-- the slot of a key: its tag's CRC, modulo the number of slots
unfoldable pub slot_of : List ℕ → ℕ
slot_of key = crc16_of (tag_of key) % 16384

-- n is the slot number of a tag: its polynomial times x^16, divided by x^16 + x^12 + x^5 + 1, leaves r, and n is r modulo 16384
pub record IsSlotNumber (tag : List ℕ) (n : ℕ) : Type 0 where
  pub r : ℕ
  pub remainder : IsRemainder (message tag * 2 ^ 16) r
  pub number : n ≡ r % 16384

pub IsSlotNumber-slot_of : (key : List ℕ) → IsSlotNumber (tag_of key) (slot_of key)
unfolding slot_of crc16_of
IsSlotNumber-slot_of key = record { r = crc16_of (tag_of key); remainder = IsRemainder-remainder _; number = refl }
