-- Numbers as texts, canonical decimal in the range of i64: Redis command reference, INCRBY.
-- As Redis reads integers: no plus sign, no leading zero, no `-0`, no space.
use Rattle.std.specs.Prelude.{ℕ, ℤ, pos, negsuc, ◌^◌, List, Bool, ◌&&◌, if◌then◌else◌, Option, None, Some, nat_lt}
use Rattle.std.specs.Fmt.{signed_decimal}
use Rattle.std.specs.Str.{bytes_eq}
use Rattle.std.specs.Str.Parse.{signed_digits_value}

-- -(n + 1) is written `negsuc n`
abbrev pub in_range : ℤ → Bool
in_range (pos n) = nat_lt n (2 ^ 63)
in_range (negsuc n) = nat_lt n (2 ^ 63)

abbrev pub number_spelt : ℤ → List ℕ → Option ℤ
number_spelt z text = if in_range z && bytes_eq (signed_decimal z) text then Some z else None

-- the number whose canonical decimal the text is, where there is one in range
unfoldable pub number_of : List ℕ → Option ℤ
number_of text = number_spelt (signed_digits_value 10 text) text
