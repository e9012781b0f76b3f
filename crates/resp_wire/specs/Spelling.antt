-- Which bytes spell a value (RESP2), within bounds.
-- RESP2 specification, "RESP protocol description". More is read than is written: a plus sign, leading zeros, `-0`.
-- Two things that the standard leaves open are settled: a length has one to ten digits, an integer one to twenty.
-- `room` is how many arrays may still stand one inside another.
use Rattle.std.specs.Prelude.{IsTrue, ◌≡◌, ◌≤◌, ℕ, suc, ℤ, Bool, List, [], ◌∷◌, ◌++◌, length, nat_lt, nat_le, ◌&&◌, if◌then◌else◌, Option, Some, None, pos}
use Rattle.std.specs.Str.{all_ascii_digits}
use Rattle.std.specs.Str.Parse.{digits_value, without_leading_sign, starts_with_minus}
use Rattle.std.specs.Prelude.{neg_ℤ, true, false}
use Rattle.resp_wire.specs.Data.{Data, Items, simple, error, integer, bulk, null_bulk, array, null_array, no_items, item}
use Rattle.resp_wire.specs.LimitsModel.{LimitsModel}
use Rattle.resp_wire.specs.Text.{is_one_line}

abbrev pub cr : ℕ
cr = 13

abbrev pub lf : ℕ
lf = 10

-- the first byte of a value: + - : $ *
abbrev pub plus : ℕ
plus = 43

abbrev pub minus : ℕ
minus = 45

abbrev pub colon : ℕ
colon = 58

abbrev pub dollar : ℕ
dollar = 36

abbrev pub star : ℕ
star = 42

-- the bytes begin with a line of this kind and text, and more follows it
pub record BeginsLine (l : LimitsModel) (kind : ℕ) (text bytes more : List ℕ) : Type 0 where
  pub plain : IsTrue (is_one_line text)
  pub short : length text ≤ l.line
  pub are : bytes ≡ kind ∷ (text ++ cr ∷ lf ∷ more)

-- the text is one to `most` decimal digits
abbrev pub is_digits : ℕ → List ℕ → Bool
is_digits most text = nat_lt 0 (length text) && nat_le (length text) most && all_ascii_digits text

-- a length: one to ten decimal digits
unfoldable pub length_in : List ℕ → Option ℕ
length_in text = if is_digits 10 text then Some (digits_value 10 text) else None

-- the integer of this sign and magnitude, where 64 bits hold it
abbrev pub signed_64 : Bool → ℕ → Option ℤ
signed_64 true n = if nat_le n 9223372036854775808 then Some (neg_ℤ (pos n)) else None
signed_64 false n = if nat_lt n 9223372036854775808 then Some (pos n) else None

-- an integer: an optional sign and one to twenty decimal digits, in the range of 64 bits
unfoldable pub integer_in : List ℕ → Option ℤ
integer_in text = let digits = without_leading_sign text in if is_digits 20 digits then signed_64 (starts_with_minus text) (digits_value 10 digits) else None

-- the length of a null: -1
abbrev pub none : List ℕ
none = 45 ∷ 49 ∷ []

abbrev pub count_of : Items → ℕ
count_of no_items = 0
count_of (item v vs) = suc (count_of vs)

-- The bytes spell the value, where `room` arrays may still stand one inside another.
abbrev mutual
  pub Spells : LimitsModel → ℕ → List ℕ → Data → Type 0
  Spells l room bytes (simple text) = BeginsLine l plus text bytes []
  Spells l room bytes (error text) = BeginsLine l minus text bytes []
  Spells l room bytes (integer z) = (text : List ℕ) × (integer_in text ≡ Some z) × BeginsLine l colon text bytes []
  Spells l room bytes (bulk body) = (text : List ℕ) × (length_in text ≡ Some (length body)) × (length body ≤ l.bulk) × BeginsLine l dollar text bytes (body ++ cr ∷ lf ∷ [])
  Spells l room bytes null_bulk = BeginsLine l dollar none bytes []
  Spells l room bytes (array vs) = (text : List ℕ) × (body : List ℕ) × (inner : ℕ) × (room ≡ suc inner) × (length_in text ≡ Some (count_of vs)) × (count_of vs ≤ l.items) × BeginsLine l star text bytes body × SpellsAll l inner body vs
  Spells l room bytes null_array = BeginsLine l star none bytes []

  -- one after another
  pub SpellsAll : LimitsModel → ℕ → List ℕ → Items → Type 0
  SpellsAll l room bytes no_items = bytes ≡ []
  SpellsAll l room bytes (item v vs) = (first : List ℕ) × (rest : List ℕ) × (bytes ≡ first ++ rest) × Spells l room first v × SpellsAll l room rest vs
