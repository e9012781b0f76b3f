-- The first fault of a text, read from the left.
-- The standard names no faults: the kinds and their order are this proxy's. A text has at most one first fault, and a
-- text that has one begins with no value (Laws.antt, `OneFault`). NoMemory is not among them, since no bytes cause it.
use Rattle.std.specs.Prelude.{IsTrue, ◌≡◌, ◌≢◌, ◌≤◌, ◌<◌, ◌+◌, ◌==◌, ◌||◌, ℕ, suc, Bool, true, false, List, [], ◌∷◌, ◌++◌, length, Some, None}
use Rattle.resp_wire.specs.Data.{Items}
use Rattle.resp_wire.specs.LimitsModel.{LimitsModel}
use Rattle.resp_wire.specs.Spelling.{cr, lf, plus, minus, colon, dollar, star, none, BeginsLine, length_in, integer_in, count_of, SpellsAll}
use Rattle.resp_wire.specs.declared.fault.WireFault.{WireFault}
use Rattle.resp_wire.specs.declared.fault.WireFault.TheVariants.{BadType, BadNumber, TooLong, TooMany, TooDeep, BadEnd}
use Rattle.resp_wire.specs.Text.{is_one_line}

-- a value may begin with this byte
abbrev pub is_kind : ℕ → Bool
is_kind b = b == plus || b == minus || b == colon || b == dollar || b == star

-- what follows the bytes of a bulk string is there and is not CR and LF
abbrev pub IsNoEnd : List ℕ → Type 0
IsNoEnd [] = ⊥
IsNoEnd (b ∷ []) = b ≢ cr
IsNoEnd (b ∷ c ∷ more) = b ≡ cr → c ≢ lf

-- The first fault of the bytes from where a value begins, where a number of arrays may still stand one inside another:
-- all before it is well spelled.
pub data FirstFault (l : LimitsModel) : ℕ → List ℕ → WireFault → Type 0 where
  -- no value begins with this byte
  unknown_kind : {room : ℕ} {bytes : List ℕ} (b : ℕ) (more : List ℕ) → is_kind b ≡ false → bytes ≡ b ∷ more → FirstFault l room bytes BadType
  -- in a line an LF without a CR before it, a CR without an LF after it, one byte more than a line may have
  bare_lf : {room : ℕ} {bytes : List ℕ} (b : ℕ) (text more : List ℕ) → is_kind b ≡ true → IsTrue (is_one_line text) → length text ≤ l.line → bytes ≡ b ∷ (text ++ lf ∷ more) → FirstFault l room bytes BadEnd
  bare_cr : {room : ℕ} {bytes : List ℕ} (b c : ℕ) (text more : List ℕ) → is_kind b ≡ true → IsTrue (is_one_line text) → length text ≤ l.line → c ≢ lf → bytes ≡ b ∷ (text ++ cr ∷ c ∷ more) → FirstFault l room bytes BadEnd
  long_line : {room : ℕ} {bytes : List ℕ} (b : ℕ) (text more : List ℕ) → is_kind b ≡ true → IsTrue (is_one_line text) → length text ≡ l.line + 1 → bytes ≡ b ∷ (text ++ more) → FirstFault l room bytes TooLong
  -- a whole line whose number cannot be read
  bad_integer : {room : ℕ} {bytes : List ℕ} (text more : List ℕ) → BeginsLine l colon text bytes more → integer_in text ≡ None → FirstFault l room bytes BadNumber
  bad_bulk_length : {room : ℕ} {bytes : List ℕ} (text more : List ℕ) → BeginsLine l dollar text bytes more → text ≢ none → length_in text ≡ None → FirstFault l room bytes BadNumber
  bad_array_length : {room : ℕ} {bytes : List ℕ} (text more : List ℕ) → BeginsLine l star text bytes more → text ≢ none → length_in text ≡ None → FirstFault l room bytes BadNumber
  -- or is above a bound
  long_bulk : {room : ℕ} {bytes : List ℕ} (text more : List ℕ) (n : ℕ) → BeginsLine l dollar text bytes more → length_in text ≡ Some n → l.bulk < n → FirstFault l room bytes TooLong
  too_deep : {room : ℕ} {bytes : List ℕ} (text more : List ℕ) (n : ℕ) → BeginsLine l star text bytes more → length_in text ≡ Some n → room ≡ 0 → FirstFault l room bytes TooDeep
  too_many : {room : ℕ} {bytes : List ℕ} (text more : List ℕ) (n : ℕ) → BeginsLine l star text bytes more → length_in text ≡ Some n → 0 < room → l.items < n → FirstFault l room bytes TooMany
  -- the bytes of a bulk string, and then no CR and LF
  no_end : {room : ℕ} {bytes : List ℕ} (text body after : List ℕ) → BeginsLine l dollar text bytes (body ++ after) → length_in text ≡ Some (length body) → length body ≤ l.bulk → IsNoEnd after → FirstFault l room bytes BadEnd
  -- in an array, after some items of it
  inside : {room : ℕ} {bytes : List ℕ} {fault : WireFault} (text before after : List ℕ) (n inner : ℕ) (vs : Items) → BeginsLine l star text bytes (before ++ after) → length_in text ≡ Some n → n ≤ l.items → room ≡ suc inner
      → SpellsAll l inner before vs → count_of vs < n → FirstFault l inner after fault → FirstFault l room bytes fault
