-- The lines of a script: each is ended by LF, and its words are bytes 0x21 to 0x7E, separated by one space.
-- This project's format: one way to write each thing. An empty line fits nothing. Numbers may have leading zeros.
use Rattle.std.specs.Prelude.{ℕ, ◌+◌, ◌-◌, ◌*◌, ◌==◌, nat_le, nat_lt, Bool, ◌&&◌, not, if◌then◌else◌, List, [], ◌∷◌, length, Option, None, Some}
use Rattle.std.specs.List.{fold, list_all, slice_split}

abbrev pub Words : Type 0
Words = List (List ℕ)

-- a line's words, or none where it has no such words or no LF ends it
abbrev pub ScriptLine : Type 0
ScriptLine = Option Words

abbrev pub is_space : ℕ → Bool
is_space b = b == 32

abbrev pub is_lf : ℕ → Bool
is_lf b = b == 10

abbrev pub is_printable : ℕ → Bool
is_printable b = nat_le 33 b && nat_le b 126

abbrev pub is_word : List ℕ → Bool
is_word word = not (length word == 0) && list_all is_printable word

-- the words of a line's text
unfoldable pub line_of : List ℕ → ScriptLine
line_of text = if list_all is_word (slice_split is_space text) then Some (slice_split is_space text) else None

-- what stands behind the last LF is a line that none ends
abbrev pub unended : List ℕ → List ScriptLine
unended [] = []
unended (b ∷ bs) = None ∷ []

abbrev pub lines_in : List (List ℕ) → List ScriptLine
lines_in [] = []
lines_in (last ∷ []) = unended last
lines_in (text ∷ next ∷ more) = line_of text ∷ lines_in (next ∷ more)

-- the lines of an input
unfoldable pub lines_of : List ℕ → List ScriptLine
lines_of input = lines_in (slice_split is_lf input)

-- Numbers: decimal digits without a sign.

abbrev pub is_digit : ℕ → Bool
is_digit b = nat_le 48 b && nat_le b 57

-- the number that digits write when they follow those of n
abbrev pub digits_after : ℕ → List ℕ → ℕ
digits_after n word = fold (λ (m : ℕ) (b : ℕ). m * 10 + (b - 48)) n word

-- the number that a word writes
abbrev pub number_of : List ℕ → Option ℕ
number_of word = if not (length word == 0) && list_all is_digit word then Some (digits_after 0 word) else None

abbrev pub below : ℕ → Option ℕ → Option ℕ
below bound None = None
below bound (Some n) = if nat_lt n bound then Some n else None

-- the number that a word writes, where it is below a bound
unfoldable pub number_below : ℕ → List ℕ → Option ℕ
number_below bound word = below bound (number_of word)
