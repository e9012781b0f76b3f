-- How a line of the log spells what it tells: in visible characters of ASCII and spaces, so that no value ends a line.
use Rattle.std.specs.Prelude.{ℕ, List, ◌++◌, Bool, ◌&&◌, not, nat_eq, nat_le, length, map, codes, if◌then◌else◌}
use Rattle.std.specs.List.{list_all}

-- a space or a visible character
abbrev pub is_printable : ℕ → Bool
is_printable byte = nat_le 32 byte && nat_le byte 126

-- a printable character that may stand between quotes: neither a quote nor a backslash
abbrev pub is_quotable : ℕ → Bool
is_quotable byte = is_printable byte && (not (nat_eq byte 34) && not (nat_eq byte 92))

-- one that needs no quotes: neither a space nor `=`
abbrev pub is_bare : ℕ → Bool
is_bare byte = is_quotable byte && (not (nat_eq byte 32) && not (nat_eq byte 61))

-- `?` stands for every other byte
abbrev pub quoted_byte : ℕ → ℕ
quoted_byte byte = if is_quotable byte then byte else 63

abbrev pub quoted : List ℕ → List ℕ
quoted value = codes "\"" ++ map quoted_byte value ++ codes "\""

-- a value as it stands, or between quotes
abbrev pub value_text : List ℕ → List ℕ
value_text value = if nat_le 1 (length value) && list_all is_bare value then value else quoted value

-- ` key=value`
abbrev pub pair_text : List ℕ → List ℕ → List ℕ
pair_text key value = codes " " ++ key ++ codes "=" ++ value_text value

-- `time=.. level=.. event=..`
abbrev pub head_text : List ℕ → List ℕ → List ℕ → List ℕ
head_text time level event = codes "time=" ++ value_text time ++ pair_text (codes "level") level ++ pair_text (codes "event") event
