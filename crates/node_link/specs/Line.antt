-- The parts of a redirection line: Redis Cluster specification, "MOVED Redirection" and "ASK redirection".
-- A line is `MOVED <slot> <host>:<port>` or `ASK <slot> <host>:<port>`.
-- Words are separated by one space; those behind the endpoint don't count. A port is 1 to 65,535, a slot below 16,384.
use Rattle.std.specs.Prelude.{◌+◌, ◌*◌, ◌-◌, List, ℕ, Option, Some, None, ◌&&◌, nat_eq, nat_le, length, fold, option_map, if◌then◌else◌}
use Rattle.std.specs.List.{before_first, after_first, before_last, after_last, list_all, list_any}
use Rattle.std.specs.Char.{is_ascii_digit}
use Rattle.slot_map.specs.Table.{Endpoint}

-- words are cut at single spaces
abbrev pub first_word : List ℕ → List ℕ
first_word line = before_first (λ b. nat_eq b 32) line

abbrev pub other_words : List ℕ → List ℕ
other_words line = after_first (λ b. nat_eq b 32) line

-- the value of decimal digits
abbrev pub digits_value : List ℕ → ℕ
digits_value text = fold (λ n b. 10 * n + (b - 48)) 0 text

-- the value of one to five decimal digits
abbrev pub short_number : List ℕ → Option ℕ
short_number text =
    if nat_le 1 (length text) && nat_le (length text) 5 && list_all is_ascii_digit text
    then Some (digits_value text) else None

abbrev pub if_within : ℕ → ℕ → Option ℕ → Option ℕ
if_within low high None = None
if_within low high (Some n) = if nat_le low n && nat_le n high then Some n else None

-- a number of one to five digits in a range
abbrev pub number_within : ℕ → ℕ → List ℕ → Option ℕ
number_within low high text = if_within low high (short_number text)

-- an endpoint is cut at its last colon, and its port is from 1 to 65,535
abbrev pub endpoint_in : List ℕ → Option Endpoint
endpoint_in text =
    if list_any (λ b. nat_eq b 58) text
    then option_map (λ port. record { host = before_last (λ b. nat_eq b 58) text; port = port })
    (number_within 1 65535 (after_last (λ b. nat_eq b 58) text))
    else None

-- where a line sends a command on
pub record Target : Type 0 where
  pub slot : ℕ
  pub endpoint : Endpoint

abbrev pub target_at : Option ℕ → Option Endpoint → Option Target
target_at None endpoint = None
target_at (Some slot) endpoint = option_map (λ at. record { slot = slot; endpoint = at }) endpoint

-- the words behind the first name a slot and an endpoint; further words are skipped
abbrev pub target_in : List ℕ → Option Target
target_in words = target_at (number_within 0 16383 (first_word words)) (endpoint_in (first_word (other_words words)))
