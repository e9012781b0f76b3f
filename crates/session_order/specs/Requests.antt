-- What a client's value asks for.
-- Redis's inline commands are no requests: their first byte begins no value.
use Rattle.std.specs.Prelude.{ℕ, List, Bool, true, false, Option, Some, None, if◌then◌else◌}
use Rattle.resp_wire.specs.Data.{Data, simple, error, integer, bulk, null_bulk, array, null_array, no_items, item}
use Rattle.resp_wire.specs.Words.{words_of}

-- A request with its words, nothing, or a value that is no request.
pub data RequestKindModel : Type 0 where
  Words : List (List ℕ) → RequestKindModel
  Skipped : RequestKindModel
  Refused : RequestKindModel

abbrev pub is_empty_array : Data → Bool
is_empty_array (simple text) = false
is_empty_array (error text) = false
is_empty_array (integer n) = false
is_empty_array (bulk word) = false
is_empty_array null_bulk = false
is_empty_array (array no_items) = true
is_empty_array (array (item first more)) = false
is_empty_array null_array = true

abbrev pub asked_by : Option (List (List ℕ)) → RequestKindModel
asked_by None = Refused
asked_by (Some words) = Words words

-- RESP2 specification, "Sending commands to a Redis server": a request is an array of bulk strings. An empty or a null
-- array is skipped.
abbrev pub asked_of : Data → RequestKindModel
asked_of value = if is_empty_array value then Skipped else asked_by (words_of value)
