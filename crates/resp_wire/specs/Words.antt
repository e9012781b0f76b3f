-- The words of a request (RESP2 specification, "Sending commands to a Redis server": an array of bulk strings alone).
-- An empty array has no words. What a client asks for with one is said in session_order, Requests.antt.
use Rattle.std.specs.Prelude.{ℕ, List, [], ◌∷◌, Option, Some, None, option_map, Bool, true, false}
use Rattle.resp_wire.specs.Data.{Data, Items, bulk, array, no_items, item}

abbrev pub is_bulk : Data → Bool
is_bulk (bulk word) = true
is_bulk v = false

-- the bytes of the items, where each is a bulk string
abbrev pub bulks_of : Items → Option (List (List ℕ))
bulks_of no_items = Some []
bulks_of (item (bulk word) vs) = option_map (λ words. word ∷ words) (bulks_of vs)
bulks_of (item v vs) = None

-- the words, where the value is an array of bulk strings
abbrev pub words_of : Data → Option (List (List ℕ))
words_of (array vs) = bulks_of vs
words_of v = None
