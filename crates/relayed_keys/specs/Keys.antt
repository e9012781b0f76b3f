-- The commands that are passed on whole to the node of their keys' slot, and which of their words are keys: Redis command
-- reference, the key specifications of `COMMAND` of Redis 7.0. Which commands these are, how many words they take and
-- where their keys stand is the table of src/relay_table.rt: NAMES and SHAPES, row by row. Word 0 is the name.
-- The faults in their order: wrong number of words, an option that is not passed on, the number of keys, no key, keys of
-- different slots. Nothing of a refused request is sent.
use Rattle.std.specs.Prelude.{ℕ, ℤ, pos, negsuc, ◌+◌, ◌-◌, ◌/◌, ◌%◌, ◌==◌, nat_le, nat_lt, nat_eq, List, [], ◌∷◌, ◌++◌, length, take, drop, Bool, true, ◌&&◌, ◌||◌, not, if◌then◌else◌, Option, None, Some, Result, Ok, Err, slice_get, slice_index_or, codes}
use Rattle.std.specs.List.{list_all, list_any, position}
use Rattle.std.specs.Option.{option_map}
use Rattle.slot_hash.specs.Slot.{slot_of}
use Rattle.relayed_keys.specs.declared.table.Shape.{Shape}
use Rattle.relayed_keys.specs.declared.table.WordCount.{WordCount}
use Rattle.relayed_keys.specs.declared.table.WordCount.TheVariants.{Exactly, AtLeast}
use Rattle.relayed_keys.specs.declared.table.KeySpec.{KeySpec}
use Rattle.relayed_keys.specs.declared.table.KeySpec.TheVariants.{At, ToEnd, Counted, CountedInto, Stored, Sorted, Streams}
use Rattle.relayed_keys.specs.declared.table.CountStyle.{CountStyle}
use Rattle.relayed_keys.specs.declared.table.CountStyle.TheVariants.{Script, Function, SortedSets, SetCard, Pop}
use Rattle.relayed_keys.specs.declared.table.TheConstants.{NAMES, SHAPES}
use Rattle.relayed_keys.specs.declared.keys.KeyPlaces.{KeyPlaces}
use Rattle.relayed_keys.specs.declared.keys.RelayKeys.{RelayKeys}
use Rattle.relayed_keys.specs.declared.keys.RelayFault.{RelayFault}
use Rattle.relayed_keys.specs.declared.keys.RelayFault.TheVariants.{WrongCount, Blocks, SortBy, SortGet, NotANumber, BadCount, NegativeCount, NotAboveZero, NoInputKey, TooManyKeys, Syntax, Unbalanced, NoKey, CrossSlot}
use Rattle.key_split.specs.Names.{same_letters}
use Rattle.key_split.specs.Number.{number_of}
use Rattle.key_split.specs.Plan.{Words, word_at}

abbrev pub Found : Type 0
Found = Result KeyPlaces RelayFault

-- the word at the place is the text, without regard to case
abbrev pub word_is : Words → ℕ → List ℕ → Bool
word_is words place text = nat_lt place (length words) && same_letters (word_at words place) text

-- 124 is a bar
abbrev pub has_bar : List ℕ → Bool
has_bar text = list_any (λ byte. byte == 124) text

abbrev pub has_bar_at : ℕ → List ℕ → Bool
has_bar_at place text = nat_lt place (length text) && slice_index_or text place 0 == 124

-- the request is of the command of this name: where a bar stands behind its first word, the second one is the subcommand
abbrev pub is_named_by : List ℕ → Words → List ℕ → Bool
is_named_by first words name =
    if has_bar_at (length first) name
    then same_letters first (take (length first) name) && word_is words 1 (drop (length first + 1) name)
    else same_letters first name && not (has_bar first)

unfoldable pub is_named : Words → List ℕ → Bool
is_named words name = not (length words == 0) && is_named_by (word_at words 0) words name

-- the row of the request's command
unfoldable pub row_of : Words → Option ℕ
row_of words = position (λ name. is_named words name.now) NAMES

-- how many words a request of the row's command has, and where their keys stand
unfoldable pub shape_of : ℕ → Option Shape
shape_of row = slice_get SHAPES row

abbrev pub takes : WordCount → ℕ → Bool
takes (Exactly n) words = words == n
takes (AtLeast n) words = nat_le n words

-- keys from a place to before another
abbrev pub run : ℕ → ℕ → ℕ → KeyPlaces
run first end step = record { first = first; end = end; step = step; also = None }

-- how a server refuses a number of keys: what is no number, one below zero, zero, and one that is too large. Zero keys of
-- a script are this proxy's to refuse: nothing says on which node it runs.
abbrev pub not_a_number : CountStyle → RelayFault
not_a_number Script = NotANumber
not_a_number Function = BadCount
not_a_number SortedSets = NotANumber
not_a_number SetCard = NotAboveZero
not_a_number Pop = NotAboveZero

abbrev pub below_zero : CountStyle → ℕ → RelayFault
below_zero Script row = NegativeCount
below_zero Function row = NegativeCount
below_zero SortedSets row = NoInputKey row
below_zero SetCard row = NotAboveZero
below_zero Pop row = NotAboveZero

abbrev pub none_at_all : CountStyle → ℕ → RelayFault
none_at_all Script row = NoKey
none_at_all Function row = NoKey
none_at_all SortedSets row = NoInputKey row
none_at_all SetCard row = NotAboveZero
none_at_all Pop row = NotAboveZero

abbrev pub too_many : CountStyle → RelayFault
too_many Script = TooManyKeys
too_many Function = TooManyKeys
too_many SortedSets = Syntax
too_many SetCard = TooManyKeys
too_many Pop = Syntax

abbrev pub natural : ℤ → Option ℕ
natural (pos n) = Some n
natural (negsuc n) = None

-- how many keys there are, where so many words stand behind their number
abbrev pub count_within : CountStyle → ℕ → Option ℕ → ℕ → Result ℕ RelayFault
count_within style row None behind = Err (below_zero style row)
count_within style row (Some n) behind =
    if n == 0 then Err (none_at_all style row) else (if nat_le n behind then Ok n else Err (too_many style))

abbrev pub key_count : CountStyle → ℕ → Option ℤ → ℕ → Result ℕ RelayFault
key_count style row None behind = Err (not_a_number style)
key_count style row (Some number) behind = count_within style row (natural number) behind

abbrev pub behind_number : ℕ → Option ℕ → Result ℕ RelayFault → Found
behind_number first more (Err fault) = Err fault
behind_number first more (Ok count) = Ok (record { first = first; end = first + count; step = 1; also = more })

-- the keys behind their number, which stands at the place, and one more
abbrev pub counted : Words → ℕ → CountStyle → ℕ → Option ℕ → Found
counted words place style row more =
    if nat_le (length words) place then Err Syntax
    else behind_number (place + 1) more (key_count style row (number_of (word_at words place)) (length words - (place + 1)))

abbrev pub is_store : List ℕ → Bool
is_store word = same_letters (codes "STORE") word || same_letters (codes "STOREDIST") word

-- the words from a place on, but the last one
abbrev pub but_last : Words → Words
but_last words = take (length words - 1) words

abbrev pub front_from : ℕ → Words → Words
front_from place words = but_last (drop place words)

-- the place behind the first such word that stands at a place or later, and has a word behind it
abbrev pub place_behind : (List ℕ → Bool) → ℕ → Words → Option ℕ
place_behind test from words = option_map (λ place. from + place + 1) (position test (front_from from words))

-- the result is stored behind the first STORE or STOREDIST
abbrev pub stored : Words → ℕ → KeyPlaces
stored words from = record { first = 1; end = 2; step = 1; also = place_behind is_store from words }

abbrev pub has_word : List ℕ → Words → Bool
has_word text words = list_any (same_letters text) words

-- SORT: BY and GET read keys that the request does not name
abbrev pub sorted : Words → Found
sorted words =
    if has_word (codes "BY") (drop 2 words) then Err SortBy
    else (if has_word (codes "GET") (drop 2 words) then Err SortGet else Ok (stored words 2))

-- the first half of so many words
abbrev pub halved : ℕ → ℕ → Found
halved first count = if count % 2 == 0 then Ok (run first (first + count / 2) 1) else Err Unbalanced

abbrev pub is_streams : List ℕ → Bool
is_streams word = same_letters (codes "STREAMS") word

-- the first half of what stands behind STREAMS; BLOCK would stand in front of it
abbrev pub streams_at : Words → ℕ → ℕ → Found
streams_at words from first =
    if has_word (codes "BLOCK") (take (first - 1 - from) (drop from words)) then Err Blocks else halved first (length words - first)

abbrev pub streams_if : ℕ → Words → Option ℕ → Found
streams_if from words None = Err Syntax
streams_if from words (Some first) = streams_at words from first

abbrev pub streams : ℕ → Words → Found
streams from words = streams_if from words (place_behind is_streams from words)

abbrev pub places_as : KeySpec → ℕ → Words → Found
places_as (At first last) row words = Ok (run first (last + 1) 1)
places_as (ToEnd first step) row words = Ok (run first (length words) step)
places_as (Counted place style) row words = counted words place style row None
places_as (CountedInto place style) row words = counted words place style row (Some 1)
places_as (Stored from) row words = Ok (stored words from)
places_as Sorted row words = sorted words
places_as (Streams from) row words = streams from words

-- the words between the places
abbrev pub between : ℕ → ℕ → Words → Words
between first end words = take (end - first) (drop first words)

-- of the next words, each that is a step behind a key; the next key is so many words away
abbrev pub wait_behind : ℕ → ℕ → ℕ
wait_behind wait step = if wait == 0 then step - 1 else wait - 1

abbrev pub every : ℕ → ℕ → Words → Words
every wait step [] = []
every wait step (word ∷ words) =
    if wait == 0 then word ∷ every (wait_behind wait step) step words else every (wait_behind wait step) step words

abbrev pub one_more : Option ℕ → Words → Words
one_more None words = []
one_more (Some place) words = word_at words place ∷ []

-- the keys at the places
abbrev pub keys_at : KeyPlaces → Words → Words
keys_at places words = every 0 places.step (between places.first places.end words) ++ one_more places.also words

abbrev pub in_slot : ℕ → List ℕ → Bool
in_slot slot key = nat_eq (slot_of key) slot

abbrev pub also_in : ℕ → Option ℕ → Words → Bool
also_in slot None words = true
also_in slot (Some place) words = nat_lt place (length words) && in_slot slot (word_at words place)

-- all keys have the slot of the first
abbrev pub shared_in : KeyPlaces → Words → ℕ → Words → Result (Option RelayKeys) RelayFault
shared_in places keys slot words =
    if list_all (in_slot slot) (every 0 places.step keys) && also_in slot places.also words
    then Ok (Some (record { places = places; slot = slot })) else Err CrossSlot

abbrev pub shared_by : KeyPlaces → Words → Words → Result (Option RelayKeys) RelayFault
shared_by places keys words =
    if length keys == 0 then Err NoKey else shared_in places keys (slot_of (word_at keys 0)) words

abbrev pub shared : Words → KeyPlaces → Result (Option RelayKeys) RelayFault
shared words places = shared_by places (between places.first places.end words) words

abbrev pub shared_if : Words → Found → Result (Option RelayKeys) RelayFault
shared_if words (Err fault) = Err fault
shared_if words (Ok places) = shared words places

abbrev pub relayed_as : Words → ℕ → Shape → Result (Option RelayKeys) RelayFault
relayed_as words row shape =
    if takes shape.words (length words) then shared_if words (places_as shape.keys row words) else Err (WrongCount row)

abbrev pub relayed_by : Words → ℕ → Option Shape → Result (Option RelayKeys) RelayFault
relayed_by words row None = Ok None
relayed_by words row (Some shape) = relayed_as words row shape

abbrev pub relayed_if : Words → Option ℕ → Result (Option RelayKeys) RelayFault
relayed_if words None = Ok None
relayed_if words (Some row) = relayed_by words row (shape_of row)

-- the keys of a request and their slot, where the table has its command
unfoldable pub relayed_of : Words → Result (Option RelayKeys) RelayFault
relayed_of words = relayed_if words (row_of words)
