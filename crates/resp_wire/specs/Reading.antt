-- Reading as a function on lists, from where a value begins: what the private functions compute.
-- No contract of another crate cites it. `front` (FirstValue.antt) is defined by it.
use Rattle.std.specs.Prelude.{◌==◌, ◌-◌, ◌&&◌, ◌||◌, ℕ, suc, zero, Bool, false, List, [], ◌∷◌, take, drop, nat_lt, if◌then◌else◌}
use Rattle.std.specs.Option.{option_map_or}
use Rattle.resp_wire.specs.Data.{Data, Items, simple, error, integer, bulk, null_bulk, array, null_array, no_items, item}
use Rattle.resp_wire.specs.LimitsModel.{LimitsModel}
use Rattle.resp_wire.specs.Spelling.{cr, lf, plus, minus, colon, dollar, length_in, integer_in}
use Rattle.resp_wire.specs.Faults.{is_kind}
use Rattle.resp_wire.specs.declared.fault.WireFault.{WireFault}
use Rattle.resp_wire.specs.declared.fault.WireFault.TheVariants.{BadType, BadNumber, TooLong, TooMany, TooDeep, BadEnd}

-- what the bytes begin with and the bytes after it; or they end too early; or the fault
pub data Reading (A : Type 0) : Type 0 where
  whole : A → List ℕ → Reading A
  partial : Reading A
  faulty : WireFault → Reading A

abbrev pub then_read : {A B : Type 0} → Reading A → (A → List ℕ → Reading B) → Reading B
then_read (whole x rest) f = f x rest
then_read partial f = partial
then_read (faulty e) f = faulty e

-- CR and LF
abbrev pub end_at : List ℕ → Reading (Unit {0})
end_at [] = partial
end_at (b ∷ []) = if b == cr then partial else faulty BadEnd
end_at (b ∷ c ∷ more) = if b == cr && c == lf then whole tt more else faulty BadEnd

-- the text of a line, of which at most `left` bytes more may come
unfoldable pub text_at : List ℕ → ℕ → Reading (List ℕ)
text_at [] left = partial
text_at (b ∷ bs) left =
    if b == cr || b == lf then then_read (end_at (b ∷ bs)) (λ _ rest. whole [] rest)
    else (if left == 0 then faulty TooLong else then_read (text_at bs (left - 1)) (λ text rest. whole (b ∷ text) rest))

-- `n` bytes, CR and LF
unfoldable pub body_at : ℕ → List ℕ → Reading (List ℕ)
body_at n bytes = then_read (end_at (drop n bytes)) (λ _ rest. whole (take n bytes) rest)

-- the text is -1
abbrev pub is_none : List ℕ → Bool
is_none [] = false
is_none (a ∷ []) = false
is_none (a ∷ b ∷ []) = a == 45 && b == 49
is_none (a ∷ b ∷ c ∷ more) = false

-- what a text says of a length: null, a number, or nothing
abbrev pub by_length : {A : Type 0} → List ℕ → Reading A → (ℕ → Reading A) → Reading A
by_length text null counted = if is_none text then null else option_map_or counted (length_in text) (faulty BadNumber)

unfoldable pub integer_at : List ℕ → List ℕ → Reading Data
integer_at text rest = option_map_or (λ z. whole (integer z) rest) (integer_in text) (faulty BadNumber)

-- a bulk string of `n` bytes
abbrev pub counted_bulk : LimitsModel → List ℕ → ℕ → Reading Data
counted_bulk l rest n = if nat_lt l.bulk n then faulty TooLong else then_read (body_at n rest) (λ body after. whole (bulk body) after)

unfoldable pub bulk_at : LimitsModel → List ℕ → List ℕ → Reading Data
bulk_at l text rest = by_length text (whole null_bulk rest) (counted_bulk l rest)

-- an array of `n` items
abbrev pub counted_array : (ℕ → List ℕ → Reading Items) → List ℕ → ℕ → Reading Data
counted_array items rest n = then_read (items n rest) (λ vs after. whole (array vs) after)

unfoldable pub array_at : (ℕ → List ℕ → Reading Items) → List ℕ → List ℕ → Reading Data
array_at items text rest = by_length text (whole null_array rest) (counted_array items rest)

-- what follows a line of this kind and text
unfoldable pub after_line : LimitsModel → (ℕ → List ℕ → Reading Items) → ℕ → List ℕ → List ℕ → Reading Data
after_line l items kind text rest =
    if kind == plus then whole (simple text) rest
    else (if kind == minus then whole (error text) rest
    else (if kind == colon then integer_at text rest
    else (if kind == dollar then bulk_at l text rest else array_at items text rest)))

unfoldable pub value_with : LimitsModel → (ℕ → List ℕ → Reading Items) → List ℕ → Reading Data
value_with l items [] = partial
value_with l items (b ∷ bytes) = if is_kind b then then_read (text_at bytes l.line) (after_line l items b) else faulty BadType

-- this number of values, one after another
unfoldable pub items_at : (List ℕ → Reading Data) → ℕ → List ℕ → Reading Items
items_at read zero bytes = whole no_items bytes
items_at read (suc n) bytes = then_read (read bytes) (λ v rest. then_read (items_at read n rest) (λ vs after. whole (item v vs) after))

-- the `n` items of an array where a number of arrays may still stand one inside another
abbrev pub items_in : LimitsModel → ℕ → ℕ → List ℕ → Reading Items
items_in l zero n rest = faulty TooDeep
items_in l (suc inner) n rest = if nat_lt l.items n then faulty TooMany else items_at (value_with l (items_in l inner)) n rest

-- a value where `room` arrays may still stand one inside another
abbrev pub value_at : LimitsModel → ℕ → List ℕ → Reading Data
value_at l room bytes = value_with l (items_in l room) bytes
