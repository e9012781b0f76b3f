-- What a value asks for.
use Rattle.std.proofs.Common.{◌≡◌, ◌<◌, ◌∷◌, [], List, ℕ, Bool, true, false, Option, Some, None, ap, refl, ◌∙◌, arith, length, cond, nat_eq, map}
use Rattle.std.specs.Prelude.{option_map, is_some}
use Rattle.resp_wire.specs.Data.{Data, simple, error, integer, bulk, null_bulk, array, null_array, no_items, item, items_of}
use Rattle.resp_wire.specs.Words.{words_of, bulks_of}
use Rattle.resp_wire.specs.Seen.{data_of}
use Rattle.resp_wire.specs.declared.value.Value.{Value}
use Rattle.session_order.proofs.Lists.{eqb-no}
use Rattle.session_order.specs.Requests.{Words, Skipped, Refused, is_empty_array, asked_by, asked_of}

pub asks_nothing : (value : Data) → is_empty_array value ≡ true → asked_of value ≡ Skipped
asks_nothing value is = ap (λ (b : Bool). cond b Skipped (asked_by (words_of value))) is

no_words : (o : Option (List (List ℕ))) → is_some o ≡ false → asked_by o ≡ Refused
no_words None is = refl
no_words (Some words) is = absurd (cc)

pub is_refused : (value : Data) → is_empty_array value ≡ false → is_some (words_of value) ≡ false → asked_of value ≡ Refused
is_refused value full none = ap (λ (b : Bool). cond b Skipped (asked_by (words_of value))) full ∙ no_words (words_of value) none

some_in : (first : List ℕ) (others : Option (List (List ℕ))) (words : List (List ℕ)) → option_map (λ more. first ∷ more) others ≡ Some words → 0 < length words
some_in first others [] is = elim others as (λ o. option_map (λ more. first ∷ more) o ≡ Some [] → 0 < 0) [ Some xs ↦ λ h. (let e : Some (first ∷ xs) ≡ Some [] = h in cc) | None ↦ λ h. (let e : None ≡ Some [] = h in cc) ] is
some_in first others (w ∷ ws) is = omega arith

-- a request that is no empty array has a word
pub has_words : (value : Data) (words : List (List ℕ)) → is_empty_array value ≡ false → words_of value ≡ Some words → 0 < length words
has_words (simple text) words some is = cc
has_words (error text) words some is = cc
has_words (integer n) words some is = cc
has_words (bulk word) words some is = cc
has_words null_bulk words some is = cc
has_words null_array words some is = cc
has_words (array no_items) words some is = cc
has_words (array (item (bulk word) more)) words some is = some_in word (bulks_of more) words is
has_words (array (item (simple text) more)) words some is = cc
has_words (array (item (error text) more)) words some is = cc
has_words (array (item (integer n) more)) words some is = cc
has_words (array (item null_bulk more)) words some is = cc
has_words (array (item (array ds) more)) words some is = cc
has_words (array (item null_array more)) words some is = cc

-- a value that is a request asks for its words, and there is one
pub words_asked : (value : Data) (words : List (List ℕ)) → is_empty_array value ≡ false → words_of value ≡ Some words
    → (asked_of value ≡ Words words) × (0 < length words)
words_asked value words full are =
    (ap (λ (b : Bool). cond b Skipped (asked_by (words_of value))) full ∙ ap asked_by are, has_words value words full are)

some_words : (o : Option (List (List ℕ))) → is_some o ≡ true → (words : List (List ℕ)) × (asked_by o ≡ Words words)
some_words None is = absurd (cc)
some_words (Some words) is = (words, refl)

-- so does one that is kept
pub request_kept : (value : Data) → is_empty_array value ≡ false → is_some (words_of value) ≡ true → (words : List (List ℕ)) × (asked_of value ≡ Words words)
request_kept value full some =
    let asked = some_words (words_of value) some in
    (asked.0, ap (λ (b : Bool). cond b Skipped (asked_by (words_of value))) full ∙ asked.1)

-- an array is empty exactly where it has no item
pub array_is_empty : (value : Data) (items : List Data) (vs : List Value) → value ≡ array (items_of items) → map data_of vs ≡ items
    → nat_eq (length vs) 0 ≡ is_empty_array value
array_is_empty value items [] is same = rw (is, ← same) refl
array_is_empty value items (v ∷ vs) is same = rw (is, ← same) (eqb-no (length (v ∷ vs)) 0 (λ none. omega (arith, none)))
