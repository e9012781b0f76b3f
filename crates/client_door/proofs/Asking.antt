-- What an array of values asks for.
use Rattle.std.proofs.Common.{◌≡◌, ℕ, List, [], ◌∷◌, Bool, true, false, Option, Some, None, ◌&&◌, refl, sym, ap, ◌∙◌, map, take, drop, suc, ◌-◌, length, get_or, ◌≤◌, arith}
use Rattle.std.specs.Prelude.{option_map}
use Rattle.std.specs.List.{list_all}
use Rattle.std.proofs.lemmas.Bool.{true≢false, false≢true}
use Rattle.std.proofs.lemmas.List.{take_all}
use Rattle.resp_wire.specs.Data.{Data, simple, error, integer, bulk, null_bulk, array, null_array, items_of}
use Rattle.resp_wire.specs.Words.{bulks_of, is_bulk}
use Rattle.session_order.specs.Requests.{Words, Refused, asked_by, asked_of}
use Rattle.resp_wire.specs.Seen.{data_of}
use Rattle.resp_wire.specs.declared.value.Value.{Value}
use Rattle.client_door.specs.declared.answer.Answer.{Answer}
use Rattle.client_door.specs.Answers.{answer_to, is_word, word_in, words_answer}

all_words : (ds : List Data) → list_all is_bulk ds ≡ true → bulks_of (items_of ds) ≡ Some (map word_in ds)
all_words [] h = refl
all_words (bulk word ∷ ds) h = ap (option_map (λ words. word ∷ words)) (all_words ds h)
all_words (simple text ∷ ds) h = absurd (false≢true h)
all_words (error text ∷ ds) h = absurd (false≢true h)
all_words (integer n ∷ ds) h = absurd (false≢true h)
all_words (null_bulk ∷ ds) h = absurd (false≢true h)
all_words (array items ∷ ds) h = absurd (false≢true h)
all_words (null_array ∷ ds) h = absurd (false≢true h)

not_all_words : (ds : List Data) → list_all is_bulk ds ≡ false → bulks_of (items_of ds) ≡ None
not_all_words [] h = absurd (true≢false h)
not_all_words (bulk word ∷ ds) h = ap (option_map (λ words. word ∷ words)) (not_all_words ds h)
not_all_words (simple text ∷ ds) h = refl
not_all_words (error text ∷ ds) h = refl
not_all_words (integer n ∷ ds) h = refl
not_all_words (null_bulk ∷ ds) h = refl
not_all_words (array items ∷ ds) h = refl
not_all_words (null_array ∷ ds) h = refl

each : (vs : List Value) → list_all is_bulk (map data_of vs) ≡ list_all is_word vs
each [] = refl
each (v ∷ vs) = ap (λ rest. is_word v && rest) (each vs)

-- an array of words asks for them, and another one is refused
pub words_asked : (v : Value) (vs : List Value) → list_all is_word (v ∷ vs) ≡ true
    → asked_of (array (items_of (map data_of (v ∷ vs)))) ≡ Words (map word_in (map data_of (v ∷ vs)))
words_asked v vs h = ap asked_by (all_words (map data_of (v ∷ vs)) (each (v ∷ vs) ∙ h))

pub is_refused : (v : Value) (vs : List Value) → list_all is_word (v ∷ vs) ≡ false → asked_of (array (items_of (map data_of (v ∷ vs)))) ≡ Refused
is_refused v vs h = ap asked_by (not_all_words (map data_of (v ∷ vs)) (each (v ∷ vs) ∙ h))

-- the answer to words is that to their array
pub answered : (password : List ℕ) (items : List Value) (name : Value) (given : Answer) → 1 ≤ length items → name ≡ get_or items 0 name → list_all is_word items ≡ true
    → given ≡ words_answer password (word_in (data_of name) ∷ map word_in (map data_of (take (length items - 1) (drop 1 items))))
    → given ≡ answer_to password (asked_of (array (items_of (map data_of items))))
answered password [] name given some at are is = absurd (Prim.omega (arith, some))
answered password (v ∷ vs) name given some at are is =
    let rest : take (suc (length vs) - 1) vs ≡ vs = take_all (suc (length vs) - 1) vs (omega arith) in
    is ∙ ap (λ later. words_answer password (word_in (data_of name) ∷ map word_in (map data_of later))) rest
    ∙ ap (λ n. words_answer password (word_in (data_of n) ∷ map word_in (map data_of vs))) at ∙ ap (answer_to password) (sym (words_asked v vs are))
