-- The spelling of words, piece by piece.
use Rattle.std.proofs.Common.{◌≡◌, ◌<◌, ◌++◌, ◌∷◌, [], ◌+◌, ◌*◌, List, ℕ, length, map, refl, ap, sym, ◌∙◌, arith, append_assoc, length-append}
use Rattle.std.proofs.lemmas.Grind.{flat_map-append}
use Rattle.std.proofs.lemmas.Fmt.{decimal_digit}
use Rattle.std.specs.Prelude.{Result, Ok, Err, OnOk}
use Rattle.std.specs.Prelude.{codes, decimal}
use Rattle.std.specs.List.{flat_map}
use Rattle.resp_wire.specs.Canonical.{canonical_all}
use Rattle.resp_wire.specs.Data.{bulk, items_of}
use Rattle.resp_wire.specs.Spelling.{count_of}
use Rattle.key_split.specs.declared.part.Op.{Op}
use Rattle.key_split.specs.PartModel.{PartModel, Pair}
use Rattle.key_split.specs.Names.{text_of}
use Rattle.key_split.specs.Words.{op_name, behind_key, pair_words, words_of}
use Rattle.key_split.specs.declared.travel.Batch.{Batch}
use Rattle.key_split.specs.Requests.{Request, requests_of}
use Rattle.key_split.specs.Runs.{RunModel, requests_of_run}
use Rattle.node_link.specs.Blocks.{spelled_block}
use Rattle.node_link.specs.Bytes.{spelled, spelled_words, words_in}
use Rattle.node_link.specs.Spelling.{head, spelled_bulk, spelled_bulks}

count_is : (words : List (List ℕ)) → count_of (items_of (map bulk words)) ≡ length words
count_is [] = refl
count_is (word ∷ words) = grind (arith, count_is words)

all_is : (words : List (List ℕ)) → canonical_all (items_of (map bulk words)) ≡ spelled_bulks words
all_is [] = refl
all_is (word ∷ words) = ap (λ rest. spelled_bulk word ++ rest) (all_is words)

head_then : (number : ℕ) (rest : List ℕ) → head 42 number ++ rest ≡ 42 ∷ (decimal number ++ 13 ∷ 10 ∷ rest)
head_then number rest = ap (λ xs. 42 ∷ xs) (append_assoc (decimal number) (13 ∷ 10 ∷ []) rest)

-- words are a line with their count, and their spellings
pub spelled_words_are : (words : List (List ℕ)) → spelled_words words ≡ head 42 (length words) ++ spelled_bulks words
spelled_words_are words = rw (count_is words, all_is words) (sym (head_then (length words) (spelled_bulks words)))

pub spelled_bulks-append : (a b : List (List ℕ)) → spelled_bulks (a ++ b) ≡ spelled_bulks a ++ spelled_bulks b
spelled_bulks-append a b = flat_map-append spelled_bulk a b

-- how many words the further keys make
further : (o : Op) (count : ℕ) → ((v : List ℕ) → count ≡ length (behind_key o v)) → (pairs : List Pair)
    → length (flat_map (pair_words o) pairs) ≡ (1 + count) * length pairs
further o count each [] = omega arith
further o count each (pair ∷ pairs) =
    omega (arith, length-append (pair_words o pair) (flat_map (pair_words o) pairs), each pair.1, further o count each pairs)

-- how many words a part makes
pub length-words_of : (part : PartModel) (count : ℕ) → ((v : List ℕ) → count ≡ length (behind_key part.op v))
    → 1 + (1 + count) * (1 + length part.rest) ≡ length (words_of part)
length-words_of part count each =
    omega (arith, length-append (behind_key part.op part.arg) (flat_map (pair_words part.op) part.rest), each part.arg, further part.op count each part.rest)

regrouped : (a b c d e f : List ℕ) → ((((a ++ b) ++ c) ++ d) ++ e) ++ f ≡ a ++ (b ++ (c ++ (d ++ (e ++ f))))
regrouped a b c d e f = simp append_assoc refl

-- the pieces of a part, one after another
part_spelled : (part : PartModel) (old : List ℕ)
    → ((((old ++ head 42 (length (words_of part))) ++ spelled_bulk (text_of (op_name part.op))) ++ spelled_bulk part.key)
    ++ spelled_bulks (behind_key part.op part.arg)) ++ spelled_bulks (flat_map (pair_words part.op) part.rest)
    ≡ old ++ spelled_words (words_of part)
part_spelled part old =
    let count = head 42 (length (words_of part)) in
    let name = spelled_bulk (text_of (op_name part.op)) in
    let key = spelled_bulk part.key in
    let behind = behind_key part.op part.arg in
    let more = flat_map (pair_words part.op) part.rest in
    let words : spelled_words (words_of part) ≡ count ++ (name ++ (key ++ (spelled_bulks behind ++ spelled_bulks more))) =
    spelled_words_are (words_of part) ∙ ap (λ xs. count ++ (name ++ (key ++ xs))) (spelled_bulks-append behind more) in
    regrouped old count name key (spelled_bulks behind) (spelled_bulks more) ∙ sym (ap (λ xs. old ++ xs) words)

pub part_pieces : (part : PartModel) (count : ℕ) (d0 d1 d2 d3 d4 d5 : List ℕ) → count ≡ length (words_of part)
    → d1 ≡ d0 ++ head 42 count → d2 ≡ d1 ++ spelled_bulk (text_of (op_name part.op)) → d3 ≡ d2 ++ spelled_bulk part.key
    → d4 ≡ d3 ++ spelled_bulks (behind_key part.op part.arg) → d5 ≡ d4 ++ spelled_bulks (flat_map (pair_words part.op) part.rest)
    → d5 ≡ d0 ++ spelled_words (words_of part)
part_pieces part count d0 d1 d2 d3 d4 d5 e e1 e2 e3 e4 e5 = rw (e5, e4, e3, e2, e1, e) (part_spelled part d0)

-- what follows where a call succeeded
pub on_ok : {T E A B : Type 0} → (result : Result T E) → (A → B) → OnOk result A → OnOk result B
on_ok (Ok x) f a = f a
on_ok (Err e) f a = tt

-- the line of a number of one digit
pub short_head : (kind number : ℕ) → number < 10 → head kind number ≡ kind ∷ (48 + number) ∷ 13 ∷ 10 ∷ []
short_head kind number small = ap (λ xs. kind ∷ (xs ++ 13 ∷ 10 ∷ [])) (decimal_digit number small)

block_regrouped : (a b c d e : List ℕ) → (((a ++ b) ++ c) ++ d) ++ e ≡ a ++ (b ++ ((c ++ d) ++ e))
block_regrouped a b c d e = simp append_assoc refl

pub spelled-append : (a b : List Request) → spelled (a ++ b) ≡ spelled a ++ spelled b
spelled-append a b = flat_map-append (λ request. spelled_words (words_in request)) a b

-- the pieces of a block, one after another
pub block_pieces : (run : RunModel) (d0 d1 d2 d3 d4 : List ℕ) → d1 ≡ d0 ++ spelled_words (codes "MULTI" ∷ []) → d2 ≡ d1 ++ spelled (requests_of run.first)
    → d3 ≡ d2 ++ spelled (flat_map requests_of run.later) → d4 ≡ d3 ++ spelled_words (codes "EXEC" ∷ []) → d4 ≡ d0 ++ spelled_block (requests_of_run run)
block_pieces run d0 d1 d2 d3 d4 e1 e2 e3 e4 =
    let multi = spelled_words (codes "MULTI" ∷ []) in
    let exec = spelled_words (codes "EXEC" ∷ []) in
    let first = spelled (requests_of run.first) in
    let later = spelled (flat_map requests_of run.later) in
    let pieces : d4 ≡ (((d0 ++ multi) ++ first) ++ later) ++ exec =
    e4 ∙ ap (λ (d : List ℕ). d ++ exec) (e3 ∙ ap (λ (d : List ℕ). d ++ later) (e2 ∙ ap (λ (d : List ℕ). d ++ first) e1)) in
    pieces ∙ block_regrouped d0 multi first later exec
    ∙ ap (λ (d : List ℕ). d0 ++ (multi ++ (d ++ exec))) (sym (spelled-append (requests_of run.first) (flat_map requests_of run.later)))

-- a batch behind those that are spelled
pub batch_behind : (d0 d1 : List ℕ) (batch : Batch) (further : List Batch) → d1 ≡ d0 ++ spelled (requests_of batch)
    → d1 ++ spelled (flat_map requests_of further) ≡ d0 ++ spelled (flat_map requests_of (batch ∷ further))
batch_behind d0 d1 batch further is =
    ap (λ (d : List ℕ). d ++ spelled (flat_map requests_of further)) is ∙ append_assoc d0 (spelled (requests_of batch)) (spelled (flat_map requests_of further))
    ∙ ap (λ (d : List ℕ). d0 ++ d) (sym (spelled-append (requests_of batch) (flat_map requests_of further)))
