-- Pieces between separators, words and lines.
use Rattle.std.proofs.Common.{◌≡◌, ℕ, suc, ◌+◌, ◌-◌, ◌<◌, ◌≤◌, nat_eq, ◌&&◌, not, List, [], ◌∷◌, ◌++◌, length, take, drop, Some, None, Bool, true, false, refl, sym, ap, ◌∙◌, arith, append_assoc, length-drop}
use Rattle.std.specs.Prelude.{position, nat_lt, cond}
use Rattle.std.specs.List.{list_all, slice_split, before_first, after_first, position_or_len}
use Rattle.std.proofs.lemmas.Bool.Decides.{nat_tests}
use Rattle.std.proofs.lemmas.List.Folds.{list_all-append}
use Rattle.std.proofs.lemmas.List.Splits.{slice_split_first, slice_split_none, length-slice_split}
use Rattle.std.proofs.lemmas.List.Sums.{fails_before_first}
use borrow.Author.Tests.{ltb-true, ltb-false}
use Rattle.cluster_world.specs.Script.{ScriptLine, Words, is_lf, is_space, is_word, line_of, lines_in, lines_of}

pub and-false : (b : Bool) → (b && false) ≡ false
and-false true = refl
and-false false = refl

-- the first that passes, by its place
pub place-within : {X : Type 0} (p : X → Bool) (xs : List X) (i : ℕ) → position p xs ≡ Some i → (position_or_len p xs ≡ i) × (i < length xs)
place-within p xs i e = go (nat_lt (position_or_len p xs) (length xs)) refl e
  where
    go : (b : Bool) → nat_lt (position_or_len p xs) (length xs) ≡ b → cond b (Some (position_or_len p xs)) None ≡ Some i → (position_or_len p xs ≡ i) × (i < length xs)
    go true t h = let same : position_or_len p xs ≡ i = cc in let lt : position_or_len p xs < length xs = ltb-true _ _ t in (same, omega (arith, same, lt))
    go false t h = absurd (cc)

at_most : {X : Type 0} (p : X → Bool) (xs : List X) → position_or_len p xs ≤ length xs
at_most p [] = omega arith
at_most p (x ∷ xs) = go (not (p x)) (at_most p xs)
  where
    go : (b : Bool) → position_or_len p xs ≤ length xs → cond b (1 + position_or_len p xs) 0 ≤ suc (length xs)
    go true h = omega (arith, h)
    go false h = omega arith

-- none passes
pub nowhere : {X : Type 0} (p : X → Bool) (xs : List X) → position p xs ≡ None → position_or_len p xs ≡ length xs
nowhere p xs e = go (nat_lt (position_or_len p xs) (length xs)) refl e
  where
    go : (b : Bool) → nat_lt (position_or_len p xs) (length xs) ≡ b → cond b (Some (position_or_len p xs)) None ≡ None → position_or_len p xs ≡ length xs
    go true t h = absurd (cc)
    go false t h = let le : length xs ≤ position_or_len p xs = ltb-false _ _ t in omega (arith, le, at_most p xs)

-- a list is cut at the first that passes
pub split_cut : (p : ℕ → Bool) (bytes front behind : List ℕ) → position_or_len p bytes < length bytes → front ≡ before_first p bytes → behind ≡ after_first p bytes
    → slice_split p bytes ≡ front ∷ slice_split p behind
split_cut p bytes front behind lt f b =
    slice_split_first p bytes 0 lt ∙ ap (λ x. x ∷ slice_split p (after_first p bytes)) (sym f) ∙ ap (λ x. front ∷ slice_split p x) (sym b)

pub split_whole : (p : ℕ → Bool) (bytes : List ℕ) → position_or_len p bytes ≡ length bytes → slice_split p bytes ≡ bytes ∷ []
split_whole p bytes e = slice_split_none p bytes (λ k d lt. fails_before_first p bytes k d (omega (arith, lt, e)))

-- Words, one after another.

fails_at : (words more : Words) (piece : List ℕ) → is_word piece ≡ false → list_all is_word (words ++ piece ∷ more) ≡ false
fails_at words more piece wrong =
    list_all-append is_word words (piece ∷ more) ∙ ap (λ b. list_all is_word words && (b && list_all is_word more)) wrong ∙ and-false (list_all is_word words)

pub no_words : (text rest piece : List ℕ) (words more : Words) → slice_split is_space text ≡ words ++ slice_split is_space rest
    → slice_split is_space rest ≡ piece ∷ more → is_word piece ≡ false → None ≡ line_of text
unfolding line_of
no_words text rest piece words more so_far next wrong =
    let all = ap (list_all is_word) (so_far ∙ ap (λ ps. words ++ ps) next) ∙ fails_at words more piece wrong in
    sym (ap (λ b. cond b (Some (slice_split is_space text)) None) all)

passes_with : (words : Words) (piece : List ℕ) → list_all is_word words ≡ true → is_word piece ≡ true → list_all is_word (words ++ piece ∷ []) ≡ true
passes_with words piece all right =
    list_all-append is_word words (piece ∷ []) ∙ ap (λ b. b && (is_word piece && true)) all ∙ ap (λ b. b && true) right

pub one_more : (text rest piece behind : List ℕ) (words grown : Words) → slice_split is_space text ≡ words ++ slice_split is_space rest
    → slice_split is_space rest ≡ piece ∷ slice_split is_space behind → is_word piece ≡ true → list_all is_word words ≡ true → grown ≡ words ++ piece ∷ []
    → (slice_split is_space text ≡ grown ++ slice_split is_space behind) × (list_all is_word grown ≡ true)
one_more text rest piece behind words grown so_far next right all added = (
  so_far ∙ ap (λ ps. words ++ ps) next ∙ sym (append_assoc words (piece ∷ []) (slice_split is_space behind)) ∙ ap (λ ps. ps ++ slice_split is_space behind) (sym added),
  ap (list_all is_word) added ∙ passes_with words piece all right,
)

pub all_words : (text rest : List ℕ) (words grown : Words) → slice_split is_space text ≡ words ++ slice_split is_space rest
    → slice_split is_space rest ≡ rest ∷ [] → is_word rest ≡ true → list_all is_word words ≡ true → grown ≡ words ++ rest ∷ [] → Some grown ≡ line_of text
unfolding line_of
all_words text rest words grown so_far last right all added =
    let same : slice_split is_space text ≡ grown = so_far ∙ ap (λ ps. words ++ ps) last ∙ sym added in
    let passes = ap (list_all is_word) (same ∙ added) ∙ passes_with words rest all right in
    sym (ap (λ b. cond b (Some (slice_split is_space text)) None) passes ∙ ap Some same)

-- Lines, one after another.

pub no_lines : (script : List ℕ) → nat_eq (length script) 0 ≡ true → lines_of script ≡ []
unfolding lines_of
no_lines [] none = refl
no_lines (b ∷ bs) none = let bad : ⊥ = grind (arith, nat_tests, none) in absurd bad

lines-cons : (text : List ℕ) (pieces : List (List ℕ)) → 0 < length pieces → lines_in (text ∷ pieces) ≡ line_of text ∷ lines_in pieces
lines-cons text [] some = absurd (omega (arith, some))
lines-cons text (piece ∷ pieces) some = refl

pub line_off : (script text rest : List ℕ) (line : ScriptLine) → position_or_len is_lf script < length script → text ≡ before_first is_lf script → rest ≡ after_first is_lf script
    → line ≡ line_of text → (lines_of script ≡ line ∷ lines_of rest) × (length rest < length script)
unfolding lines_of
line_off script text rest line lt front behind is =
    let some : 0 < length (slice_split is_lf rest) = omega (arith, length-slice_split is_lf rest) in
    let size = ap length behind in (
      ap lines_in (split_cut is_lf script text rest lt front behind) ∙ lines-cons text (slice_split is_lf rest) some ∙ ap (λ l. l ∷ lines_in (slice_split is_lf rest)) (sym is),
      omega (arith, size, length-drop (position_or_len is_lf script + 1) script, lt),
    )

nothing : (n : ℕ) (xs : List ℕ) → take (n - n) xs ≡ []
nothing n xs = let none : n - n ≡ 0 = omega arith in ap (λ k. take k xs) none

pub last_line : (script : List ℕ) → nat_eq (length script) 0 ≡ false → position_or_len is_lf script ≡ length script
    → (lines_of script ≡ None ∷ lines_of (take (length script - length script) (drop (length script) script)))
    × (length (take (length script - length script) (drop (length script) script)) < length script)
unfolding lines_of
last_line [] some none = absurd (cc)
last_line (b ∷ bs) some none =
    let gone = nothing (length (b ∷ bs)) (drop (length (b ∷ bs)) (b ∷ bs)) in
    let size = ap length gone in (
      ap lines_in (split_whole is_lf (b ∷ bs) none) ∙ ap (λ t. None ∷ lines_in (slice_split is_lf t)) (sym gone),
      omega (arith, size),
    )
