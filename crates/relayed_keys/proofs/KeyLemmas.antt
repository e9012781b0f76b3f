-- The keys of a request that is passed on whole, and what is said about a row of the table.
use Rattle.std.proofs.Common.{◌≡◌, ℕ, zero, suc, ◌+◌, ◌-◌, ◌<◌, List, [], ◌∷◌, ◌++◌, map, length, take, drop, Bool, true, false, ◌&&◌, Option, None, Some, refl, sym, ap, ◌∙◌, arith}
use Rattle.std.specs.Prelude.{codes, IfSome, unwrap_or}
use Rattle.std.specs.List.{list_all, position, slice_get}
use Rattle.std.specs.Option.{option_map}
use Rattle.std.proofs.lemmas.Bool.{true≢false}
use Rattle.std.proofs.lemmas.List.Quantifiers.{position-Some}
use Rattle.resp_wire.specs.Text.{is_one_line}
use Rattle.relayed_keys.specs.declared.table.TheConstants.{NAMES}
use Rattle.key_split.specs.Plan.{Words}
use Rattle.relayed_keys.specs.Keys.{but_last, front_from, place_behind}
use Rattle.relayed_keys.specs.Texts.{row_name, about_text}
use Rattle.key_split.proofs.OneLine.{is_one_line-append}

-- what is found stands within the list
pub position-within : (p : List ℕ → Bool) (xs : Words) (found : Option ℕ) → found ≡ position p xs → IfSome found (λ place. place < length xs)
position-within p xs None e = tt
position-within p xs (Some place) e = (position-Some p xs place [] (sym e)).0

pub place_found : (test : List ℕ → Bool) (from : ℕ) (words front : Words) (found : Option ℕ) → front ≡ front_from from words → found ≡ position test front
    → option_map (λ place. from + place + 1) found ≡ place_behind test from words
place_found test from words front found is e = ap (option_map (λ place. from + place + 1)) (e ∙ ap (position test) is)

pub first : (b c : Bool) → (b && c) ≡ true → b ≡ true
first true c h = refl
first false c h = h

pub second : (b c : Bool) → (b && c) ≡ true → c ≡ true
second true c h = h
second false c h = absurd (true≢false (sym h))

-- where all texts are one line, so is the one at a place, or what stands in for it
one_line-at : (xs : List (List ℕ)) (i : ℕ) → list_all is_one_line xs ≡ true → is_one_line (unwrap_or (slice_get xs i) []) ≡ true
one_line-at [] i h = refl
one_line-at (y ∷ ys) zero h = first (is_one_line y) (list_all is_one_line ys) h
one_line-at (y ∷ ys) (suc i) h = one_line-at ys i (second (is_one_line y) (list_all is_one_line ys) h)

-- the whole table is computed once
is_one_line-row_name : (row : ℕ) → is_one_line (row_name row) ≡ true
unfolding row_name
is_one_line-row_name row = one_line-at (map (λ name. name.now) NAMES) row refl

pub is_one_line_about : (front : List ℕ) (row : ℕ) → is_one_line front ≡ true → is_one_line (about_text front row) ≡ true
is_one_line_about front row h =
    is_one_line-append (front ++ row_name row) (codes "' command") (is_one_line-append front (row_name row) h (is_one_line-row_name row)) refl
