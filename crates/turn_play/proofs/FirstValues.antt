-- The first value of bytes, fed one by one.
use Rattle.std.proofs.Common.{◌≡◌, ◌⊎◌, inl, inr, ◌+◌, ℕ, List, [], ◌∷◌, ◌++◌, length, drop, map, Some, None, Option, false, refl, sym, ap, subst, ◌∙◌, arith, append_assoc}
use Rattle.std.specs.Prelude.{is_some, option_map}
use Rattle.std.proofs.lemmas.List.{length-append}
use Rattle.resp_wire.specs.Data.{Data, Items, simple, error, integer, bulk, null_bulk, array, null_array, no_items, item, items_of}
use Rattle.resp_wire.specs.FirstValue.{front, Whole, Partial, Faulty}
use Rattle.resp_wire.specs.LimitsModel.{LimitsModel, full}
use Rattle.resp_wire.specs.Spelling.{BeginsLine, Spells}
use Rattle.resp_wire.specs.Words.{bulks_of, words_of}
use Rattle.resp_wire.specs.declared.fault.WireFault.{WireFault}
use Rattle.resp_wire.proofs.FrontLaws.{front_is_whole}
use Rattle.resp_wire.proofs.KeepLaws.{front_keeps_value}
use Rattle.turn_laws.specs.ByteFronts.{cut-same}
use Rattle.turn_play.specs.Hearing.{BeginsRequest, NoRequest, NoValue, request}

-- ---- fronts

pub same-value : (d e : Data) (xs ys : List ℕ) → Whole d xs ≡ Whole e ys → d ≡ e
same-value d e xs ys same = cc

pub same-rest : (d e : Data) (xs ys : List ℕ) → Whole d xs ≡ Whole e ys → xs ≡ ys
same-rest d e xs ys same = cc

pub not-partial : (d : Data) (xs : List ℕ) → Partial ≡ Whole d xs → ⊥
not-partial d xs e = cc

pub not-faulty : (f : WireFault) (d : Data) (xs : List ℕ) → Faulty f ≡ Whole d xs → ⊥
not-faulty f d xs e = cc

-- nothing, or all but the last and the last
ends : (xs : List ℕ) → (xs ≡ []) ⊎ ((init : List ℕ) × (x : ℕ) × (xs ≡ init ++ x ∷ []))
ends [] = inl refl
ends (x ∷ xs) = elim (ends xs) [
  | inl e ↦ inr ([], x, ap (λ ys. x ∷ ys) e)
  | inr e ↦ inr (x ∷ e.0, e.1, ap (λ ys. x ∷ ys) e.2)
]

-- a value that one byte more makes whole ends with it
pub last-byte : (bytes piece : List ℕ) (d : Data) (after : List ℕ) → length piece ≡ 1 → NoValue bytes → front full (bytes ++ piece) ≡ Whole d after → after ≡ []
last-byte bytes piece d after one part whole =
    let begun = (front_is_whole full (bytes ++ piece) after d).0 whole in
    elim (ends after) [
      | inl e ↦ e
      | inr e ↦
          let is : bytes ++ piece ≡ (begun.0 ++ e.0) ++ e.1 ∷ [] = begun.2 ∙ ap (λ xs. begun.0 ++ xs) e.2 ∙ sym (append_assoc begun.0 e.0 (e.1 ∷ [])) in
          let long : length bytes ≡ length (begun.0 ++ e.0) = omega (arith, one, ap length is, length-append bytes piece, length-append (begun.0 ++ e.0) (e.1 ∷ [])) in
          let cut = cut-same bytes piece (begun.0 ++ e.0) (e.1 ∷ []) long is in
          absurd (part d e.0 ((front_is_whole full bytes e.0 d).1 (begun.0, begun.1, cut.0)))
    ]

-- the value that stands at the front of all bytes
pub whole-at : (bytes fed piece rest : List ℕ) (d : Data) (after : List ℕ) → bytes ≡ (fed ++ piece) ++ rest → length piece ≡ 1 → NoValue fed → front full (fed ++ piece) ≡ Whole d after
    → front full bytes ≡ Whole d rest
whole-at bytes fed piece rest d after is one part whole =
    let none = last-byte fed piece d after one part whole in
    ap (front full) is ∙ front_keeps_value full (fed ++ piece) after rest d whole ∙ ap (λ xs. Whole d (xs ++ rest)) none

-- ---- words

by-bulks : (word : List ℕ) (o : Option (List (List ℕ))) (ws : List (List ℕ)) → option_map (λ words. word ∷ words) o ≡ Some ws → (vs : List (List ℕ)) × (o ≡ Some vs) × (ws ≡ word ∷ vs)
by-bulks word None ws e = absurd cc
by-bulks word (Some vs) ws e = (vs, refl, (let f : Some (word ∷ vs) ≡ Some ws = e in cc))

bulks-are : (vs : Items) (ws : List (List ℕ)) → bulks_of vs ≡ Some ws → vs ≡ items_of (map bulk ws)
bulks-are no_items [] e = refl
bulks-are no_items (w ∷ ws) e = absurd cc
bulks-are (item (bulk word) vs) ws e =
    let by = by-bulks word (bulks_of vs) ws e in
    ap (item (bulk word)) (bulks-are vs by.0 by.1) ∙ ap (λ words. items_of (map bulk words)) (sym by.2)
bulks-are (item (simple t) vs) ws e = absurd cc
bulks-are (item (error t) vs) ws e = absurd cc
bulks-are (item (integer n) vs) ws e = absurd cc
bulks-are (item null_bulk vs) ws e = absurd cc
bulks-are (item (array ds) vs) ws e = absurd cc
bulks-are (item null_array vs) ws e = absurd cc

-- a value that has words is a request of them
pub words-are : (d : Data) (ws : List (List ℕ)) → words_of d ≡ Some ws → d ≡ request ws
words-are (array vs) ws e = ap array (bulks-are vs ws e)
words-are (simple t) ws e = absurd cc
words-are (error t) ws e = absurd cc
words-are (integer n) ws e = absurd cc
words-are (bulk b) ws e = absurd cc
words-are null_bulk ws e = absurd cc
words-are null_array ws e = absurd cc

pub words-back : (ws : List (List ℕ)) → words_of (request ws) ≡ Some ws
words-back [] = refl
words-back (w ∷ ws) = ap (option_map (λ words. w ∷ words)) (words-back ws)

some-is : (xs ys : List (List ℕ)) → Some xs ≡ Some ys → xs ≡ ys
some-is xs ys e = cc

pub one-request : (ws vs : List (List ℕ)) → request ws ≡ request vs → ws ≡ vs
one-request ws vs e = some-is ws vs (sym (words-back ws) ∙ ap words_of e ∙ words-back vs)

pub no-words : (d : Data) → is_some (words_of d) ≡ false → (ws : List (List ℕ)) → d ≡ request ws → ⊥
no-words d none ws e = let s : is_some (Some ws) ≡ false = ap is_some (sym (words-back ws) ∙ ap words_of (sym e)) ∙ none in absurd cc

-- ---- requests

-- the request that bytes begin with is one
pub same-request : (bytes : List ℕ) (ws vs : List (List ℕ)) (count : ℕ) (more : List ℕ) → BeginsRequest bytes ws count → front full bytes ≡ Whole (request vs) more → (vs ≡ ws) × (more ≡ drop count bytes)
same-request bytes ws vs count more b e =
    let same = sym e ∙ b.2 in
    (one-request vs ws (same-value (request vs) (request ws) more (drop count bytes) same), same-rest (request vs) (request ws) more (drop count bytes) same)

pub none-short : (bytes : List ℕ) → NoValue bytes → NoRequest bytes
none-short bytes none words more f = none (request words) more f

-- what is less than a value is none
pub partial-none : (bytes : List ℕ) → front full bytes ≡ Partial → NoValue bytes
partial-none bytes e d more f = not-partial d more (sym e ∙ f)

pub none-faulty : (bytes : List ℕ) (fault : WireFault) → front full bytes ≡ Faulty fault → NoRequest bytes
none-faulty bytes fault e words more f = not-faulty fault (request words) more (sym e ∙ f)

pub none-other : (bytes : List ℕ) (d : Data) (rest : List ℕ) → front full bytes ≡ Whole d rest → ((ws : List (List ℕ)) → d ≡ request ws → ⊥) → NoRequest bytes
none-other bytes d rest e none words more f = none words (same-value d (request words) rest more (sym e ∙ f))

pub one-first : (bytes : List ℕ) (ws vs : List (List ℕ)) (more rest : List ℕ) → front full bytes ≡ Whole (request ws) more → front full bytes ≡ Whole (request vs) rest → (vs ≡ ws) × (rest ≡ more)
one-first bytes ws vs more rest b e =
    let same = sym e ∙ b in
    (one-request vs ws (same-value (request vs) (request ws) rest more same), same-rest (request vs) (request ws) rest more same)

-- ---- nothing

no-line : {l : LimitsModel} {kind : ℕ} {text more : List ℕ} → BeginsLine l kind text [] more → ⊥
no-line {l} {kind} {text} {more} b = omega (arith, ap length b.are)

no-spelling : (l : LimitsModel) (room : ℕ) (d : Data) → Spells l room [] d → ⊥
no-spelling l room (simple text) s = no-line s
no-spelling l room (error text) s = no-line s
no-spelling l room (integer number) s = no-line s.2
no-spelling l room (bulk bytes) s = no-line s.3
no-spelling l room null_bulk s = no-line s
no-spelling l room (array items) s = no-line s.6
no-spelling l room null_array s = no-line s

first-none : (xs ys : List ℕ) → xs ++ ys ≡ [] → xs ≡ []
first-none [] ys e = refl
first-none (x ∷ xs) ys e = absurd (omega (arith, ap length e))

pub nothing-whole : (d : Data) (more : List ℕ) → front full [] ≡ Whole d more → ⊥
nothing-whole d more e =
    let begun = (front_is_whole full [] more d).0 e in
    no-spelling full full.depth d (subst (λ bytes. Spells full full.depth bytes d) (first-none begun.0 more (sym begun.2)) begun.1)
