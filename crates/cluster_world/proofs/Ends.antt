-- The ends of parts, one more at a time.
use Rattle.std.proofs.Common.{◌≡◌, ◌≤◌, ◌<◌, ◌+◌, ◌-◌, ◌∷◌, [], ◌++◌, List, length, take, drop, get_or, refl, sym, ap, ◌∙◌, subst, arith}
use Rattle.std.proofs.lemmas.List.{append_assoc, append-nil, length-append}
use Rattle.std.proofs.Math.Seq.{take-length}
use Rattle.resp_wire.specs.Seen.{data_of}
use Rattle.resp_wire.specs.declared.value.Value.{Value}
use Rattle.key_split.specs.PartModel.{PartModel}
use Rattle.key_split.specs.declared.travel.Ended.{Ended}
use Rattle.key_split.specs.declared.travel.Ended.TheVariants.{Answered}
use Rattle.node_model.specs.Store.{StoreModel, store_after, reply_to}
use Rattle.cluster_world.specs.Answers.{EndsFrom}

-- whatever ends come for the rest, the ends so far and they are the ends of all
abbrev GoesOn : StoreModel → List PartModel → StoreModel → List Ended → List PartModel → Type 0
GoesOn first all store ends rest = (more : List Ended) → EndsFrom store rest more → EndsFrom first all (ends ++ more)

-- a list is its first item and those behind it
apart : (rest : List PartModel) (part : PartModel) → 1 ≤ length rest → part ≡ get_or rest 0 part → rest ≡ part ∷ take (length rest - 1) (drop 1 rest)
apart [] part some is = absurd (omega (arith, some))
apart (first ∷ more) part some is =
    let count : length (first ∷ more) - 1 ≡ length more = omega arith in
    ap (λ p. p ∷ more) (sym is) ∙ ap (λ ps. part ∷ ps) (sym (ap (λ n. take n more) count ∙ take-length more))

pub one_more : (first store after : StoreModel) (all rest : List PartModel) (part : PartModel) (ends grown : List Ended) (reply : Value) → 1 ≤ length rest → part ≡ get_or rest 0 part
    → (after ≡ store_after store part) × (data_of reply ≡ reply_to store part) → grown ≡ ends ++ Answered reply ∷ []
    → length ends + length rest ≡ length all → GoesOn first all store ends rest
    → (length grown + length (take (length rest - 1) (drop 1 rest)) ≡ length all) × GoesOn first all after grown (take (length rest - 1) (drop 1 rest))
one_more first store after all rest part ends grown reply some item done added count on =
    let further = take (length rest - 1) (drop 1 rest) in
    let whole : rest ≡ part ∷ further = apart rest part some item in
    let P : List Ended → Type 0 = EndsFrom first all in
    let Q : List PartModel → Type 0 = GoesOn first all store ends in
    let R : StoreModel → Type 0 = λ s. GoesOn first all s grown further in
    let grew = ap length added ∙ length-append ends (Answered reply ∷ []) in
    let longer = ap length whole in (
      omega (arith, grew, longer, count),
      subst R (sym done.0) (λ more ends_more. subst P (ap (λ es. es ++ more) (sym added))
          (subst P (sym (append_assoc ends (Answered reply ∷ []) more)) (subst Q whole on (Answered reply ∷ more) (reply, more, done.1, refl, ends_more)))),
    )

none_left : (rest : List PartModel) → length rest < 1 → rest ≡ []
none_left [] none = refl
none_left (part ∷ parts) none = absurd (omega (arith, none))

pub no_more : (first store : StoreModel) (all rest : List PartModel) (ends : List Ended) → length rest < 1 → GoesOn first all store ends rest → EndsFrom first all ends
no_more first store all rest ends none on =
    let P : List Ended → Type 0 = EndsFrom first all in
    let Q : List PartModel → Type 0 = GoesOn first all store ends in
    subst P (append-nil ends) (subst Q (none_left rest none) on [] refl)
