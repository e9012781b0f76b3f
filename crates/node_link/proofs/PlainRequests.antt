-- Requests whose parts are plain.
use Rattle.std.proofs.Common.{◌≡◌, ◌<◌, ◌≤◌, ◌-◌, List, [], ◌∷◌, ◌++◌, ap, arith, drop, get_or, length, subst, sym, take, ◌∙◌}
use Rattle.std.specs.Prelude.{All, Bool, false, true, if◌then◌else◌}
use Rattle.std.specs.List.{flat_map}
use Rattle.std.proofs.lemmas.List.{take_all}
use Rattle.std.proofs.lemmas.List.Elements.{All-append, All-cons, All-nil}
use Rattle.key_split.specs.declared.travel.Batch.{Batch}
use Rattle.key_split.specs.Laws.{IsPlain}
use Rattle.key_split.specs.Requests.{Asking, Command, Slots, requests_of}
use Rattle.node_link.specs.Blocks.{IsPlainRequest}

pub slots_plain : All IsPlainRequest (Slots ∷ [])
slots_plain = All-cons IsPlainRequest Slots [] tt (All-nil IsPlainRequest)

-- a batch's requests are plain where its part is
pub batch_plain : (batch : Batch) → IsPlain batch.part → All IsPlainRequest (requests_of batch)
batch_plain batch plain = asks batch.asking where
  alone : All IsPlainRequest (Command batch.ticket batch.part ∷ [])
  alone = All-cons IsPlainRequest (Command batch.ticket batch.part) [] plain (All-nil IsPlainRequest)

  asks : (asking : Bool) → All IsPlainRequest ((if asking then Asking ∷ [] else []) ++ Command batch.ticket batch.part ∷ [])
  asks true = All-cons IsPlainRequest Asking (Command batch.ticket batch.part ∷ []) tt alone
  asks false = alone

-- and those of batches, where the first's and the others' are
pub batches_plain : (batch : Batch) (later : List Batch) → All IsPlainRequest (requests_of batch) → All IsPlainRequest (flat_map requests_of later) → All IsPlainRequest (flat_map requests_of (batch ∷ later))
batches_plain batch later first rest = All-append IsPlainRequest (requests_of batch) (flat_map requests_of later) first rest

pub first_of : (rest : List Batch) (batch : Batch) → 1 ≤ length rest → batch ≡ get_or rest 0 batch → rest ≡ batch ∷ take (length rest - 1) (drop 1 rest)
first_of [] batch some is = absurd (omega (arith, some))
first_of (next ∷ later) batch some is =
    ap (λ (b : Batch). b ∷ later) (sym is) ∙ ap (λ (bs : List Batch). batch ∷ bs) (sym (take_all (length (next ∷ later) - 1) later (omega arith)))

-- what the rest does for all, its later ones do
pub later_plain : (rest all : List Batch) (batch : Batch) → 1 ≤ length rest → batch ≡ get_or rest 0 batch → All IsPlainRequest (requests_of batch)
    → (All IsPlainRequest (flat_map requests_of rest) → All IsPlainRequest (flat_map requests_of all))
    → All IsPlainRequest (flat_map requests_of (take (length rest - 1) (drop 1 rest))) → All IsPlainRequest (flat_map requests_of all)
later_plain rest all batch some is first whole later =
    let tail = take (length rest - 1) (drop 1 rest) in
    whole (subst (λ (bs : List Batch). All IsPlainRequest (flat_map requests_of bs)) (sym (first_of rest batch some is)) (batches_plain batch tail first later))

pub none_plain : (rest : List Batch) → length rest < 1 → All IsPlainRequest (flat_map requests_of rest)
none_plain [] none = All-nil IsPlainRequest
none_plain (next ∷ later) none = absurd (omega (arith, none))
