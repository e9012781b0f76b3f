-- What is written of a run is one item.
use Rattle.std.proofs.Common.{◌≡◌, zero, suc, Bool, true, false, if◌then◌else◌, List, [], ◌∷◌, ◌++◌, refl, sym, ap, ◌∙◌, subst, arith}
use Rattle.std.specs.Prelude.{All, map}
use Rattle.std.specs.List.{flat_map}
use Rattle.key_split.specs.Requests.{Request, Asking, Command, requests_of}
use Rattle.key_split.specs.Runs.{RunModel, GoTogether, IsTogether}
use Rattle.key_split.specs.declared.travel.Batch.{Batch}
use Rattle.turn_laws.specs.Wire.{Runs, joined, items_of}
use Rattle.turn_laws.specs.WrittenRuns.{RunsAreWrittenWhole, part_of, items_for}

one-item : (b : Batch) (asks : Bool) → items_of ((if asks then Asking ∷ [] else []) ++ Command b.ticket b.part ∷ []) ≡ items_for asks (part_of b ∷ [])
one-item b true = refl
one-item b false = refl

-- commands of which none asks
plain-items : (b : Batch) (bs : List Batch) → All (λ (c : Batch). c.asking ≡ false) (b ∷ bs) → items_of (flat_map requests_of (b ∷ bs)) ≡ Runs (map part_of (b ∷ bs)) ∷ []
plain-items b [] all =
    let first : b.asking ≡ false = all 0 b (omega arith) in
    (λ i. items_of (((if first i then Asking ∷ [] else []) ++ Command b.ticket b.part ∷ []) ++ []))
plain-items b (c ∷ bs) all =
    let first : b.asking ≡ false = all 0 b (omega arith) in
    (λ i. items_of (((if first i then Asking ∷ [] else []) ++ Command b.ticket b.part ∷ []) ++ flat_map requests_of (c ∷ bs)))
    ∙ ap (joined (part_of b)) (plain-items c bs (λ n d lt. all (suc n) d (omega (arith, lt))))

none-asks : (run : RunModel) (c : Batch) (later : List Batch) → run.later ≡ c ∷ later → IsTogether run → (run.first.asking ≡ false) × All (λ (b : Batch). b.asking ≡ false) (run.first ∷ c ∷ later)
none-asks run c later e together = (first, each)
  where
    all : All (GoTogether run.first) (c ∷ later)
    all = subst (All (GoTogether run.first)) e together

    first : run.first.asking ≡ false
    first = (all 0 c (omega arith)).first_goes_plain

    each : All (λ (b : Batch). b.asking ≡ false) (run.first ∷ c ∷ later)
    each zero b lt = first
    each (suc n) b lt = (all n b (omega (arith, lt))).next_goes_plain

pub items-of-run : RunsAreWrittenWhole
items-of-run run together = go run.later refl
  where
    go : (later : List Batch) → run.later ≡ later → items_of (flat_map requests_of (run.first ∷ run.later)) ≡ items_for run.first.asking (map part_of (run.first ∷ run.later))
    go [] e = subst (λ (later : List Batch). items_of (flat_map requests_of (run.first ∷ later)) ≡ items_for run.first.asking (map part_of (run.first ∷ later))) (sym e)
        (ap items_of (no-more (requests_of run.first)) ∙ one-item run.first run.first.asking)
      where
        no-more : (rs : List Request) → rs ++ [] ≡ rs
        no-more [] = refl
        no-more (r ∷ rs) = ap (λ qs. r ∷ qs) (no-more rs)
    go (c ∷ later) e =
        let plain = none-asks run c later e together in
        subst (λ (later : List Batch). items_of (flat_map requests_of (run.first ∷ later)) ≡ items_for run.first.asking (map part_of (run.first ∷ later))) (sym e)
        (plain-items run.first (c ∷ later) plain.1 ∙ (λ i. items_for (sym plain.0 i) (map part_of (run.first ∷ c ∷ later))))
