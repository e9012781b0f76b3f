-- What is drained stands behind the bytes that were not pushed, and what is pushed leaves the front of them.
use Rattle.std.proofs.Common.{◌≡◌, ◌≢◌, ◌≤◌, ◌+◌, ◌-◌, ◌++◌, ◌∙◌, [], ◌∷◌, List, ℕ, Bool, true, false, Ok, ap, sym, drop, length, length-append, length-drop, arith, refl, subst, Option, Some, None, Result, Err}
use Rattle.std.specs.Prelude.{min, nat_le, IsTrue, ◌↔◌}
use Rattle.std.proofs.lemmas.Bool.{false≢true}
use Rattle.std.proofs.lemmas.Bool.Decides.{nat_tests}
use Rattle.std.proofs.lemmas.List.{append-nil, drop-append-le, drop-drop}
use Rattle.std.proofs.Math.Seq.{drop-append-add, drop-append_seam}
use Rattle.std.proofs.Math.Nat.{min-eq_left, min_comm}
use Rattle.resp_wire.specs.declared.fault.NoMemory.{NoMemory}
use Rattle.session_order.specs.SessionModel.{SessionModel}
use Rattle.session_order.specs.Replies.{DrainOutcome}
use Rattle.session_order.specs.Kept.{Keeps}
use Rattle.session_order.proofs.Kept.{calls_keep}
use Rattle.proxy_turns.specs.Unpushed.{DrainsBehind}

-- what was written stands behind what was there
abbrev pub Grown : List ℕ → List ℕ → Type 0
Grown before after = (more : List ℕ) × (after ≡ before ++ more)

pub still_within : (pushed : ℕ) (before after : List ℕ) → pushed ≤ length before → Grown before after → pushed ≤ length after
still_within pushed before after within (more, is) = rw is (omega (arith, within, length-append before more))

-- the tail stands behind all that was written
pub drained_behind : (most pushed n : ℕ) (old new : SessionModel) (before after tail behind : List ℕ) → pushed ≤ length before → tail ≡ [] → Grown before after
    → DrainOutcome most old before (Ok n) new (after ++ behind) → DrainOutcome most old (drop pushed before ++ tail) (Ok n) new (drop pushed after ++ behind)
drained_behind most pushed n old new before after tail behind within none grown (bytes, is, count, drains) =
    let front = drop pushed before in (
      bytes,
      sym (drop-append-le pushed after behind (still_within pushed before after within grown)) ∙ ap (drop pushed) is ∙ drop-append-le pushed before bytes within
          ∙ ap (λ (xs : List ℕ). xs ++ bytes) (sym (append-nil front) ∙ ap (λ (xs : List ℕ). front ++ xs) (sym none)),
      count,
      drains,
    )

some_left : (front tail : List ℕ) → tail ≢ [] → front ++ tail ≢ []
some_left [] tail some none = some none
some_left (x ∷ xs) tail some none = absurd (cc)

keeps_same : (held : SessionModel) → Keeps held held
keeps_same held = record {
  out = λ ticket out. out;
  order = λ ticket out. out;
  parts = record { owner = (refl, refl); out = λ slot number out. out; none_opens = λ slot number less opened. opened };
}

-- what is out stays so
pub behind_keeps : (most : ℕ) (old : SessionModel) (before : List ℕ) (result : Result (Option ℕ) NoMemory) (new : SessionModel) (after : List ℕ) → DrainsBehind most old before result new after → Keeps old new
behind_keeps most old before (Ok (Some n)) new after does = calls_keep.drain most old before (Ok n) new after does
behind_keeps most old before (Ok None) new after (waited, is, same) = subst (Keeps old) (sym is) (keeps_same old)
behind_keeps most old before (Err refused) new after does = calls_keep.drain most old before (Err refused) new after does

-- where a tail is left, bytes wait
pub tail_waits : (empty : Bool) (front tail : List ℕ) → (IsTrue empty ↔ (tail ≡ [])) → empty ≡ false → front ++ tail ≢ []
tail_waits empty front tail both is = some_left front tail (λ none. false≢true (sym is ∙ both.1 none))

-- `count` bytes leave the front of two lists
drop_both : (count first : ℕ) (xs ys : List ℕ) (few : Bool) → nat_le count (length xs) ≡ few → first ≡ min count (length xs)
    → drop first xs ++ drop (count - first) ys ≡ drop count (xs ++ ys)
drop_both count first xs ys true test is =
    let le : count ≤ length xs = grind (arith, nat_tests, test) in
    let all : first ≡ count = is ∙ min-eq_left le in
    let none : count - first ≡ 0 = omega (arith, all) in
    ap (λ (n : ℕ). drop first xs ++ drop n ys) none ∙ ap (λ (n : ℕ). drop n xs ++ ys) all ∙ sym (drop-append-le count xs ys le)
drop_both count first xs ys false test is =
    let ge : length xs ≤ count = grind (arith, nat_tests, test) in
    let all : first ≡ length xs = is ∙ min_comm count (length xs) ∙ min-eq_left ge in
    let sum : length xs + (count - length xs) ≡ count = omega (arith, ge) in
    ap (λ (n : ℕ). drop n xs ++ drop (count - n) ys) all
    ∙ ap (λ (bs : List ℕ). bs ++ drop (count - length xs) ys) (ap (drop (length xs)) (sym (append-nil xs)) ∙ drop-append_seam xs [])
    ∙ sym (drop-append-add xs ys (count - length xs)) ∙ ap (λ (n : ℕ). drop n (xs ++ ys)) sum

pub pushed_off : (count first pushed pushed' : ℕ) (bytes bytes' tail tail' : List ℕ) → first ≡ min count (length bytes - pushed)
    → drop pushed' bytes' ≡ drop (pushed + first) bytes → tail' ≡ drop (count - first) tail
    → drop pushed' bytes' ++ tail' ≡ drop count (drop pushed bytes ++ tail)
pushed_off count first pushed pushed' bytes bytes' tail tail' is left behind =
    let xs = drop pushed bytes in
    let least : first ≡ min count (length xs) = is ∙ ap (min count) (sym (length-drop pushed bytes)) in
    ap (λ (bs : List ℕ). bs ++ tail') (left ∙ sym (drop-drop first pushed bytes)) ∙ ap (λ (bs : List ℕ). drop first xs ++ bs) behind
    ∙ drop_both count first xs tail (nat_le count (length xs)) refl least
