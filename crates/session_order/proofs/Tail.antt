-- A tail that stands behind the output.
use Rattle.std.proofs.Common.{◌≡◌, ◌≤◌, ◌<◌, ◌+◌, ◌-◌, ◌++◌, ◌∷◌, ◌∙◌, [], List, ℕ, length, take, refl, ap, sym, subst, arith, Option, Some, None, append_assoc, length-append}
use Rattle.std.specs.Prelude.{IfSome}
use Rattle.std.proofs.lemmas.List.{append-nil}
use Rattle.resp_wire.specs.declared.value.Value.{Value}
use Rattle.key_split.specs.declared.travel.Ended.{Ended}
use Rattle.session_order.specs.declared.queue.PartStage.{PartStage}
use Rattle.session_order.specs.declared.replies.PendingReply.{PendingReply}
use Rattle.session_order.specs.declared.replies.WrittenReplies.{WrittenReplies}
use Rattle.session_order.specs.Replies.{AreWritten, bytes_behind, bytes_of, first_replies, MayBeTail, replied, replies, spelling}
use Rattle.session_order.proofs.Fewer.{written_more, written_so_far}

-- what was written of all replies, with its tail
abbrev pub WithTail : ℕ → List PendingReply → List PartStage → List Ended → List ℕ → List ℕ → Option (List ℕ) → ℕ → Type 0
WithTail most requests stages ends before out tail count =
    (bytes : List ℕ) × (out ++ bytes_behind tail ≡ before ++ bytes) × AreWritten most requests stages ends [] count bytes

-- all was copied
pub copied_so_far : (most i : ℕ) (requests : List PendingReply) (stages : List PartStage) (ends : List Ended) (before out : List ℕ) (written : WrittenReplies)
    → (bytes : List ℕ) × (out ≡ before ++ bytes) × AreWritten most requests stages ends [] i bytes → written.requests ≡ i → written.tail ≡ None
    → WithTail most requests stages ends before out written.tail written.requests
copied_so_far most i requests stages ends before out written (bytes, is, w) count none =
    (bytes, ap (λ (t : Option (List ℕ)). out ++ bytes_behind t) none ∙ append-nil out ∙ is, subst (λ (n : ℕ). AreWritten most requests stages ends [] n bytes) (sym count) w)

pub no_tail : (least : Option ℕ) (tail : Option (List ℕ)) → least ≡ None → MayBeTail least tail → tail ≡ None
no_tail None None is may = refl
no_tail None (Some tail) is may = absurd may
no_tail (Some n) None is may = refl
no_tail (Some n) (Some tail) is may = absurd (cc)

-- where there is no tail, a line stands behind all
pub line_behind : (before out new line bytes : List ℕ) (tail : Option (List ℕ)) → tail ≡ None → out ++ bytes_behind tail ≡ before ++ bytes → new ≡ out ++ line
    → new ++ bytes_behind tail ≡ before ++ (bytes ++ line)
line_behind before out new line bytes None none so_far more =
    append-nil new ∙ more ∙ ap (λ (bs : List ℕ). bs ++ line) (sym (append-nil out) ∙ so_far) ∙ append_assoc before bytes line
line_behind before out new line bytes (Some tail) none so_far more = absurd (cc)

pub tail_enough : (most : ℕ) (least : Option ℕ) (tail : List ℕ) → IfSome least (λ n. most ≤ n) → MayBeTail least (Some tail) → most ≤ length tail
tail_enough most None tail enough may = absurd may
tail_enough most (Some n) tail enough may = omega (arith, enough, may)

-- what was written grows by a reply, with its tail
pub head_written : (before out new head tail : List ℕ) (vs all : List Value) (value : Value) → out ≡ before ++ bytes_of vs → new ≡ out ++ head → head ++ tail ≡ spelling value
    → all ≡ vs ++ value ∷ [] → new ++ tail ≡ before ++ bytes_of all
head_written before out new head tail vs all value so_far more whole is =
    written_more before out (new ++ tail) vs all value so_far (ap (λ (bs : List ℕ). bs ++ tail) more ∙ append_assoc out head tail ∙ ap (λ (bs : List ℕ). out ++ bs) whole) is

pub still_grown : (before out new so_far head : List ℕ) → out ≡ before ++ so_far → new ≡ out ++ head → (more : List ℕ) × (new ≡ before ++ more)
still_grown before out new so_far head is more = (so_far ++ head, more ∙ ap (λ (bs : List ℕ). bs ++ head) is ∙ append_assoc before so_far head)

-- a large tail ends them
pub ended_by_tail : (most next left : ℕ) (requests : List PendingReply) (stages : List PartStage) (ends : List Ended) (before out new head tail : List ℕ) (vs : List Value) (value : Value)
    → next + left ≡ (replied requests stages ends).0 → out ≡ before ++ bytes_of vs → new ≡ out ++ head → head ++ tail ≡ spelling value
    → replies (take next requests) stages ends [] ≡ vs ++ value ∷ [] → most ≤ length tail
    → ((fewer : ℕ) → fewer < next → length (bytes_of (first_replies fewer requests stages ends [])) < most)
    → WithTail most requests stages ends before new (Some tail) next
ended_by_tail most next left requests stages ends before out new head tail vs value total so_far more whole is enough no_more =
    let longer : length out ≡ length before + length (bytes_of vs) = ap length so_far ∙ length-append before (bytes_of vs) in
    let longest : length new ≡ length out + length head = ap length more ∙ length-append out head in
    written_so_far most next next left requests stages ends before (new ++ tail) total
    (head_written before out new head tail vs (replies (take next requests) stages ends []) value so_far more whole is)
    no_more (λ few. absurd (omega (arith, few, longer, longest, enough, length-append new tail))) refl
