-- As more bytes come and more ends are told, what was written stays a front of the output.
use Rattle.std.proofs.Common.{◌≡◌, ◌++◌, ◌+◌, ◌∷◌, [], List, ℕ, refl, ap, sym, subst, ◌∙◌, Option, Some, None, Bool, append_assoc}
use Rattle.std.specs.Prelude.{map}
use Rattle.std.proofs.lemmas.Grind.{flat_map-append}
use Rattle.std.proofs.lemmas.List.{append-nil}
use mathlib.Core.List.{IsPrefix}
use Rattle.resp_wire.specs.declared.value.Value.{Value}
use Rattle.key_split.specs.declared.travel.Ticket.{Ticket}
use Rattle.key_split.specs.declared.travel.Ended.{Ended}
use Rattle.key_split.specs.declared.planned.Joining.{Joining}
use Rattle.session_order.specs.declared.replies.PendingReply.{PendingReply}
use Rattle.session_order.specs.declared.replies.PendingReply.TheVariants.{Reply, Parts}
use Rattle.session_order.specs.PendingReply.{owed_for}
use Rattle.session_order.specs.Replies.{bytes_of, spelling, joined, lines_owed}
use Rattle.session_order.specs.Output.{ends_from, replies_told, output_of, until_quit}
use Rattle.session_order.proofs.Told.{after, ends_more}
use Rattle.turn_laws.specs.Pipelines.{BeginsWithFault, IsClosed, Pipeline, requests_of, whole_output}

-- more stands behind
pub front-then : {A : Type 0} (xs ys more : List A) → IsPrefix xs ys → IsPrefix xs (ys ++ more)
front-then xs ys more p = (p.0 ++ more, sym (append_assoc xs p.0 more) ∙ ap (λ zs. zs ++ more) p.1)

-- a front of a front
pub front-of : {A : Type 0} (xs ys zs : List A) → IsPrefix xs ys → IsPrefix ys zs → IsPrefix xs zs
front-of xs ys zs p q = (p.0 ++ q.0, sym (append_assoc xs p.0 q.0) ∙ ap (λ front. front ++ q.0) p.1 ∙ q.1)

parts-more : (o p : Option (List Ended)) (how : Joining) (a b : List Value) → ((ends : List Ended) → o ≡ Some ends → p ≡ Some ends) → IsPrefix a b → IsPrefix (after o how a) (after p how b)
parts-more None p how a b same front = (after p how b, refl)
parts-more (Some ends) p how a b same front =
    subst (λ o. IsPrefix (joined how ends ∷ a) (after o how b)) (sym (same ends refl)) (front.0, ap (λ vs. joined how ends ∷ vs) front.1)

replies-more : (told more : List (Ticket × Ended)) (n : ℕ) (owed : List PendingReply) (last : List Value) → IsPrefix (replies_told told n owed last) (replies_told (told ++ more) n owed last)
replies-more told more n [] last = ([], append-nil last)
replies-more told more n (Reply value ∷ owed) last = let front = replies-more told more n owed last in (front.0, ap (λ vs. value ∷ vs) front.1)
replies-more told more n (Parts how m ∷ owed) last =
    parts-more (ends_from told n m) (ends_from (told ++ more) n m) how _ _ (ends_more told more n m) (replies-more told more (n + m) owed last)

-- the output grows at its end
pub output-more : (read : List (List (List ℕ))) (told more : List (Ticket × Ended)) (faulted : Bool) → IsPrefix (output_of read told faulted) (output_of read (told ++ more) faulted)
output-more read told more faulted =
    let owed : List PendingReply = map owed_for (until_quit read) in
    let front = replies-more told more 0 owed (lines_owed faulted) in
    (bytes_of front.0, sym (flat_map-append spelling (replies_told told 0 owed (lines_owed faulted)) front.0) ∙ ap bytes_of front.1)

-- a fault stays, whatever comes behind
pub fault-then : (read : List (List (List ℕ))) (rest more : List ℕ) → BeginsWithFault read rest → BeginsWithFault read (rest ++ more)
fault-then read rest more (bytes, front, is) = (bytes, front-then bytes rest more front, is)

-- what went out is a front of the output for the pipeline that came
abbrev pub IsFront : List ℕ → List (Ticket × Ended) → List ℕ → Type 0
IsFront came ends went = (pipeline : Pipeline came) × IsPrefix went (whole_output pipeline ends)

-- it is all of it, and the pipeline is closed
abbrev pub IsWhole : List ℕ → List (Ticket × Ended) → List ℕ → Type 0
IsWhole came ends went = (pipeline : Pipeline came) × IsClosed pipeline × (went ≡ whole_output pipeline ends)

pub written-on : (came : List ℕ) (ends : List (Ticket × Ended)) (went bytes : List ℕ) (more : List (Ticket × Ended)) → IsFront came ends went → IsFront (came ++ bytes) (ends ++ more) went
written-on came ends went bytes more (p, front) = (
  record {
    values = p.values;
    text = p.text;
    rest = p.rest ++ bytes;
    spelled = p.spelled;
    are = ap (λ before. before ++ bytes) p.are ∙ append_assoc p.text p.rest bytes;
    faulted = p.faulted;
    fault = λ met. fault-then (requests_of p.values) p.rest bytes (p.fault met);
  },
  front-of went (whole_output p ends) _ front (output-more (requests_of p.values) ends more p.faulted),
)
