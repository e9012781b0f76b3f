-- The laws of lives.
use Rattle.std.proofs.Common.{◌≡◌, ℕ, suc, ◌⊎◌, Bool, false, true, Option, Some, None, inl, inr, List, [], ◌∷◌, ◌++◌, length, refl, ap, ◌∙◌, arith, length-append, subst, sym}
use Rattle.std.specs.Prelude.{All}
use Rattle.key_split.specs.PartModel.{PartModel}
use Rattle.key_split.specs.declared.travel.Ticket.{Ticket}
use Rattle.key_split.specs.declared.travel.Told.{Told}
use Rattle.key_split.specs.declared.travel.Told.TheVariants.{Reply, Moved, Ask, TryAgain, ClusterDown, Unclear, Unsent}
use Rattle.key_split.specs.declared.travel.Ended.{Ended}
use Rattle.key_split.specs.declared.travel.Ended.TheVariants.{Answered, GaveUp}
use Rattle.command_future.specs.declared.stage.Want.{Want}
use Rattle.command_future.specs.declared.stage.Want.TheVariants.{Post, Await, Finished}
use Rattle.command_future.specs.Life.{CommandEvent, told_in, IsRefusal, IsOpen, IsWanted, IsDue, IsLife, EndsWith, HasEnd, IsTold, want_after}
use Rattle.command_future.specs.Life.CommandEvent.{Posted, Heard}
use Rattle.command_future.proofs.Lives.{told_in-posted, told_in-heard, posted_in-posted, posted_in-heard, last_or-push, All-one}
use Rattle.std.proofs.lemmas.Bool.{cases_lt}
use Rattle.std.proofs.lemmas.List.Elements.{All-append}

-- the last one of a list of refusals is a refusal
last_of : (P : Told → Type 0) (xs : List Told) (x : Told) → All P (xs ++ x ∷ []) → P x
last_of P [] x all = all 0 x (omega arith)
last_of P (y ∷ xs) x all = last_of P xs x (λ k d below. all (suc k) d (omega arith))

same_last : (xs ys : List Told) (x y : Told) → xs ++ x ∷ [] ≡ ys ++ y ∷ [] → x ≡ y
same_last [] [] x y e = cc
same_last [] (b ∷ []) x y e = cc
same_last [] (b ∷ c ∷ ys) x y e = cc
same_last (a ∷ []) [] x y e = cc
same_last (a ∷ b ∷ xs) [] x y e = cc
same_last (a ∷ xs) (b ∷ ys) x y e = same_last xs ys x y cc

-- what ends with a reply or a lost connection is no list of refusals
not_refusals : (told : List Told) (last : Told) → EndsWith told last → All IsRefusal told → IsRefusal last
not_refusals told last ends all = last_of IsRefusal ends.0 last (subst (λ (l : List Told). All IsRefusal l) ends.2 all)

same_end : (told : List Told) (x y : Told) → EndsWith told x → EndsWith told y → x ≡ y
same_end told x y first second = same_last first.0 second.0 x y (sym first.2 ∙ second.2)

pub one_end : (told : List Told) (end other : Ended) → HasEnd told end → HasEnd told other → end ≡ other
one_end told (Answered v) (Answered w) h k = let e = same_end told (Reply v) (Reply w) h k in cc
one_end told (Answered v) Ended.Lost h k = let e = same_end told (Reply v) Told.Lost h k in cc
one_end told (Answered v) GaveUp h k = absurd (not_refusals told (Reply v) h k.0)
one_end told Ended.Lost (Answered w) h k = let e = same_end told Told.Lost (Reply w) h k in cc
one_end told Ended.Lost Ended.Lost h k = refl
one_end told Ended.Lost GaveUp h k = absurd (not_refusals told Told.Lost h k.0)
one_end told GaveUp (Answered w) h k = absurd (not_refusals told (Reply w) k h.0)
one_end told GaveUp Ended.Lost h k = absurd (not_refusals told Told.Lost k h.0)
one_end told GaveUp GaveUp h k = refl

-- a command with an end is not open
not_open : (told : List Told) (end : Ended) → HasEnd told end → IsOpen told → ⊥
not_open told (Answered v) h open_yet = not_refusals told (Reply v) h open_yet.0
not_open told Ended.Lost h open_yet = not_refusals told Told.Lost h open_yet.0
not_open told GaveUp h open_yet = absurd (omega arith)

pub one_want : (events : List CommandEvent) (want other : Want) → IsWanted events want → IsWanted events other → want ≡ other
one_want events (Post a n) (Post b m) h k = sym h.2 ∙ k.2
one_want events (Post a n) Await h k = absurd (omega arith)
one_want events (Post a n) Finished h k = absurd (not_open (told_in events) k.0 k.1 h.0)
one_want events Await (Post b m) h k = absurd (omega arith)
one_want events Await Await h k = refl
one_want events Await Finished h k = absurd (not_open (told_in events) k.0 k.1 h.0)
one_want events Finished (Post b m) h k = absurd (not_open (told_in events) h.0 h.1 k.0)
one_want events Finished Await h k = absurd (not_open (told_in events) h.0 h.1 k.0)
one_want events Finished Finished h k = refl

from_end : {A : Type 0} (xs : List A) → (xs ≡ []) ⊎ ((ys : List A) × (x : A) × (xs ≡ ys ++ x ∷ []))
from_end [] = inl refl
from_end (x ∷ xs) = elim (from_end xs) [
  | inl none ↦ inr ([], x, ap (λ l. x ∷ l) none)
  | inr some ↦ inr (x ∷ some.0, some.1, ap (λ l. x ∷ l) some.2)
]

-- one more refusal leaves it open, or is the seventeenth
told_refusal : (told : List Told) (last : Told) → IsOpen told → IsRefusal last → IsTold (told ++ last ∷ [])
told_refusal told last open_yet refusal =
    let all : All IsRefusal (told ++ last ∷ []) = All-append IsRefusal told (last ∷ []) open_yet.0 (All-one IsRefusal last refusal) in
    elim (cases_lt (length told) 16) [
      | inl few ↦ inl (all, simp length-append (omega arith))
      | inr many ↦ inr (GaveUp, (all, simp length-append (omega arith)))
    ]

told_more : (told : List Told) (last : Told) → IsOpen told → IsTold (told ++ last ∷ [])
told_more told (Reply value) open_yet = inr (Answered value, (told, open_yet, refl))
told_more told Told.Lost open_yet = inr (Ended.Lost, (told, open_yet, refl))
told_more told (Moved slot node) open_yet = told_refusal told (Moved slot node) open_yet tt
told_more told (Ask slot node) open_yet = told_refusal told (Ask slot node) open_yet tt
told_more told TryAgain open_yet = told_refusal told TryAgain open_yet tt
told_more told ClusterDown open_yet = told_refusal told ClusterDown open_yet tt
told_more told Unclear open_yet = told_refusal told Unclear open_yet tt
told_more told Unsent open_yet = told_refusal told Unsent open_yet tt

due_told : (ticket : Ticket) (part : PartModel) (events : List CommandEvent) (event : CommandEvent) → IsDue ticket part events event
    → IsTold (told_in (events ++ event ∷ []))
due_told ticket part events (Posted batch) due = rw told_in-posted (inl due.wanted.0)
due_told ticket part events (Heard told) due = rw told_in-heard (told_more (told_in events) told due.0)

pub grammar : (ticket : Ticket) (part : PartModel) (events : List CommandEvent) → IsLife ticket part events → IsTold (told_in events)
grammar ticket part events life = elim (from_end events) [
  | inl none ↦ rw none (inl ((λ k d below. absurd (omega arith)), omega arith))
  | inr some ↦ rw some.2 (due_told ticket part some.0 some.1 (life.each some.0 [] some.1 some.2))
]

-- once it has an end, nothing is due
pub no_more : (ticket : Ticket) (part : PartModel) (events : List CommandEvent) (event : CommandEvent) (end : Ended) → HasEnd (told_in events) end
    → IsLife ticket part (events ++ event ∷ []) → ⊥
no_more ticket part events (Posted batch) end ended life =
    let due : IsDue ticket part events (Posted batch) = life.each events [] (Posted batch) refl in
    not_open (told_in events) end ended due.wanted.0
no_more ticket part events (Heard told) end ended life =
    let due : IsDue ticket part events (Heard told) = life.each events [] (Heard told) refl in
    not_open (told_in events) end ended due.0

-- a refusal sends the command to be posted
sent_to_post : (told : Told) → (asking : Bool) × (named : Option ℕ) × (want_after told ≡ Post asking named)
sent_to_post (Reply value) = (false, None, refl)
sent_to_post Told.Lost = (false, None, refl)
sent_to_post (Moved slot node) = (false, Some node, refl)
sent_to_post (Ask slot node) = (true, Some node, refl)
sent_to_post TryAgain = (false, None, refl)
sent_to_post ClusterDown = (false, None, refl)
sent_to_post Unclear = (false, None, refl)
sent_to_post Unsent = (false, None, refl)

-- after what was due it wants something
wants_next : (ticket : Ticket) (part : PartModel) (events : List CommandEvent) (event : CommandEvent) → IsDue ticket part events event
    → (want : Want) × IsWanted (events ++ event ∷ []) want
wants_next ticket part events (Posted batch) due =
    (Await, rw (told_in-posted, posted_in-posted) (due.wanted.0, simp length-append (omega arith)))
wants_next ticket part events (Heard told) due =
    let to = sent_to_post told in
    elim (told_more (told_in events) told due.0) [
      | inl open_yet ↦ (Post to.0 to.1, rw (told_in-heard, posted_in-heard) (open_yet, simp length-append (omega arith), rw last_or-push to.2))
      | inr ended ↦ (Finished, rw told_in-heard ended)
    ]

pub some_want : (ticket : Ticket) (part : PartModel) (events : List CommandEvent) → IsLife ticket part events → (want : Want) × IsWanted events want
some_want ticket part events life = elim (from_end events) [
  | inl none ↦ rw none (Post false None, (((λ k d below. absurd (omega arith)), omega arith), refl, refl))
  | inr some ↦ rw some.2 (wants_next ticket part some.0 some.1 (life.each some.0 [] some.1 some.2))
]
