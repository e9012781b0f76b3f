-- Which of the commands that wait is due first.
use Rattle.std.proofs.Common.{◌≡◌, ◌<◌, ◌≤◌, ◌∙◌, ◌||◌, ◌∷◌, [], ℕ, length, Bool, true, false, List, Option, Some, None, refl, sym, ap, subst, arith, rules, nat_eq, slice_index_or}
use Rattle.std.specs.Prelude.{IfNone, IfSome, Ok}
use Rattle.std.specs.List.{AllByRecursion, list_any}
use Rattle.std.specs.List.Sorted.{IsPermutation}
use Rattle.std.specs.Ordering.{is_lt, nat_cmp, ordering_then}
use Rattle.std.specs.declared.cmp.Ordering.{Ordering}
use Rattle.std.specs.declared.cmp.Ordering.TheVariants.{Less, Equal, Greater}
use Rattle.std.specs.declared.cmp.Reverse.{Reverse}
use Rattle.std.specs.BinaryHeap.{IsHeap, IsUpperBound, PopsGreatest}
use Rattle.std.proofs.lemmas.Bool.{false≢true}
use Rattle.std.proofs.lemmas.Bool.Decides.{nat_tests}
use Rattle.std.proofs.lemmas.List.Sorted.{length_permutation, list_any-IsPermutation}
use Rattle.proxy_turns.specs.declared.due_commands.PausedCommand.{PausedCommand}
use Rattle.proxy_turns.specs.ClientRest.{IfStill}
use Rattle.proxy_turns.specs.Waiting.{AreAllLater, AreLater, BeganNone, IsLater, first_due_first}
use Rattle.proxy_turns.proofs.ClientResting.{if_still, if_turned}
use Rattle.proxy_turns.proofs.Places.{four_false, or_false}

first_decides : (first next : Ordering) → is_lt (ordering_then first next) ≡ false → is_lt first ≡ false
first_decides Less next is = absurd (false≢true (sym is))
first_decides Equal next is = refl
first_decides Greater next is = refl

not_earlier : (a b : ℕ) → is_lt (nat_cmp b a) ≡ false → a ≤ b
not_earlier a b is = grind (arith, rules, is)

-- none is due before the one in front
pub none_earlier : (paused : List (Reverse PausedCommand)) (first : Reverse PausedCommand) → IsUpperBound first_due_first first paused → AllByRecursion (λ p. first.0.due ≤ p.0.due) paused
none_earlier [] first bound = tt
none_earlier (p ∷ ps) first (here, later) = (not_earlier first.0.due p.0.due (first_decides _ _ here), none_earlier ps first later)

same_number : (n : ℕ) → nat_eq n n ≡ true
same_number n = grind (arith, nat_tests)

-- the one in front is one of them
pub first_there : (paused : List (Reverse PausedCommand)) (first : Reverse PausedCommand) → 0 < length paused → first ≡ slice_index_or paused 0 first → list_any (λ p. nat_eq first.0.due p.0.due) paused ≡ true
first_there [] first some is = absurd (omega (arith, some))
first_there (p ∷ ps) first some is = λ i. (ap (λ (q : Reverse PausedCommand). nat_eq first.0.due q.0.due) (sym is) ∙ same_number first.0.due) i || list_any (λ q. nat_eq first.0.due q.0.due) ps

-- the first of them is taken off, where there is one
pub popped : (Q : Type 0) (result : Option (Reverse PausedCommand)) (old new : List (Reverse PausedCommand)) → IfSome result (λ first. PopsGreatest first_due_first old first new) → IfNone result ((new ≡ old) × Q)
    → IsHeap first_due_first old → IsHeap first_due_first new
popped Q (Some first) old new pops same heap = (pops heap).0
popped Q None old new pops same heap = subst (IsHeap first_due_first) (sym same.0) heap

-- what waits longer waits
pub waits_on : (time : Option ℕ) (paused : List (Reverse PausedCommand)) (due : ℕ) → IsLater time due → AllByRecursion (λ p. due ≤ p.0.due) paused → AreLater time paused
waits_on time [] due later all = tt
waits_on None (p ∷ ps) due later all = absurd later
waits_on (Some now) (p ∷ ps) due later (here, all) = (omega (arith, later, here), waits_on (Some now) ps due later all)

-- one that was taken off was there
pub taken_began : (old new : List (Reverse PausedCommand)) (taken : Reverse PausedCommand) → IsPermutation old (taken ∷ new) → BeganNone old new
taken_began old new taken moved is there = list_any-IsPermutation is _ _ moved ∙ or_right (is taken) there
  where
    or_right : (a : Bool) {b : Bool} → b ≡ true → (a || b) ≡ true
    or_right true there = refl
    or_right false there = there

pub one_fewer : (old new : List (Reverse PausedCommand)) (taken : Reverse PausedCommand) → IsPermutation old (taken ∷ new) → length new < length old
one_fewer old new taken moved = omega (arith, length_permutation old (taken ∷ new) moved)

pub began_then : (old mid new : List (Reverse PausedCommand)) → BeganNone old mid → BeganNone mid new → BeganNone old new
began_then old mid new first next is there = first is (next is there)

module _ (tells : Option ℕ → Type 0) where
  -- commands that were due ended and were posted, or none was
  pub later_on : (ended posted : Bool) (before mid after : List (Reverse PausedCommand)) → AreAllLater tells before → IfStill (Ok ended) (mid ≡ before) → after ≡ mid
      → IfStill (Ok (ended || posted)) (AreAllLater tells after)
  later_on ended posted before mid after later same kept = if_still _ (λ none. subst (AreAllLater tells) (sym (kept ∙ if_turned ended same (or_false ended posted none).0)) later)

  -- the same after a whole turn
  pub later_after : (came told settled served : Bool) (mid after : List (Reverse PausedCommand)) → IfStill (Ok settled) (AreAllLater tells mid) → after ≡ mid
      → IfStill (Ok (((came || told) || settled) || served)) (AreAllLater tells after)
  later_after came told settled served mid after later same = if_still _ (λ none. subst (AreAllLater tells) (sym same) (if_turned settled later (four_false came told settled served none).2))
