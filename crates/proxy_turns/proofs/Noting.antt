-- What is noted of a worker's commands.
use Rattle.std.proofs.Common.{◌≡◌, ◌<◌, ◌∙◌, ◌||◌, ◌&&◌, ◌∷◌, ℕ, zero, suc, Bool, true, false, List, Option, Some, None, Result, Ok, Err, refl, sym, ap, subst, arith, drop, nat_eq, nat_lt, eqb→eq}
use Rattle.std.specs.Prelude.{T, IsOk, OnOk}
use Rattle.std.specs.List.{list_any}
use Rattle.std.specs.List.Sorted.{IsPermutation}
use Rattle.std.specs.Ordering.{nat_cmp}
use Rattle.std.specs.FinMap.{FinMap}
use Rattle.std.specs.declared.cmp.Reverse.{Reverse}
use Rattle.std.specs.BinaryHeap.{heap_items}
use Rattle.std.proofs.lemmas.Bool.{false≢true}
use Rattle.std.proofs.lemmas.Bool.Decides.{nat_tests}
use Rattle.std.proofs.lemmas.List.Sorted.{list_any-IsPermutation}
use Rattle.key_split.specs.Runs.{RunModel}
use Rattle.key_split.specs.declared.travel.Ticket.{Ticket}
use Rattle.command_future.specs.declared.stage.Stage.{Stage}
use Rattle.command_future.specs.declared.stage.Stage.TheVariants.{Wants, WantsAsking, Awaits, Over}
use Rattle.command_future.specs.CommandModel.{CommandModel, WantsPost}
use Rattle.proxy_lanes.specs.declared.ring.Outlet.{Outlet}
use Rattle.proxy_turns.specs.declared.due_commands.DueCommands.{DueCommands}
use Rattle.proxy_turns.specs.declared.due_commands.PausedCommand.{PausedCommand}
use Rattle.proxy_turns.specs.declared.turned.Settled.{Settled}
use Rattle.proxy_turns.specs.declared.turned.Settled.TheVariants as settled
use Rattle.proxy_turns.specs.ClientModel.{ClientModel}
use Rattle.proxy_turns.specs.ClientRest.{HasNoPlace}
use Rattle.proxy_turns.specs.Pause.{pause_at}
use Rattle.proxy_turns.specs.DueCommands.{AreNoted, IsSettled, IsToSettleAt, KeepsNoted, NotesPause, is_noted, is_pause_of, is_ticket}
use Rattle.proxy_turns.proofs.EventKinds.{and_both, and_true}

or_left : (a b : Bool) → a ≡ true → (a || b) ≡ true
or_left true b e = refl
or_left false b e = absurd (false≢true e)

or_right : (a b : Bool) → b ≡ true → (a || b) ≡ true
or_right true b e = refl
or_right false b e = e

or_both : (a b a' b' : Bool) → (a ≡ true → a' ≡ true) → (b ≡ true → b' ≡ true) → (a || b) ≡ true → (a' || b') ≡ true
or_both true b a' b' f g is = or_left a' b' (f refl)
or_both false b a' b' f g is = or_right a' b' (g is)

and_on : (a b b' : Bool) → (b ≡ true → b' ≡ true) → (a && b) ≡ true → (a && b') ≡ true
and_on true b b' g is = g is
and_on false b b' g is = absurd (false≢true is)

pub of_ok : {T E : Type 0} {P : Type 0} (r : Result T E) → IsOk r → OnOk r P → P
of_ok (Ok x) is p = p
of_ok (Err e) is p = absurd (false≢true is)

pub is_above : (n : ℕ) → nat_lt 0 n ≡ true → 0 < n
is_above zero is = absurd (false≢true is)
is_above (suc n) is = omega (arith)

above_is : (n : ℕ) → 0 < n → nat_lt 0 n ≡ true
above_is n lt = grind (arith, nat_tests, lt)

same_number : (n : ℕ) → nat_eq n n ≡ true
same_number n = grind (arith, nat_tests)

to_same : (m n : ℕ) → nat_eq m n ≡ true → m ≡ n
to_same m n is = eqb→eq m n (subst T (sym is) tt)

-- ---- noting

pub keeps_then : (old mid new : DueCommands) → KeepsNoted old mid → KeepsNoted mid new → KeepsNoted old new
keeps_then old mid new first next client part pause noted = next client part pause (first client part pause noted)

-- a command is noted with the pause that it has
pub pause_noted : (tells : Option ℕ → Type 0) (old new : DueCommands) (ticket : Ticket) (pause has : Option ℕ) → has ≡ pause → NotesPause tells old ticket pause new → NotesPause tells old ticket has new
pause_noted tells old new ticket pause has is noted = subst (λ p. NotesPause tells old ticket p new) (sym is) noted

-- one more waits
module _ (old new : DueCommands) (ticket : Ticket) (paused : Reverse PausedCommand) where
  pub paused_kept : new.ended ≡ old.ended → new.due ≡ old.due → IsPermutation (paused ∷ heap_items old.paused) (heap_items new.paused) → KeepsNoted old new
  paused_kept same still moved client part None noted = (λ i. list_any (is_ticket client part) (same i).items) ∙ noted
  paused_kept same still moved client part (Some pause) noted =
      (λ i. list_any (is_ticket client part) (still i).items || (nat_lt 0 pause && list_any (is_pause_of client part) (heap_items new.paused)))
      ∙ or_both due (nat_lt 0 pause && waits) due (nat_lt 0 pause && list_any (is_pause_of client part) (heap_items new.paused)) (λ is. is)
      (and_on (nat_lt 0 pause) waits _ (λ is. sym (list_any-IsPermutation (is_pause_of client part) _ _ moved) ∙ or_right (is_pause_of client part paused) waits is)) noted
    where
      due : Bool
      due = list_any (is_ticket client part) old.due.items

      waits : Bool
      waits = list_any (is_pause_of client part) (heap_items old.paused)

  pub paused_noted : paused.0.client ≡ ticket.client → paused.0.part ≡ ticket.part → IsPermutation (paused ∷ heap_items old.paused) (heap_items new.paused)
      → (pause : ℕ) → 0 < pause → is_noted new ticket.client ticket.part (Some pause) ≡ true
  paused_noted client part moved pause lt =
      let q = is_pause_of ticket.client ticket.part in
      let one : q paused ≡ true = and_true _ _ (ap (nat_eq ticket.client) client ∙ same_number ticket.client) (ap (nat_eq ticket.part) part ∙ same_number ticket.part) in
      or_right _ _ (and_true _ _ (above_is pause lt) (sym (list_any-IsPermutation q _ _ moved) ∙ or_left (q paused) _ one))

-- ---- dropping

not_here : (t r : Bool) → (t ≡ true → ⊥) → (t || r) ≡ true → r ≡ true
not_here true r none is = absurd (none refl)
not_here false r none is = is

wants_pause : (stage : Stage) (followed : ℕ) → pause_at stage followed ≡ None → WantsPost stage → ⊥
wants_pause (Wants None) followed is wants = cc
wants_pause (Wants (Some node)) followed is wants = cc
wants_pause (WantsAsking node) followed is wants = cc
wants_pause Awaits followed is wants = wants
wants_pause (Over end) followed is wants = wants

pause_wants : (stage : Stage) (followed pause : ℕ) → pause_at stage followed ≡ Some pause → WantsPost stage
pause_wants (Wants named) followed pause is = tt
pause_wants (WantsAsking node) followed pause is = tt
pause_wants Awaits followed pause is = cc
pause_wants (Over end) followed pause is = cc

pub held_full : (s : Settled) (P : CommandModel → Type 0) (outlet : Outlet RunModel) → s ≡ settled.Held → IsSettled (Ok s) P outlet → HasNoPlace outlet
held_full s P outlet held left = subst (λ s. IsSettled (Ok s) P outlet) held left

pub left_none : (s : Settled) (P : CommandModel → Type 0) (outlet : Outlet RunModel) → (s ≡ settled.Held → ⊥) → IsSettled (Ok s) P outlet → (c : CommandModel) → P c → WantsPost c.stage → ⊥
left_none settled.Posted P outlet not left c is wants = left c is wants
left_none settled.Held P outlet not left c is wants = absurd (not refl)
left_none settled.Nothing P outlet not left c is wants = left c is wants

module _ {C : Type 0} (clients : FinMap nat_cmp (ClientModel C)) (old new : DueCommands) (ticket : Ticket) (rest : List Ticket) where
  stands_here : (number part : ℕ) (c : CommandModel) → is_ticket number part ticket ≡ true → IsToSettleAt clients number part c → IsToSettleAt clients ticket.client ticket.part c
  stands_here number part c is stands =
      let both = and_both (nat_eq number ticket.client) (nat_eq part ticket.part) is in
      subst (λ n. IsToSettleAt clients n ticket.part c) (to_same number ticket.client both.0) (subst (λ p. IsToSettleAt clients number p c) (to_same part ticket.part both.1) stands)

  -- the oldest of those that have ended is dropped, where no command that has ended is left of it
  pub ended_dropped : old.ended.items ≡ ticket ∷ rest → new.ended.items ≡ drop 1 old.ended.items → (new.due ≡ old.due) × (new.paused ≡ old.paused)
      → ((c : CommandModel) → IsToSettleAt clients ticket.client ticket.part c → WantsPost c.stage) → AreNoted clients old → AreNoted clients new
  ended_dropped first dropped kept left noted number part c stands = by (pause_at c.stage c.followed) refl (noted number part c stands)
    where
      by : (pause : Option ℕ) → pause_at c.stage c.followed ≡ pause → is_noted old number part pause ≡ true → is_noted new number part pause ≡ true
      by None is was =
          ap (list_any (is_ticket number part)) (dropped ∙ ap (drop 1) first)
          ∙ not_here (is_ticket number part ticket) (list_any (is_ticket number part) rest) (λ same. wants_pause c.stage c.followed is (left c (stands_here number part c same stands)))
          (sym (ap (list_any (is_ticket number part)) first) ∙ was)
      by (Some pause) is was = (λ i. list_any (is_ticket number part) (kept.0 i).items || (nat_lt 0 pause && list_any (is_pause_of number part) (heap_items (kept.1 i)))) ∙ was

  -- the oldest of those that are due is dropped, where no command is left of it that wants its post
  pub due_dropped : old.due.items ≡ ticket ∷ rest → new.due.items ≡ drop 1 old.due.items → (new.ended ≡ old.ended) × (new.paused ≡ old.paused)
      → ((c : CommandModel) → IsToSettleAt clients ticket.client ticket.part c → WantsPost c.stage → ⊥) → AreNoted clients old → AreNoted clients new
  due_dropped first dropped kept left noted number part c stands = by (pause_at c.stage c.followed) refl (noted number part c stands)
    where
      by : (pause : Option ℕ) → pause_at c.stage c.followed ≡ pause → is_noted old number part pause ≡ true → is_noted new number part pause ≡ true
      by None is was = (λ i. list_any (is_ticket number part) (kept.0 i).items) ∙ was
      by (Some pause) is was =
          let q = is_ticket number part in
          let waits = nat_lt 0 pause && list_any (is_pause_of number part) (heap_items old.paused) in
          (λ i. list_any q ((dropped ∙ ap (drop 1) first) i) || (nat_lt 0 pause && list_any (is_pause_of number part) (heap_items (kept.1 i))))
          ∙ or_both (list_any q (ticket ∷ rest)) waits (list_any q rest) waits (not_here (q ticket) (list_any q rest) (λ same. left c (stands_here number part c same stands) (pause_wants c.stage c.followed pause is))) (λ is. is)
          (sym (ap (λ ts. list_any q ts || waits) first) ∙ was)
