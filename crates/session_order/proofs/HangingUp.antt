-- What is left of a session whose client is gone.
use Rattle.std.proofs.Common.{◌≡◌, ◌≢◌, ◌≤◌, ◌<◌, ◌-◌, ◌∷◌, [], ℕ, List, Bool, true, false, Some, zero, suc, length, take, sym, ap, subst, ◌∙◌, arith, refl}
use Rattle.std.specs.Prelude.{slice_get}
use Rattle.std.specs.List.{list_all, list_any}
use Rattle.key_split.specs.declared.travel.Ticket.{Ticket}
use Rattle.key_split.specs.declared.travel.Ended.{Ended}
use Rattle.key_split.specs.declared.planned.Joining.TheVariants.{AllOk}
use Rattle.session_order.specs.declared.closing.Closing.TheVariants.{Quit}
use Rattle.session_order.specs.declared.queue.PartStage.{PartStage}
use Rattle.session_order.specs.declared.queue.PartStage.TheVariants.{Waiting, Out, Done}
use Rattle.session_order.specs.declared.replies.PendingReply.{PendingReply}
use Rattle.session_order.specs.declared.replies.PendingReply.TheVariants.{Parts}
use Rattle.session_order.specs.Turn.{IsWaiting, is_done, blocks, waits_for}
use Rattle.session_order.specs.SessionModel.{SessionModel}
use Rattle.session_order.specs.Replies.{parts_of, AreJoinable, output, replies, bytes_of}
use Rattle.session_order.specs.Steps.{IsHandedOut, KeepsOut, KeepsOrder}
use Rattle.session_order.specs.LettingGo.{LetsGoOf, one_for}
use Rattle.session_order.specs.HangingUp.{HangsUp}
use Rattle.session_order.proofs.Lists.{any_at, any_all}

-- parts are of some request
pub some_requests : (requests : List PendingReply) (n : ℕ) → parts_of requests ≡ n → 0 < n → requests ≢ []
some_requests requests n is pos none = (let e : parts_of requests ≡ 0 = ap parts_of none in omega (arith, e, is, pos))

pub one_counted : (n : ℕ) → parts_of (one_for n) ≡ n
one_counted zero = refl
one_counted (suc n) = omega arith

pub one_joinable : (n : ℕ) → AreJoinable (one_for n)
one_joinable zero = tt
one_joinable (suc n) = (omega arith, tt)

pub one_few : (n : ℕ) → length (one_for n) ≤ 1
one_few zero = omega arith
one_few (suc n) = omega arith

length_zero : {A : Type 0} (xs : List A) → xs ≡ [] → length xs ≡ 0
length_zero xs is = ap length is

pub take_all_is : {A : Type 0} (xs : List A) (n : ℕ) → n ≡ length xs → take n xs ≡ xs
take_all_is [] zero is = refl
take_all_is [] (suc n) is = absurd (omega (arith, is))
take_all_is (x ∷ xs) zero is = absurd (omega (arith, is))
take_all_is (x ∷ xs) (suc n) is = ap (λ ys. x ∷ ys) (take_all_is xs n (omega (arith, is)))

-- where the parts are not all done, their one request has no reply
none_ready : (n : ℕ) (stages : List PartStage) (ends : List Ended) → n ≡ length stages → (list_all is_done stages ≡ true → stages ≡ []) → replies (one_for n) stages ends [] ≡ []
none_ready zero stages ends is last = refl
none_ready (suc n) stages ends is last = ready (list_all is_done (take (suc n) stages)) refl
  where
    ready : (b : Bool) → list_all is_done (take (suc n) stages) ≡ b → replies (Parts AllOk (suc n) ∷ []) stages ends [] ≡ []
    ready false not_all = rw (not_all, replies) refl
    ready true are =
        let all : list_all is_done stages ≡ true = ap (list_all is_done) (sym (take_all_is stages (suc n) is)) ∙ are in
        let none : length stages ≡ 0 = ap length (last all) in
        absurd (omega (arith, is, none))

module _ (old new : SessionModel) (does : LetsGoOf old new) where
  closing_is : new.closing ≡ Quit
  closing_is = ap (λ (s : SessionModel). s.closing) does.rest

  silent : output new ≡ []
  silent =
      let requests : new.requests ≡ one_for (length new.stages) = ap (λ (s : SessionModel). s.requests) does.rest in
      rw (closing_is, requests) (ap bytes_of (none_ready (length new.stages) new.stages new.ends refl does.parts.last_out))

  awaited_new : (ticket : Ticket) → IsHandedOut new ticket → IsHandedOut old ticket
  awaited_new ticket (slot, low, at, worker, client) =
      let first : new.first ≡ old.first = does.parts.first in
      let there = (does.parts.out (ticket.part - new.first) slot).0 at in (
        slot,
        subst (λ n. n ≤ ticket.part) first low,
        subst (λ n. slice_get old.stages (ticket.part - n) ≡ Some (Out slot)) first there,
        worker ∙ ap (λ (s : SessionModel). s.worker) does.rest,
        client ∙ ap (λ (s : SessionModel). s.client) does.rest,
      )

  awaited_old : (ticket : Ticket) → IsHandedOut old ticket → IsHandedOut new ticket
  awaited_old ticket (slot, low, at, worker, client) =
      let first : old.first ≡ new.first = sym does.parts.first in
      let there = (does.parts.out (ticket.part - old.first) slot).1 at in (
        slot,
        subst (λ n. n ≤ ticket.part) first low,
        subst (λ n. slice_get new.stages (ticket.part - n) ≡ Some (Out slot)) first there,
        worker ∙ sym (ap (λ (s : SessionModel). s.worker) does.rest),
        client ∙ sym (ap (λ (s : SessionModel). s.client) does.rest),
      )

  pub hangs_up : HangsUp old new
  hangs_up = record {
    owner = (ap (λ (s : SessionModel). s.worker) does.rest, ap (λ (s : SessionModel). s.client) does.rest);
    unread = (ap (λ (s : SessionModel). s.incoming.input.unread) does.rest, ap (λ (s : SessionModel). s.incoming.ahead) does.rest, closing_is);
    none_waits = does.parts.none_waits;
    none_owed = (silent, subst (λ (rs : List PendingReply). length rs ≤ 1) (sym (ap (λ (s : SessionModel). s.requests) does.rest)) (one_few (length new.stages)), ap (λ (s : SessionModel). s.ends) does.rest);
    all_owed = ap parts_of (ap (λ (s : SessionModel). s.requests) does.rest) ∙ one_counted (length new.stages);
    awaited = λ ticket. (awaited_new ticket, awaited_old ticket);
    first = does.parts.first;
    places = does.parts.out;
  }

module _ (old new : SessionModel) (hangs : HangsUp old new) where
  -- what stands before a part is out, or has ended
  none_left : (p : ℕ → PartStage → Bool) (slot i : ℕ) → ((j own : ℕ) → slice_get old.stages j ≡ Some (Out own) → j < i → p slot (Out own) ≡ false) → p slot Done ≡ false
      → list_any (p slot) (take i new.stages) ≡ false
  none_left p slot i outs done = any_all (p slot) new.stages i none
    where
      none : (j : ℕ) (s : PartStage) → slice_get new.stages j ≡ Some s → j < i → p slot s ≡ false
      none j (Waiting part) at less = absurd (hangs.none_waits j (subst IsWaiting (sym at) tt))
      none j (Out own) at less = outs j own ((hangs.places j own).0 at) less
      none j Done at less = done

  stays : (ticket : Ticket) (slot : ℕ) → slice_get old.stages (ticket.part - old.first) ≡ Some (Out slot) → slice_get new.stages (ticket.part - new.first) ≡ Some (Out slot)
  stays ticket slot at = subst (λ n. slice_get new.stages (ticket.part - n) ≡ Some (Out slot)) (sym hangs.first) ((hangs.places (ticket.part - old.first) slot).1 at)

  pub hung_keeps : KeepsOut old new
  hung_keeps ticket (slot, low, at, worker, client, turn) =
      let free = none_left blocks slot (ticket.part - old.first) (λ j own there less. any_at (blocks slot) old.stages (ticket.part - old.first) j (Out own) turn there less) refl in (
        slot,
        subst (λ n. n ≤ ticket.part) (sym hangs.first) low,
        stays ticket slot at,
        worker ∙ sym hangs.owner.0,
        client ∙ sym hangs.owner.1,
        subst (λ n. list_any (blocks slot) (take (ticket.part - n) new.stages) ≡ false) (sym hangs.first) free,
      )

  pub hung_orders : KeepsOrder old new
  hung_orders ticket (slot, low, at, worker, client, turn) = (
    slot,
    subst (λ n. n ≤ ticket.part) (sym hangs.first) low,
    stays ticket slot at,
    worker ∙ sym hangs.owner.0,
    client ∙ sym hangs.owner.1,
    none_left waits_for slot (ticket.part - new.first) (λ j own there less. refl) refl,
  )
