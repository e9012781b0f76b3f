-- Each call keeps the parts that are out, and opens none that has ended.
use Rattle.std.proofs.Common.{◌≡◌, ◌≢◌, ◌++◌, ◌+◌, ◌-◌, ◌≤◌, ◌<◌, ℕ, List, Bool, true, false, Option, Some, None, Result, Ok, Err, inl, inr, length, suc, take, drop, sym, ap, subst, ◌∙◌, arith, refl}
use Rattle.std.specs.Prelude.{slice_get, slice_set}
use Rattle.std.specs.List.{list_all}
use Rattle.std.proofs.lemmas.Bool.{false≢true}
use Rattle.std.proofs.lemmas.Option.{slice_get_within}
use Rattle.std.proofs.lemmas.List.{length-set}
use Rattle.slot_hash.specs.Slot.{slot_of}
use Rattle.resp_wire.specs.declared.fault.NoMemory.{NoMemory}
use Rattle.key_split.specs.PartModel.{PartModel}
use Rattle.key_split.specs.declared.travel.Ticket.{Ticket}
use Rattle.key_split.specs.declared.travel.Ended.{Ended}
use Rattle.session_order.specs.declared.queue.PartStage.{PartStage}
use Rattle.session_order.specs.declared.queue.PartStage.TheVariants.{Waiting, Out, Done}
use Rattle.session_order.specs.declared.fault.SessionFault.{SessionFault}
use Rattle.session_order.specs.declared.fault.SessionFault.TheVariants as session_fault
use Rattle.session_order.specs.declared.fault.SessionFault.TheVariants.{Wire, NotRequest}
use Rattle.session_order.specs.PendingReply.{plan_for}
use Rattle.session_order.specs.Turn.{IsWaiting, is_done, blocks, handed_out}
use Rattle.session_order.specs.Next.{NextOutAt}
use Rattle.session_order.specs.SessionModel.{SessionModel}
use Rattle.session_order.specs.Replies.{parts_of, without, DrainOutcome}
use Rattle.session_order.specs.Steps.{ReadyOutcome, FollowerOutcome, IsHandedOut, EndOutcome, FeedOutcome, ReadOutcome, ReadsWords, with_incoming}
use Rattle.session_order.specs.Behind.{IsOpenFor, IsOutBehind, IsOutFor, KeepsParts, NextInTurn}
use Rattle.session_order.specs.HangingUp.{HangsUp}
use Rattle.session_order.proofs.Lists.{any_at, get_set_other, get_append, get_drop, one_of, some_at, stands_behind}
use Rattle.session_order.proofs.Blocking.{set_back}
use Rattle.session_order.proofs.Fewer.{first_done}
use Rattle.session_order.proofs.Keeping.{Grows, added_grows, same_part}

-- ---- place by place, where parts leave at the front

module _ (old new : SessionModel) (count : ℕ) (first : new.first ≡ old.first + count) (worker : new.worker ≡ old.worker) (client : new.client ≡ old.client) where
  parts_by : ((i slot : ℕ) → slice_get old.stages i ≡ Some (Out slot) → (count ≤ i) × (slice_get new.stages (i - count) ≡ Some (Out slot)))
      → ((i k slot : ℕ) (stage : PartStage) → k ≡ count + i → slice_get new.stages i ≡ Some stage → blocks slot stage ≡ true → k < length old.stages
      → (before : PartStage) × (slice_get old.stages k ≡ Some before) × (blocks slot before ≡ true))
      → KeepsParts old new
  parts_by outs opens = record {
    owner = (worker, client);
    out = λ slot number (low, at).
        let there = outs (number - old.first) slot at in
        let place : number - old.first - count ≡ number - new.first = omega (arith, first) in
        (omega (arith, first, there.0, low), subst (λ n. slice_get new.stages n ≡ Some (Out slot)) place there.1);
    none_opens = λ slot number less (low, stage, at, blocking).
        let place : number - old.first ≡ count + (number - new.first) = omega (arith, first, low) in
        let back = opens (number - new.first) (number - old.first) slot stage place at blocking (omega (arith, less, low, first)) in
        (omega (arith, first, low), back.0, back.1, back.2);
  }

parts_same : (old new : SessionModel) → new.stages ≡ old.stages → new.first ≡ old.first → new.worker ≡ old.worker → new.client ≡ old.client → KeepsParts old new
parts_same old new stages first worker client =
    parts_by old new 0 (omega (arith, first)) worker client
    (λ i slot at. (omega arith, subst (λ n. slice_get new.stages n ≡ Some (Out slot)) (omega arith) (ap (λ ss. slice_get ss i) stages ∙ at)))
    (λ i k slot stage is at blocking less. (stage, subst (λ n. slice_get old.stages n ≡ Some stage) (omega (arith, is)) (ap (λ ss. slice_get ss i) (sym stages) ∙ at), blocking))

-- what stands among the first stands there without those behind
front_of : {A : Type 0} (xs more : List A) (i : ℕ) (x : A) → slice_get (xs ++ more) i ≡ Some x → i < length xs → slice_get xs i ≡ Some x
front_of xs more i x at less =
    let here = some_at xs i less in
    subst (λ y. slice_get xs i ≡ Some y) (one_of (xs ++ more) i here.0 x (get_append xs more i here.0 here.1) at) here.1

parts_more : (old new : SessionModel) → Grows old new → KeepsParts old new
parts_more old new grows =
    parts_by old new 0 (omega (arith, grows.first)) grows.worker grows.client
    (λ i slot at. (omega arith, subst (λ n. slice_get new.stages n ≡ Some (Out slot)) (omega arith) (ap (λ ss. slice_get ss i) grows.stages ∙ get_append old.stages grows.more i (Out slot) at)))
    (λ i k slot stage is at blocking less.
    let same : i ≡ k = omega (arith, is) in
    (stage, subst (λ n. slice_get old.stages n ≡ Some stage) same (front_of old.stages grows.more i stage (ap (λ ss. slice_get ss i) (sym grows.stages) ∙ at) (omega (arith, less, same))), blocking))

parts_handed : (old : SessionModel) (j : ℕ) (part : PartModel) (new : SessionModel) → slice_get old.stages j ≡ Some (Waiting part) → new ≡ record old { stages = handed_out old.stages j part } → KeepsParts old new
parts_handed old j part new waits is =
    let stages : new.stages ≡ slice_set old.stages j (Out (slot_of part.key)) = ap (λ (s : SessionModel). s.stages) is in
    parts_by old new 0 (omega (arith, ap (λ (s : SessionModel). s.first) is)) (ap (λ (s : SessionModel). s.worker) is) (ap (λ (s : SessionModel). s.client) is)
    (λ i slot at.
    let apart : i ≢ j = λ same. (let both : slice_get old.stages j ≡ Some (Out slot) = subst (λ n. slice_get old.stages n ≡ Some (Out slot)) same at in cc) in
    (omega arith, subst (λ n. slice_get new.stages n ≡ Some (Out slot)) (omega arith) (ap (λ ss. slice_get ss i) stages ∙ get_set_other old.stages j i (Out (slot_of part.key)) (Out slot) apart at)))
    (λ i k slot stage sum at blocking less.
    let same : i ≡ k = omega (arith, sum) in
    elim (set_back old.stages j i (Out (slot_of part.key)) stage (ap (λ ss. slice_get ss i) (sym stages) ∙ at)) [
      | inl here ↦ (Waiting part, subst (λ n. slice_get old.stages n ≡ Some (Waiting part)) (sym here.0 ∙ same) waits, ap (blocks slot) (sym here.1) ∙ blocking)
      | inr there ↦ (stage, subst (λ n. slice_get old.stages n ≡ Some stage) same there.1, blocking)
    ])

pub ready_parts : (old : SessionModel) (result : Option (Ticket × PartModel)) (new : SessionModel) → ReadyOutcome old result new → KeepsParts old new
ready_parts old None new (none, is) = parts_same old new (rw is refl) (rw is refl) (rw is refl) (rw is refl)
ready_parts old (Some (ticket, part)) new (i, (may, earliest, at), numbered, is) = parts_handed old i part new at is

pub follower_parts : (old : SessionModel) (ticket : Ticket) (result : Option (Ticket × PartModel)) (new : SessionModel) → FollowerOutcome old ticket result new → KeepsParts old new
follower_parts old ticket None new (none, is) = parts_same old new (rw is refl) (rw is refl) (rw is refl) (rw is refl)
follower_parts old ticket (Some (given, part)) new (j, follows, numbered, is) = parts_handed old j part new follows.waits is

without_parts : (old : SessionModel) (n : ℕ × ℕ) → list_all is_done (take n.1 old.stages) ≡ true → KeepsParts old (without old n)
without_parts old n done =
    parts_by old (without old n) n.1 refl refl refl
    (λ i slot at.
    let late : n.1 ≤ i = stands_behind is_done old.stages n.1 i (Out slot) done at refl in
    (late, get_drop old.stages n.1 (i - n.1) i (omega (arith, late)) ∙ at))
    (λ i k slot stage sum at blocking less. (stage, sym (get_drop old.stages n.1 i k sum) ∙ at, blocking))

pub drain_parts : (most : ℕ) (old : SessionModel) (before : List ℕ) (result : Result ℕ NoMemory) (new : SessionModel) (after : List ℕ) → DrainOutcome most old before result new after → KeepsParts old new
drain_parts most old before (Ok n) new after (bytes, appended, count, drains) =
    subst (λ held. KeepsParts old held) (sym drains.left)
    (without_parts old (drains.count, parts_of (take drains.count old.requests)) (first_done drains.count old.requests old.stages old.ends drains.written.in_order))
drain_parts most old before (Err refused) new after (bytes, is) = parts_same old new (rw is refl) (rw is refl) (rw is refl) (rw is refl)

pub feed_parts : (old : SessionModel) (piece : List ℕ) (result : Result ℕ SessionFault) (new : SessionModel) → FeedOutcome old piece result new → KeepsParts old new
feed_parts old piece (Ok n) new (inl (full, none, is, opened)) = parts_same old new (rw is refl) (rw is refl) (rw is refl) (rw is refl)
feed_parts old piece (Ok n) new (inr (few, all, inl (opened, is))) = parts_same old new (rw is refl) (rw is refl) (rw is refl) (rw is refl)
feed_parts old piece (Ok n) new (inr (few, all, inr (quit, is))) = parts_same old new (rw is refl) (rw is refl) (rw is refl) (rw is refl)
feed_parts old piece (Err session_fault.NoMemory) new (may, is) = parts_same old new (rw is refl) (rw is refl) (rw is refl) (rw is refl)
feed_parts old piece (Err (Wire fault)) new (faulted, is) = parts_same old new (rw is refl) (rw is refl) (rw is refl) (rw is refl)
feed_parts old piece (Err NotRequest) new (faulted, is) = parts_same old new (rw is refl) (rw is refl) (rw is refl) (rw is refl)

with_parts : (old : SessionModel) (rest : _) (new : SessionModel) (words : List (List ℕ)) → ReadsWords old words (Ok new) rest → KeepsParts old new
with_parts old rest new words (next, is) =
    let grows = added_grows (with_incoming old rest) (plan_for words) new is in
    parts_more old new (record { more = grows.more; stages = grows.stages; first = grows.first; worker = grows.worker; client = grows.client })

pub read_parts : (old : SessionModel) (result : Result Bool SessionFault) (new : SessionModel) → ReadOutcome old result new → KeepsParts old new
read_parts old (Ok true) new (may, inl (words, rest, reads)) = with_parts old rest new words reads
read_parts old (Ok true) new (may, inr (takes, is)) = parts_same old new (rw is refl) (rw is refl) (rw is refl) (rw is refl)
read_parts old (Ok false) new (is, why) = parts_same old new (rw is refl) (rw is refl) (rw is refl) (rw is refl)
read_parts old (Err session_fault.NoMemory) new (may, keeps, is) = parts_same old new (rw is refl) (rw is refl) (rw is refl) (rw is refl)
read_parts old (Err (Wire fault)) new (inl (faulted, is)) = parts_same old new (rw is refl) (rw is refl) (rw is refl) (rw is refl)
read_parts old (Err (Wire fault)) new (inr (may, garbled, is)) = parts_same old new (rw is refl) (rw is refl) (rw is refl) (rw is refl)
read_parts old (Err NotRequest) new (inl (faulted, is)) = parts_same old new (rw is refl) (rw is refl) (rw is refl) (rw is refl)
read_parts old (Err NotRequest) new (inr (inl (may, takes, is))) = parts_same old new (rw is refl) (rw is refl) (rw is refl) (rw is refl)
read_parts old (Err NotRequest) new (inr (inr (may, words, rest, reads, is))) = parts_same old new (rw is refl) (rw is refl) (rw is refl) (rw is refl)

pub hangs_parts : (old new : SessionModel) → HangsUp old new → KeepsParts old new
hangs_parts old new hangs =
    parts_by old new 0 (omega (arith, hangs.first)) hangs.owner.0 hangs.owner.1
    (λ i slot at. (omega arith, subst (λ n. slice_get new.stages n ≡ Some (Out slot)) (omega arith) ((hangs.places i slot).1 at)))
    (λ i k slot stage sum at blocking less. left i k slot stage (omega (arith, sum)) at blocking)
  where
    left : (i k slot : ℕ) (stage : PartStage) → i ≡ k → slice_get new.stages i ≡ Some stage → blocks slot stage ≡ true → (before : PartStage) × (slice_get old.stages k ≡ Some before) × (blocks slot before ≡ true)
    left i k slot (Waiting part) same at blocking = absurd (hangs.none_waits i (subst IsWaiting (sym at) tt))
    left i k slot (Out own) same at blocking = (Out own, subst (λ n. slice_get old.stages n ≡ Some (Out own)) same ((hangs.places i own).0 at), blocking)
    left i k slot Done same at blocking = absurd (false≢true blocking)

-- ---- a part ends

module _ (old : SessionModel) (ticket : Ticket) (end : Ended) (new : SessionModel) (was_out : IsHandedOut old ticket) (is : EndOutcome old ticket end new) where
  abbrev gone : ℕ
  gone = ticket.part - old.first

  stages_are : new.stages ≡ slice_set old.stages gone Done
  stages_are = ap (λ (s : SessionModel). s.stages) is

  first_is : new.first ≡ old.first
  first_is = ap (λ (s : SessionModel). s.first) is

  -- the others stay out
  pub ended_out : (slot number : ℕ) → number ≢ ticket.part → IsOutFor old slot number → IsOutFor new slot number
  ended_out slot number apart (low, at) =
      let places : number - old.first ≢ gone = λ same. apart (omega (arith, same, low, was_out.1)) in
      let there : slice_get new.stages (number - old.first) ≡ Some (Out slot) = ap (λ ss. slice_get ss (number - old.first)) stages_are ∙ get_set_other old.stages gone (number - old.first) Done (Out slot) places at in
      (omega (arith, first_is, low), subst (λ n. slice_get new.stages (number - n) ≡ Some (Out slot)) (sym first_is) there)

  -- and none opens
  pub ended_open : (slot number : ℕ) → IsOpenFor new slot number → IsOpenFor old slot number
  ended_open slot number (low, stage, at, blocking) =
      let there : slice_get (slice_set old.stages gone Done) (number - old.first) ≡ Some stage =
      ap (λ ss. slice_get ss (number - old.first)) (sym stages_are) ∙ subst (λ n. slice_get new.stages (number - n) ≡ Some stage) first_is at in
      elim (set_back old.stages gone (number - old.first) Done stage there) [
        | inl here ↦ absurd (false≢true (sym (ap (blocks slot) here.1) ∙ blocking))
        | inr there ↦ (omega (arith, first_is, low), stage, there.1, blocking)
      ]

  pub ended_behind : (slot : ℕ) (before : List ℕ) (other : Ticket) → other ≢ ticket → IsOutBehind old slot before other → IsOutBehind new slot before other
  ended_behind slot before other apart out =
      let parts : other.part ≢ ticket.part = λ same. apart (same_part other ticket (out.owner.0 ∙ sym was_out.3) (out.owner.1 ∙ sym was_out.4) same) in
      record {
        owner = (out.owner.0 ∙ sym (ap (λ (s : SessionModel). s.worker) is), out.owner.1 ∙ sym (ap (λ (s : SessionModel). s.client) is));
        out = ended_out slot other.part parts out.out;
        earlier = out.earlier;
        others = λ number opened less. out.others number (ended_open slot number opened) less;
      }

-- ---- the next one that is out

module _ (held : SessionModel) (ticket : Ticket) where
  pub none_in_turn : NextOutAt (record { first = held.first; stages = held.stages }) ticket.part None → NextInTurn held ticket None
  none_in_turn none slot number (own_low, own) (low, at) less = none slot (number - held.first) own at (omega (arith, own_low, less))

  pub next_in_turn : (next : ℕ) → held.first ≤ ticket.part → NextOutAt (record { first = held.first; stages = held.stages }) ticket.part (Some next)
      → NextInTurn held ticket (Some (record { worker = held.worker; client = held.client; part = next }))
  next_in_turn next own_low (low, is) = (
    is.slot,
    (own_low, is.first),
    (low, is.out),
    omega (arith, low, own_low, is.behind),
    (refl, refl),
    λ number (number_low, stage, at, blocking) above below.
        let i = ticket.part - held.first in
        let j = number - held.first in
        let there : slice_get (drop (suc i) held.stages) (j - suc i) ≡ Some stage = get_drop held.stages (suc i) (j - suc i) j (omega (arith, number_low, own_low, above)) ∙ at in
        false≢true (sym (any_at (blocks is.slot) (drop (suc i) held.stages) (next - held.first - suc i) (j - suc i) stage is.next there (omega (arith, number_low, own_low, low, above, below))) ∙ blocking),
  )
