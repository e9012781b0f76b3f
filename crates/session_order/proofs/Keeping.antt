-- Each call keeps the parts that are out, and their order.
use Rattle.std.proofs.Common.{◌≡◌, ◌≢◌, ◌++◌, [], ◌+◌, ◌-◌, ◌≤◌, ◌^◌, ℕ, List, Bool, true, false, Option, Some, None, Result, Ok, Err, inl, inr, length, take, sym, subst, ◌∙◌, arith, refl, cond}
use Rattle.std.specs.Prelude.{IfSome, map, nat_le, slice_get}
use Rattle.std.specs.List.{list_any, list_all}
use Rattle.std.proofs.lemmas.List.{take-append-le, append-nil}
use Rattle.std.proofs.lemmas.Option.{slice_get_within}
use Rattle.slot_hash.specs.Slot.{slot_of}
use Rattle.resp_wire.specs.declared.fault.NoMemory.{NoMemory}
use Rattle.key_split.specs.PartModel.{PartModel}
use Rattle.key_split.specs.declared.travel.Ticket.{Ticket}
use Rattle.key_split.specs.declared.travel.Ended.{Ended}
use Rattle.key_split.specs.declared.planned.Planned.{Planned}
use Rattle.key_split.specs.declared.planned.Planned.TheVariants as planned
use Rattle.key_split.specs.declared.planned.PlanFault.{PlanFault}
use Rattle.session_order.specs.declared.queue.PartStage.{PartStage}
use Rattle.session_order.specs.declared.queue.PartStage.TheVariants.{Waiting, Out, Done}
use Rattle.session_order.specs.declared.closing.Broken.{Broken}
use Rattle.session_order.specs.declared.closing.Broken.TheVariants as broken
use Rattle.session_order.specs.declared.fault.SessionFault.{SessionFault}
use Rattle.session_order.specs.declared.fault.SessionFault.TheVariants as session_fault
use Rattle.session_order.specs.declared.fault.SessionFault.TheVariants.{Wire, NotRequest}
use Rattle.session_order.specs.PendingReply.{plan_for}
use Rattle.session_order.specs.Turn.{is_done, blocks, waits_for, handed_out}
use Rattle.session_order.specs.RequestReaderModel.{RequestReaderModel}
use Rattle.session_order.specs.SessionModel.{SessionModel}
use Rattle.session_order.specs.Replies.{parts_of, without, DrainOutcome}
use Rattle.session_order.specs.Steps.{IsOut, IsOutInOrder, ReadyOutcome, FollowerOutcome, IsHandedOut, EndOutcome, FeedOutcome, ReadOutcome, added, with_incoming, ReadsWords}
use Rattle.session_order.proofs.Lists.{any_set, get_set_other, get_set_same, get_append, get_drop, any_drop, stands_behind}
use Rattle.session_order.proofs.Fewer.{first_done}
use Rattle.session_order.proofs.Tabling.{none_waits}

-- out by a test: it was handed out and has not ended, and no earlier part passes
abbrev pub OutBy : (ℕ → PartStage → Bool) → SessionModel → Ticket → Type 0
OutBy p held ticket =
    (slot : ℕ) × (held.first ≤ ticket.part) × (slice_get held.stages (ticket.part - held.first) ≡ Some (Out slot))
    × (ticket.worker ≡ held.worker) × (ticket.client ≡ held.client)
    × (list_any (p slot) (take (ticket.part - held.first) held.stages) ≡ false)

abbrev pub KeepsBy : (ℕ → PartStage → Bool) → SessionModel → SessionModel → Type 0
KeepsBy p old new = (ticket : Ticket) → OutBy p old ticket → OutBy p new ticket

-- a part passes no more once it is handed out, and not once it has ended
pub record Eases (p : ℕ → PartStage → Bool) : Type 0 where
  pub handed : (slot : ℕ) (part : PartModel) → p slot (Waiting part) ≡ false → p slot (Out (slot_of part.key)) ≡ false
  pub done : (slot : ℕ) → p slot Done ≡ false

pub blocks_eases : Eases blocks
blocks_eases = record { handed = λ slot part not. not; done = λ slot. refl }

pub waits_eases : Eases waits_for
waits_eases = record { handed = λ slot part not. refl; done = λ slot. refl }

-- where no stage changes, what is out stays out
kept_same : (p : ℕ → PartStage → Bool) (old new : SessionModel) → new.stages ≡ old.stages → new.first ≡ old.first → new.worker ≡ old.worker → new.client ≡ old.client → KeepsBy p old new
kept_same p old new stages first worker client ticket (slot, le, at, its_worker, its_client, turn) =
    rw (stages, first, worker, client) (slot, le, at, its_worker, its_client, turn)

kept_more : (p : ℕ → PartStage → Bool) (old new : SessionModel) (more : List PartStage) → new.stages ≡ old.stages ++ more → new.first ≡ old.first → new.worker ≡ old.worker → new.client ≡ old.client → KeepsBy p old new
kept_more p old new more stages first worker client ticket (slot, le, at, its_worker, its_client, turn) =
    let i = ticket.part - old.first in
    let within : i ≤ length old.stages = omega (arith, slice_get_within old.stages i (Out slot) at) in
    rw (stages, first, worker, client) (
      slot,
      le,
      get_append old.stages more i (Out slot) at,
      its_worker,
      its_client,
      rw (take-append-le i old.stages more within) turn,
    )

-- the part at i is handed out
handed_is_out : (p : ℕ → PartStage → Bool) → Eases p → (old : SessionModel) (i : ℕ) (ticket : Ticket) (part : PartModel) (new : SessionModel) → slice_get old.stages i ≡ Some (Waiting part)
    → list_any (p (slot_of part.key)) (take i old.stages) ≡ false → ticket ≡ record { worker = old.worker; client = old.client; part = old.first + i } → new ≡ record old { stages = handed_out old.stages i part }
    → OutBy p new ticket × (IsHandedOut old ticket → ⊥)
handed_is_out p eases old i ticket part new at free numbered is =
    let place : old.first + i - old.first ≡ i = omega arith in
    rw (numbered, is, place) (
      (
        slot_of part.key,
        omega arith,
        get_set_same old.stages i (Waiting part) (Out (slot_of part.key)) at,
        refl,
        refl,
        any_set (p (slot_of part.key)) old.stages i i (Waiting part) (Out (slot_of part.key)) at (λ h. eases.handed (slot_of part.key) part h) free,
      ),
      λ (slot, le, posted, w, c). (let both : slice_get old.stages i ≡ Some (Out slot) = posted in cc),
    )

handed_keeps : (p : ℕ → PartStage → Bool) → Eases p → (old : SessionModel) (i : ℕ) (part : PartModel) (new : SessionModel) → slice_get old.stages i ≡ Some (Waiting part)
    → new ≡ record old { stages = handed_out old.stages i part } → KeepsBy p old new
handed_keeps p eases old i part new at is ticket (slot, le, posted, its_worker, its_client, turn) =
    let j = ticket.part - old.first in
    let apart : j ≢ i = λ same. (let both : slice_get old.stages i ≡ Some (Out slot) = subst (λ n. slice_get old.stages n ≡ Some (Out slot)) same posted in cc) in
    rw is (
      slot,
      le,
      get_set_other old.stages i j (Out (slot_of part.key)) (Out slot) apart posted,
      its_worker,
      its_client,
      any_set (p slot) old.stages j i (Waiting part) (Out (slot_of part.key)) at (λ h. eases.handed slot part h) turn,
    )

pub ready_keeps : (p : ℕ → PartStage → Bool) → Eases p → (old : SessionModel) (result : Option (Ticket × PartModel)) (new : SessionModel) → ReadyOutcome old result new → KeepsBy p old new
ready_keeps p eases old None new (none, is) = kept_same p old new (rw is refl) (rw is refl) (rw is refl) (rw is refl)
ready_keeps p eases old (Some (ticket, part)) new (i, (may, earliest, at), numbered, is) = handed_keeps p eases old i part new at is

pub ready_out : (old : SessionModel) (result : Option (Ticket × PartModel)) (new : SessionModel) → ReadyOutcome old result new
    → IfSome result (λ given. IsOut new given.0 × (IsOut old given.0 → ⊥))
ready_out old None new does = tt
ready_out old (Some (ticket, part)) new (i, (may, earliest, at), numbered, is) =
    let free : list_any (blocks (slot_of part.key)) (take i old.stages) ≡ false =
    (let same : may.0 ≡ part = cc in subst (λ p. list_any (blocks (slot_of p.key)) (take i old.stages) ≡ false) same may.2) in
    let given = handed_is_out blocks blocks_eases old i ticket part new at free numbered is in
    (given.0, λ (slot, le, posted, w, c, turn). given.1 (slot, le, posted, w, c))

-- what is out with all earlier parts ended is out in order
pub out_in_order : (held : SessionModel) (ticket : Ticket) → IsOut held ticket → IsOutInOrder held ticket
out_in_order held ticket (slot, le, posted, worker, client, turn) = (slot, le, posted, worker, client, none_waits slot (take (ticket.part - held.first) held.stages) turn)

pub follower_keeps : (p : ℕ → PartStage → Bool) → Eases p → (old : SessionModel) (ticket : Ticket) (result : Option (Ticket × PartModel)) (new : SessionModel) → FollowerOutcome old ticket result new → KeepsBy p old new
follower_keeps p eases old ticket None new (none, is) = kept_same p old new (rw is refl) (rw is refl) (rw is refl) (rw is refl)
follower_keeps p eases old ticket (Some (given, part)) new (j, follows, numbered, is) = handed_keeps p eases old j part new follows.waits is

pub follower_out : (old : SessionModel) (ticket : Ticket) (result : Option (Ticket × PartModel)) (new : SessionModel) → FollowerOutcome old ticket result new
    → IfSome result (λ given. IsOutInOrder new given.0 × (IsHandedOut old given.0 → ⊥))
follower_out old ticket None new does = tt
follower_out old ticket (Some (given, part)) new (j, follows, numbered, is) = handed_is_out waits_for waits_eases old j given part new follows.waits follows.in_order numbered is

pub ended_over : (old : SessionModel) (ticket : Ticket) (end : Ended) (new : SessionModel) → IsHandedOut old ticket → EndOutcome old ticket end new → IsOut new ticket → ⊥
ended_over old ticket end new (own, own_le, own_at, own_worker, own_client) is (slot, le, posted, w, c, turn) =
    let done : slice_get new.stages (ticket.part - old.first) ≡ Some Done =
    rw is (get_set_same old.stages (ticket.part - old.first) (Out own) Done own_at) in
    let first : new.first ≡ old.first = rw is refl in
    let both : slice_get new.stages (ticket.part - old.first) ≡ Some (Out slot) = rw (← first) posted in cc

pub same_part : (a b : Ticket) → a.worker ≡ b.worker → a.client ≡ b.client → a.part ≡ b.part → a ≡ b
same_part a b worker client part =
    let made : ℕ → ℕ → ℕ → Ticket = λ x y z. record { worker = x; client = y; part = z } in
    let same : made a.worker a.client a.part ≡ made b.worker b.client b.part = rw (worker, client, part) refl in same

pub ended_keeps : (p : ℕ → PartStage → Bool) → Eases p → (old : SessionModel) (ticket : Ticket) (end : Ended) (new : SessionModel) → IsHandedOut old ticket → EndOutcome old ticket end new
    → (other : Ticket) → other ≢ ticket → OutBy p old other → OutBy p new other
ended_keeps p eases old ticket end new (own, own_le, own_at, own_worker, own_client) is other differs (slot, le, posted, its_worker, its_client, turn) =
    let i = ticket.part - old.first in
    let j = other.part - old.first in
    let apart : j ≢ i = λ same. differs (same_part other ticket (its_worker ∙ sym own_worker) (its_client ∙ sym own_client) (omega (arith, same, le, own_le))) in
    rw is (
      slot,
      le,
      get_set_other old.stages i j Done (Out slot) apart posted,
      its_worker,
      its_client,
      any_set (p slot) old.stages j i (Out own) Done own_at (λ h. eases.done slot) turn,
    )

without_keeps : (p : ℕ → PartStage → Bool) (old : SessionModel) (n : ℕ × ℕ) → list_all is_done (take n.1 old.stages) ≡ true → KeepsBy p old (without old n)
without_keeps p old n done ticket (slot, le, posted, its_worker, its_client, turn) =
    let i = ticket.part - old.first in
    let late : n.1 ≤ i = stands_behind is_done old.stages n.1 i (Out slot) done posted refl in
    let place : i ≡ n.1 + (ticket.part - (old.first + n.1)) = omega (arith, late, le) in (
      slot,
      omega (arith, late, le),
      get_drop old.stages n.1 (ticket.part - (old.first + n.1)) i place ∙ posted,
      its_worker,
      its_client,
      any_drop (p slot) old.stages n.1 (ticket.part - (old.first + n.1)) i place turn,
    )

pub drain_keeps : (p : ℕ → PartStage → Bool) (most : ℕ) (old : SessionModel) (before : List ℕ) (result : Result ℕ NoMemory) (new : SessionModel) (after : List ℕ) → DrainOutcome most old before result new after → KeepsBy p old new
drain_keeps p most old before (Ok n) new after (bytes, appended, count, drains) =
    subst (λ held. KeepsBy p old held) (sym drains.left)
    (without_keeps p old (drains.count, parts_of (take drains.count old.requests)) (first_done drains.count old.requests old.stages old.ends drains.written.in_order))
drain_keeps p most old before (Err refused) new after (bytes, is) = kept_same p old new (rw is refl) (rw is refl) (rw is refl) (rw is refl)

pub feed_keeps : (p : ℕ → PartStage → Bool) (old : SessionModel) (piece : List ℕ) (result : Result ℕ SessionFault) (new : SessionModel) → FeedOutcome old piece result new → KeepsBy p old new
feed_keeps p old piece (Ok n) new (inl (full, none, is, opened)) = kept_same p old new (rw is refl) (rw is refl) (rw is refl) (rw is refl)
feed_keeps p old piece (Ok n) new (inr (few, all, inl (opened, is))) = kept_same p old new (rw is refl) (rw is refl) (rw is refl) (rw is refl)
feed_keeps p old piece (Ok n) new (inr (few, all, inr (quit, is))) = kept_same p old new (rw is refl) (rw is refl) (rw is refl) (rw is refl)
feed_keeps p old piece (Err session_fault.NoMemory) new (may, is) = kept_same p old new (rw is refl) (rw is refl) (rw is refl) (rw is refl)
feed_keeps p old piece (Err (Wire fault)) new (faulted, is) = kept_same p old new (rw is refl) (rw is refl) (rw is refl) (rw is refl)
feed_keeps p old piece (Err NotRequest) new (faulted, is) = kept_same p old new (rw is refl) (rw is refl) (rw is refl) (rw is refl)

-- the stages grow, and the numbers stay
pub record Grows (old new : SessionModel) : Type 0 where
  pub more : List PartStage
  pub stages : new.stages ≡ old.stages ++ more
  pub first : new.first ≡ old.first
  pub worker : new.worker ≡ old.worker
  pub client : new.client ≡ old.client

keeps_of : (p : ℕ → PartStage → Bool) (old new : SessionModel) → Grows old new → KeepsBy p old new
keeps_of p old new grows = kept_more p old new grows.more grows.stages grows.first grows.worker grows.client

by_split : (b : Bool) (wide new : SessionModel) → cond {A = Result SessionModel Broken} b (Ok wide) (Err broken.NotRequest) ≡ Ok new → new ≡ wide
by_split true wide new is = cc
by_split false wide new is = cc

pub added_grows : (old : SessionModel) (plan : Result Planned PlanFault) (new : SessionModel) → added old plan ≡ Ok new → Grows old new
added_grows old (Err fault) new is = let now = by_split true _ new is in record { more = []; stages = rw now (sym (append-nil old.stages)); first = rw now refl; worker = rw now refl; client = rw now refl }
added_grows old (Ok (planned.Local value)) new is = let now = by_split true _ new is in record { more = []; stages = rw now (sym (append-nil old.stages)); first = rw now refl; worker = rw now refl; client = rw now refl }
added_grows old (Ok planned.Close) new is = let now = by_split true _ new is in record { more = []; stages = rw now (sym (append-nil old.stages)); first = rw now refl; worker = rw now refl; client = rw now refl }
added_grows old (Ok (planned.Parts how parts)) new is = let now = by_split (nat_le (old.first + length old.stages + length parts) (2 ^ 48)) _ new is in
    record { more = map Waiting parts; stages = rw now refl; first = rw now refl; worker = rw now refl; client = rw now refl }

with_keeps : (p : ℕ → PartStage → Bool) (old : SessionModel) (rest : RequestReaderModel) (new : SessionModel) (words : List (List ℕ)) → ReadsWords old words (Ok new) rest → KeepsBy p old new
with_keeps p old rest new words (next, is) =
    let grows = added_grows (with_incoming old rest) (plan_for words) new is in
    kept_more p old new grows.more grows.stages grows.first grows.worker grows.client

pub read_keeps : (p : ℕ → PartStage → Bool) (old : SessionModel) (result : Result Bool SessionFault) (new : SessionModel) → ReadOutcome old result new → KeepsBy p old new
read_keeps p old (Ok true) new (may, inl (words, rest, reads)) = with_keeps p old rest new words reads
read_keeps p old (Ok true) new (may, inr (takes, is)) = kept_same p old new (rw is refl) (rw is refl) (rw is refl) (rw is refl)
read_keeps p old (Ok false) new (is, why) = kept_same p old new (rw is refl) (rw is refl) (rw is refl) (rw is refl)
read_keeps p old (Err session_fault.NoMemory) new (may, keeps, is) = kept_same p old new (rw is refl) (rw is refl) (rw is refl) (rw is refl)
read_keeps p old (Err (Wire fault)) new (inl (faulted, is)) = kept_same p old new (rw is refl) (rw is refl) (rw is refl) (rw is refl)
read_keeps p old (Err (Wire fault)) new (inr (may, garbled, is)) = kept_same p old new (rw is refl) (rw is refl) (rw is refl) (rw is refl)
read_keeps p old (Err NotRequest) new (inl (faulted, is)) = kept_same p old new (rw is refl) (rw is refl) (rw is refl) (rw is refl)
read_keeps p old (Err NotRequest) new (inr (inl (may, takes, is))) = kept_same p old new (rw is refl) (rw is refl) (rw is refl) (rw is refl)
read_keeps p old (Err NotRequest) new (inr (inr (may, words, rest, reads, is))) = kept_same p old new (rw is refl) (rw is refl) (rw is refl) (rw is refl)
