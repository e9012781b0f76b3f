-- The commands of a client that is there are of parts that are out.
use Rattle.std.proofs.Common.{◌≡◌, ◌≢◌, inl, inr, ◌∷◌, [], ◌+◌, ◌-◌, List, ℕ, refl, ap, sym, subst, ◌∙◌, Option, Some, None, Bool, true, false, cond, arith}
use Rattle.std.specs.Prelude.{All, slice_get}
use Rattle.std.specs.FinMap.{FinMap, get, insert, remove, get-remove}
use Rattle.std.specs.Ordering.{nat_cmp, eq_by_cmp}
use Rattle.std.specs.Cmp.{nat_cmp_total, eq_by_cmp_equiv}
use Rattle.std.proofs.lemmas.Bool.{false≢true}
use Rattle.std.proofs.lemmas.List.Elements.{All-head, All-nil, All-push, All-tail, All-weaker}
use Rattle.key_split.specs.PartModel.{PartModel}
use Rattle.key_split.specs.declared.travel.Ticket.{Ticket}
use Rattle.key_split.specs.declared.travel.Ended.{Ended}
use Rattle.command_future.specs.CommandModel.{CommandModel, fresh as new_command}
use Rattle.session_order.specs.SessionModel.{SessionModel}
use Rattle.session_order.specs.Turn.{waits_for}
use Rattle.session_order.specs.declared.queue.PartStage.TheVariants.{Waiting, Out}
use Rattle.session_order.specs.Steps.{EndOutcome, IsHandedOut, IsOutInOrder}
use Rattle.session_order.proofs.Keeping.{KeepsBy, ended_keeps, waits_eases}
use Rattle.proxy_turns.specs.Commands.{CommandsModel, HasEnd, TakesRun, awaiting, with_command, with_fresh, with_posted, with_run}
use Rattle.turn_laws.proofs.Tables.{put-apart, put-other}
use Rattle.turn_laws.proofs.Ending.{none-some, removed-none}

-- Each command is of a part that is out in order, and those that were not posted are of no posted part.
pub record AreOut (session : SessionModel) (commands : CommandsModel) : Type 0 where
  pub posted : (number : ℕ) (c : CommandModel) → get commands.posted number ≡ Some c → (c.ticket.part ≡ number) × IsOutInOrder session c.ticket
  pub fresh : All (λ c. IsOutInOrder session c.ticket × (get commands.posted c.ticket.part ≡ None)) commands.fresh

-- it is none, since it is none of these
pub none-of : {X : Type 0} (o : Option X) → ((x : X) → o ≡ Some x → ⊥) → o ≡ None
none-of None none = refl
none-of (Some x) none = absurd (none x refl)

-- the session goes on, and what was out stays so
pub out-kept : (old new : SessionModel) (commands : CommandsModel) → KeepsBy waits_for old new → AreOut old commands → AreOut new commands
out-kept old new commands keeps out = record {
  posted = λ number c there. ((out.posted number c there).0, keeps c.ticket (out.posted number c there).1);
  fresh = All-weaker (λ c. IsOutInOrder old c.ticket × (get commands.posted c.ticket.part ≡ None)) (λ c. IsOutInOrder new c.ticket × (get commands.posted c.ticket.part ≡ None))
      (λ c its. (keeps c.ticket its.0, its.1)) commands.fresh out.fresh;
}

-- a part that waits has no posted command
pub not-posted : (old : SessionModel) (commands : CommandsModel) (i number : ℕ) (part : PartModel) → slice_get old.stages i ≡ Some (Waiting part) → number ≡ old.first + i → AreOut old commands
    → get commands.posted number ≡ None
not-posted old commands i number part at numbered out = none-of (get commands.posted number) (λ c there.
    let its = out.posted number c there in
    let place : c.ticket.part - old.first ≡ i = omega (arith, its.0, numbered) in
    let both : slice_get old.stages i ≡ Some (Out its.1.0) = ap (slice_get old.stages) (sym place) ∙ its.1.2 in cc)

-- a command begins
pub out-begun : (old new : SessionModel) (commands : CommandsModel) (ticket : Ticket) (part : PartModel) → KeepsBy waits_for old new → IsOutInOrder new ticket → get commands.posted ticket.part ≡ None
    → AreOut old commands → AreOut new (with_fresh commands ticket part)
out-begun old new commands ticket part keeps here none out =
    let on = out-kept old new commands keeps out in
    record {
      posted = on.posted;
      fresh = All-push (λ c. IsOutInOrder new c.ticket × (get commands.posted c.ticket.part ≡ None)) commands.fresh (new_command ticket part) on.fresh (here, none);
    }

-- a posted command changes, and its ticket stays
pub out-put : (session : SessionModel) (commands : CommandsModel) (number : ℕ) (c c' : CommandModel) → get commands.posted number ≡ Some c → c'.ticket ≡ c.ticket → AreOut session commands
    → AreOut session (with_command commands number c')
out-put session commands number c c' there same out = record {
  posted = λ q d at. elim (put-apart commands.posted number c' q d at) [
    | inl here ↦
        let it = out.posted number c there in
        let ticket : d.ticket ≡ c.ticket = ap (λ (x : CommandModel). x.ticket) here.1 ∙ same in
        (ap (λ (t : Ticket). t.part) ticket ∙ it.0 ∙ sym here.0, subst (IsOutInOrder session) (sym ticket) it.1)
    | inr other ↦ out.posted q d other.1
  ];
  fresh = All-weaker (λ d. IsOutInOrder session d.ticket × (get commands.posted d.ticket.part ≡ None)) (λ d. IsOutInOrder session d.ticket × (get (insert commands.posted number c') d.ticket.part ≡ None))
      (λ d its. (its.0, put-other commands.posted number d.ticket.part c' (λ e. none-some (get commands.posted number) c (ap (get commands.posted) (sym e) ∙ its.1) there) ∙ its.1)) commands.fresh out.fresh;
}

-- all that were not posted yet are posted
all-posted : (session : SessionModel) (posted : FinMap nat_cmp CommandModel) (cs : List CommandModel) → ((q : ℕ) (d : CommandModel) → get posted q ≡ Some d → (d.ticket.part ≡ q) × IsOutInOrder session d.ticket)
    → All (λ c. IsOutInOrder session c.ticket) cs → (q : ℕ) (d : CommandModel) → get (with_posted posted cs) q ≡ Some d → (d.ticket.part ≡ q) × IsOutInOrder session d.ticket
all-posted session posted [] were own q d at = were q d at
all-posted session posted (c ∷ cs) were own q d at =
    all-posted session (insert posted c.ticket.part (awaiting c)) cs
    (λ p e there. elim (put-apart posted c.ticket.part (awaiting c) p e there) [
      | inl here ↦
          let ticket : e.ticket ≡ c.ticket = ap (λ (x : CommandModel). x.ticket) here.1 in
          (ap (λ (t : Ticket). t.part) ticket ∙ sym here.0, subst (IsOutInOrder session) (sym ticket) (All-head (λ x. IsOutInOrder session x.ticket) c cs own))
      | inr other ↦ were p e other.1
    ])
    (All-tail (λ x. IsOutInOrder session x.ticket) c cs own) q d at

-- a run goes out
pub out-run : (session : SessionModel) (commands : CommandsModel) (first : CommandModel) (later : List CommandModel) (rest : CommandsModel) → TakesRun commands first later rest → AreOut session commands
    → AreOut session (with_run rest first later)
out-run session commands first later rest (inl (all, new, is)) out =
    subst (λ cs. AreOut session (with_run cs first later)) (sym is) (record {
      posted = all-posted session commands.posted (first ∷ later) out.posted
          (All-weaker (λ c. IsOutInOrder session c.ticket × (get commands.posted c.ticket.part ≡ None)) (λ c. IsOutInOrder session c.ticket) (λ c its. its.0) (first ∷ later)
          (subst (All (λ c. IsOutInOrder session c.ticket × (get commands.posted c.ticket.part ≡ None))) all out.fresh));
      fresh = All-nil (λ c. IsOutInOrder session c.ticket × (get (with_posted commands.posted (first ∷ later)) c.ticket.part ≡ None));
    })
out-run session commands first later rest (inr (there, alone, is)) out =
    subst (λ cs. AreOut session (with_run cs first later)) (sym is) (subst (λ ls. AreOut session (with_run commands first ls)) (sym alone)
    (out-put session commands first.ticket.part first (awaiting first) there refl out))

-- the table without one
pub still-there : {X : Type 0} (m : FinMap nat_cmp X) (k q : ℕ) (d : X) → get (remove m k) q ≡ Some d → (get m q ≡ Some d) × (q ≢ k)
still-there {X} m k q d there = by (eq_by_cmp nat_cmp q k) refl
  where
    at : get (remove m k) q ≡ cond (eq_by_cmp nat_cmp q k) None (get m q)
    at = get-remove nat_cmp_total m k q

    by : (b : Bool) → eq_by_cmp nat_cmp q k ≡ b → (get m q ≡ Some d) × (q ≢ k)
    by true same = absurd (none-some (get (remove m k) q) d (at ∙ ap (λ b. cond b None (get m q)) same) there)
    by false apart = (sym (at ∙ ap (λ b. cond b None (get m q)) apart) ∙ there, λ e. false≢true (sym apart ∙ ap (eq_by_cmp nat_cmp q) (sym e) ∙ (eq_by_cmp_equiv nat_cmp_total).refl q))

-- a command that has ended is of a part that was handed out
handed : (session : SessionModel) (ticket : Ticket) → IsOutInOrder session ticket → IsHandedOut session ticket
handed session ticket (slot, low, at, worker, client, order) = (slot, low, at, worker, client)

pub ended-out : (session : SessionModel) (commands : CommandsModel) (ticket : Ticket) (end : Ended) → HasEnd commands ticket.part ticket end → AreOut session commands → IsHandedOut session ticket
ended-out session commands ticket end (c, there, named, over) out = handed session ticket (subst (IsOutInOrder session) named (out.posted ticket.part c there).1)

-- its part ends
pub out-ended : (old new : SessionModel) (commands : CommandsModel) (ticket : Ticket) (end : Ended) → HasEnd commands ticket.part ticket end → EndOutcome old ticket end new → AreOut old commands
    → AreOut new (record commands { posted = remove commands.posted ticket.part })
out-ended old new commands ticket end has ends out =
    let keeps : (other : Ticket) → other.part ≢ ticket.part → IsOutInOrder old other → IsOutInOrder new other =
    λ other apart here. ended_keeps waits_for waits_eases old ticket end new (ended-out old commands ticket end has out) ends other (λ e. apart (ap (λ (t : Ticket). t.part) e)) here in
    record {
      posted = λ q d there.
          let was = still-there commands.posted ticket.part q d there in
          let its = out.posted q d was.0 in
          (its.0, keeps d.ticket (λ e. was.1 (sym its.0 ∙ e)) its.1);
      fresh = All-weaker (λ c. IsOutInOrder old c.ticket × (get commands.posted c.ticket.part ≡ None)) (λ c. IsOutInOrder new c.ticket × (get (remove commands.posted ticket.part) c.ticket.part ≡ None))
          (λ c its. (keeps c.ticket (λ e. none-some (get commands.posted ticket.part) has.0 (ap (get commands.posted) (sym e) ∙ its.1) has.1) its.0, removed-none commands.posted ticket.part c.ticket.part its.1))
          commands.fresh out.fresh;
    }
