-- A client's session reads one part more: in the machine it arrives.
use Rattle.std.proofs.Common.{◌≡◌, ◌≢◌, ◌⊎◌, inl, inr, ⊎_elim, ℕ, suc, ◌+◌, ◌-◌, ◌<◌, ◌≤◌, ◌==◌, Bool, true, false, List, [], ◌∷◌, ◌++◌, Some, sym, ap, ◌∙◌, subst, arith, length}
use Rattle.std.specs.Prelude.{slice_get, count_by, cond}
use Rattle.std.proofs.lemmas.Bool.{false≢true}
use Rattle.std.proofs.lemmas.List.{length-append}
use Rattle.std.proofs.lemmas.List.Sums.{sum_by-cons}
use Rattle.std.proofs.lemmas.Option.{slice_get_within}
use Rattle.key_split.specs.PartModel.{PartModel}
use Rattle.key_split.specs.declared.planned.Joining.TheVariants.{AllOk}
use Rattle.key_split.specs.declared.travel.Ticket.{Ticket}
use Rattle.key_split.specs.declared.travel.Ended.{Ended}
use Rattle.key_split.specs.declared.travel.Ended.TheVariants.{Lost}
use Rattle.command_future.specs.CommandModel.{fresh}
use Rattle.command_future.specs.declared.stage.Stage.TheVariants.{Over}
use Rattle.session_order.specs.SessionModel.{SessionModel}
use Rattle.session_order.specs.Steps.{IsHandedOut}
use Rattle.session_order.specs.declared.queue.PartStage.{PartStage}
use Rattle.session_order.specs.declared.queue.PartStage.TheVariants.{Waiting, Out}
use Rattle.session_order.specs.declared.replies.PendingReply.TheVariants.{Parts}
use Rattle.proxy_turns.specs.ClientModel.{ClientModel}
use Rattle.world_laws.specs.declared.state.Arrival.{Arrival}
use Rattle.world_laws.proofs.Recorded.{at-last, before-last, last}
use Rattle.turn_laws.specs.Shadow.{ClientShadow, PartShadow, KeptShadow, IsLetGo, StageShadow, ticket_at}
use Rattle.turn_laws.proofs.Downs.{Pair}
use Rattle.turn_laws.proofs.Parting.{out-waits}
use Rattle.turn_laws.proofs.Tables.{same_number}
use Rattle.turn_laws.proofs.Standing.{stands-more, order-more, order-on}

-- the session with one part more: of the requests no more is known than how many parts they have
abbrev pub pushed : SessionModel → PartModel → SessionModel
pushed held part = record held { requests = Parts AllOk (suc (length held.stages)) ∷ []; stages = held.stages ++ Waiting part ∷ []; ends = held.ends ++ Lost ∷ [] }

-- the next part's number
abbrev pub next_of : SessionModel → ℕ
next_of held = held.first + length held.stages

pub count-more : (p : Arrival → Bool) (xs : List Arrival) (y : Arrival) (n : ℕ) → cond (p y) 1 0 ≡ n → count_by p (xs ++ y ∷ []) ≡ count_by p xs + n
count-more p [] y n e = omega (arith, sum_by-cons (λ a. cond (p a) 1 0) y [], e)
count-more p (x ∷ xs) y n e = omega (arith, sum_by-cons (λ a. cond (p a) 1 0) x xs, sum_by-cons (λ a. cond (p a) 1 0) x (xs ++ y ∷ []), count-more p xs y n e)

pub one-counted : (n : ℕ) → cond {A = ℕ} (n == n) 1 0 ≡ 1
one-counted n = ap (λ b. cond {A = ℕ} b 1 0) (same_number n)

out-last : (stages : List PartStage) (part : PartModel) (i slot : ℕ) → slice_get (stages ++ Waiting part ∷ []) i ≡ Some (Out slot) → slice_get stages i ≡ Some (Out slot)
out-last stages part i slot e = ⊎_elim (λ (z : slice_get stages i ≡ Some (Out slot)). z)
    (λ (z : (i ≡ length stages) × (Out slot ≡ Waiting part)). absurd (out-waits slot part (sym z.1)))
    (at-last stages (Waiting part) i (Out slot) e)

module _ {C : Type 0} (downs : List Pair) (worker number : ℕ) (client : ClientModel C) (arrivals : List Arrival) (old : ClientShadow downs worker number client arrivals)
    (here : client.gone ≡ false) (part : PartModel) (y : Arrival) (arrives : y.command ≡ fresh y.command.ticket part) (ticketed : y.command.ticket ≡ ticket_at client.session (next_of client.session)) (unanswered : y.answered ≡ false) where
  abbrev held : SessionModel
  held = client.session

  abbrev client2 : ClientModel C
  client2 = record client { session = pushed held part }

  abbrev arrivals2 : List Arrival
  arrivals2 = arrivals ++ y ∷ []

  theirs : y.command.ticket.client ≡ number
  theirs = ap (λ (t : Ticket). t.client) ticketed ∙ old.numbered

  numbered-next : y.command.ticket.part ≡ held.first + length held.stages
  numbered-next = ap (λ (t : Ticket). t.part) ticketed

  was-out : (t : Ticket) → IsHandedOut (pushed held part) t → IsHandedOut held t
  was-out t o = (o.0, o.1, out-last held.stages part (t.part - held.first) o.0 o.2, o.3, o.4)

  still-out : (t : Ticket) → IsHandedOut held t → IsHandedOut (pushed held part) t
  still-out t o = (o.0, o.1, before-last held.stages (Waiting part ∷ []) (t.part - held.first) (Out o.0) o.2, o.3, o.4)

  -- it is none of those that are out
  none-out : (t : Ticket) → IsHandedOut held t → y.command.ticket ≡ t → ⊥
  none-out t o e =
      let within = slice_get_within held.stages (t.part - held.first) (Out o.0) o.2 in
      omega (arith, within, o.1, ap (λ (u : Ticket). u.part) e, numbered-next)

  kept2 : (a : Arrival) → KeptShadow downs client a → KeptShadow downs client2 a
  kept2 a h = ⊎_elim
      (λ (z : (a.command.ticket.part < held.first) × (a.answered ≡ true) × ((ended : Ended) × (a.command.stage ≡ Over ended))). inl z)
      (λ (z : (held.first ≤ a.command.ticket.part) × (a.answered ≡ false) × ((stage : PartStage) × (e : Ended)
      × (slice_get held.stages (a.command.ticket.part - held.first) ≡ Some stage)
      × (slice_get held.ends (a.command.ticket.part - held.first) ≡ Some e)
      × StageShadow downs client.gone client.commands stage e a)).
      inr (
        z.0,
        z.1,
        (
          z.2.0,
          z.2.1,
          before-last held.stages (Waiting part ∷ []) (a.command.ticket.part - held.first) z.2.0 z.2.2,
          before-last held.ends (Lost ∷ []) (a.command.ticket.part - held.first) z.2.1 z.2.3,
          z.2.4,
        ),
      ))
      h

  new-kept : KeptShadow downs client2 y
  new-kept =
      let m : y.command.ticket.part - held.first ≡ length held.stages = omega (arith, numbered-next) in
      inr (
        omega (arith, numbered-next),
        unanswered,
        (
          Waiting part,
          Lost,
          ap (slice_get (held.stages ++ Waiting part ∷ [])) m ∙ last held.stages (Waiting part),
          ap (slice_get (held.ends ++ Lost ∷ [])) (m ∙ sym old.ends) ∙ last held.ends Lost,
          arrives,
        ),
      )

  pub pushed-shadow : ClientShadow downs worker number client2 arrivals2
  pushed-shadow = record {
    numbered = old.numbered;
    housed = old.housed;
    all = λ g.
        let more = count-more (λ (a : Arrival). a.command.ticket.client == number) arrivals y 1 (ap (λ n. cond {A = ℕ} (n == number) 1 0) theirs ∙ one-counted number) in
        omega (arith, more, old.all g, length-append held.stages (Waiting part ∷ []));
    read = λ g p lt. ⊎_elim
        (λ (z : p < held.first + length held.stages). stands-more arrivals y (ticket_at held p) (old.read g p z))
        (λ (z : p ≡ held.first + length held.stages). (length arrivals, y, last arrivals y, ticketed ∙ ap (ticket_at held) (sym z)))
        (below p (held.first + length held.stages) (omega (arith, lt, length-append held.stages (Waiting part ∷ []))));
    stands = λ t o. let was = old.stands t (was-out t o) in (stands-more arrivals y t was.0, order-on held (pushed held part) arrivals2 (λ i d e p. inr (still-out d.command.ticket p)) t (order-more held arrivals y t (none-out t (was-out t o)) was.1));
    homes = λ i a e n. ⊎_elim
        (λ (z : slice_get arrivals i ≡ Some a). old.homes i a z n)
        (λ (z : (i ≡ length arrivals) × (a ≡ y)). ap (λ (u : Arrival). u.command.ticket.worker) z.1 ∙ ap (λ (t : Ticket). t.worker) ticketed ∙ old.housed)
        (at-last arrivals y i a e);
    parts = λ i a e n. ⊎_elim
        (λ (z : slice_get arrivals i ≡ Some a). ⊎_elim
        (λ (k : KeptShadow downs client a). inl (kept2 a k))
        (λ (k : IsLetGo client a.command.ticket). absurd (false≢true (sym here ∙ k.0)))
        (old.parts i a z n))
        (λ (z : (i ≡ length arrivals) × (a ≡ y)). subst (PartShadow downs client2) (sym z.1) (inl new-kept))
        (at-last arrivals y i a e);
    commands = record {
      posted = λ m d e. let was = (old.commands).posted m d e in (was.0, still-out d.ticket was.1);
      fresh = λ d e. let was = (old.commands).fresh d e in (still-out d.ticket was.0, was.1, was.2);
      apart = (old.commands).apart;
    };
    owed = omega (arith, length-append held.stages (Waiting part ∷ []));
    ends = omega (arith, length-append held.stages (Waiting part ∷ []), length-append held.ends (Lost ∷ []), old.ends);
    quit = old.quit;
  }
    where
      below : (a b : ℕ) → a < b + 1 → (a < b) ⊎ (a ≡ b)
      below a b lt = grind (arith, lt)

-- another client, as a part arrives that is not its own
pub others-more : {C : Type 0} (downs : List Pair) (worker number : ℕ) (client : ClientModel C) (arrivals : List Arrival) (y : Arrival) → y.command.ticket.client ≢ number
    → (y.command.ticket.client == number) ≡ false → ClientShadow downs worker number client arrivals → ClientShadow downs worker number client (arrivals ++ y ∷ [])
others-more {C} downs worker number client arrivals y ne no' h = record {
  numbered = h.numbered;
  housed = h.housed;
  all = λ here. count-more (λ (c : Arrival). c.command.ticket.client == number) arrivals y 0 (ap (λ b. cond {A = ℕ} b 1 0) no') ∙ omega (arith, h.all here);
  read = λ here part lt. stands-more arrivals y (ticket_at client.session part) (h.read here part lt);
  stands = λ t out. let was = h.stands t out in (stands-more arrivals y t was.0, order-more client.session arrivals y t (λ e. ne (ap (λ (u : Ticket). u.client) e ∙ out.4 ∙ h.numbered)) was.1);
  homes = λ i a e n. ⊎_elim
      (λ (z : slice_get arrivals i ≡ Some a). h.homes i a z n)
      (λ (z : (i ≡ length arrivals) × (a ≡ y)). absurd (ne (ap (λ (u : Arrival). u.command.ticket.client) (sym z.1) ∙ n)))
      (at-last arrivals y i a e);
  parts = λ i a e n. ⊎_elim
      (λ (z : slice_get arrivals i ≡ Some a). h.parts i a z n)
      (λ (z : (i ≡ length arrivals) × (a ≡ y)). absurd (ne (ap (λ (u : Arrival). u.command.ticket.client) (sym z.1) ∙ n)))
      (at-last arrivals y i a e);
  commands = h.commands;
  owed = h.owed;
  ends = h.ends;
  quit = h.quit;
}
