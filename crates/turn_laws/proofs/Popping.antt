-- The reply to a client's first part is drained: the machine answers it.
use Rattle.std.proofs.Common.{◌≡◌, ◌≢◌, ◌⊎◌, inl, inr, ⊎_elim, ℕ, suc, ◌-◌, ◌<◌, ◌≤◌, ◌==◌, true, false, List, [], ◌∷◌, Some, refl, sym, ap, ◌∙◌, subst, arith, length, drop}
use Rattle.std.specs.Prelude.{slice_get, slice_set}
use Rattle.std.proofs.lemmas.Bool.{false≢true}
use Rattle.std.proofs.lemmas.Option.{slice_get_within}
use Rattle.key_split.specs.declared.planned.Joining.TheVariants.{AllOk}
use Rattle.key_split.specs.declared.travel.Ticket.{Ticket}
use Rattle.key_split.specs.declared.travel.Ended.{Ended}
use Rattle.command_future.specs.declared.stage.Stage.TheVariants.{Over}
use Rattle.session_order.specs.SessionModel.{SessionModel}
use Rattle.session_order.specs.Steps.{IsHandedOut}
use Rattle.session_order.specs.declared.queue.PartStage.{PartStage}
use Rattle.session_order.specs.declared.queue.PartStage.TheVariants.{Out, Done}
use Rattle.session_order.specs.declared.replies.PendingReply.TheVariants.{Parts}
use Rattle.proxy_turns.specs.ClientModel.{ClientModel}
use Rattle.world_laws.specs.declared.state.Arrival.{Arrival}
use Rattle.world_laws.proofs.Recorded.{at-set}
use Rattle.turn_laws.specs.Shadow.{ClientShadow, PartShadow, KeptShadow, IsLetGo, StageShadow, StandsAt, ticket_at}
use Rattle.turn_laws.proofs.Downs.{Pair}
use Rattle.turn_laws.proofs.Ending.{one-item, out-done}
use Rattle.turn_laws.proofs.Rising.{Rising}
use Rattle.turn_laws.proofs.Standing.{GoesOn, still-stands, order-set, order-on}
use Rattle.turn_laws.proofs.Telling.{count-set}

-- the session without its first part: of the requests no more is known than how many parts they have
abbrev pub popped : SessionModel → SessionModel
popped held = record held { requests = Parts AllOk (length (drop 1 held.stages)) ∷ []; stages = drop 1 held.stages; ends = drop 1 held.ends; first = suc held.first }

pub drop-one : {X : Type 0} (xs : List X) (i : ℕ) → slice_get (drop 1 xs) i ≡ slice_get xs (suc i)
drop-one [] i = refl
drop-one (x ∷ xs) i = refl

pub one-fewer : {X : Type 0} (xs : List X) (x : X) → slice_get xs 0 ≡ Some x → suc (length (drop 1 xs)) ≡ length xs
one-fewer [] x e = absurd (cc)
one-fewer (y ∷ xs) x e = refl

module _ {C : Type 0} (downs : List Pair) (worker number : ℕ) (client : ClientModel C) (arrivals : List Arrival) (old : ClientShadow downs worker number client arrivals)
    (own : (i j : ℕ) (x y : Arrival) → slice_get arrivals i ≡ Some x → slice_get arrivals j ≡ Some y → x.command.ticket ≡ y.command.ticket → i ≡ j)
    (rising : Rising arrivals) (here : client.gone ≡ false) (end : Ended) (is-done : slice_get client.session.stages 0 ≡ Some Done) (has-end : slice_get client.session.ends 0 ≡ Some end) where
  abbrev held : SessionModel
  held = client.session

  abbrev client2 : ClientModel C
  client2 = record client { session = popped held }

  -- where the machine's command of it stands
  pub first-stands : StandsAt arrivals (ticket_at held held.first)
  first-stands = old.read here held.first (let some = slice_get_within held.stages 0 Done is-done in omega (arith, some))

  module _ (j : ℕ) (x : Arrival) (at : slice_get arrivals j ≡ Some x) (ticketed : x.command.ticket ≡ ticket_at held held.first) where
    mine : x.command.ticket.client ≡ number
    mine = ap (λ (t : Ticket). t.client) ticketed ∙ old.numbered

    at-first : x.command.ticket.part ≡ held.first
    at-first = ap (λ (t : Ticket). t.part) ticketed

    -- it has ended, and was not answered
    pub waits : (x.answered ≡ false) × (x.command.stage ≡ Over end)
    waits = ⊎_elim
        (λ (k : KeptShadow downs client x). ⊎_elim
        (λ (z : (x.command.ticket.part < held.first) × (x.answered ≡ true) × ((ended : Ended) × (x.command.stage ≡ Over ended))). absurd (omega (arith, z.0, at-first)))
        (λ (z : (held.first ≤ x.command.ticket.part) × (x.answered ≡ false) × ((stage : PartStage) × (e : Ended)
        × (slice_get held.stages (x.command.ticket.part - held.first) ≡ Some stage)
        × (slice_get held.ends (x.command.ticket.part - held.first) ≡ Some e)
        × StageShadow downs client.gone client.commands stage e x)).
        let front : x.command.ticket.part - held.first ≡ 0 = omega (arith, at-first) in
        let done : z.2.0 ≡ Done = one-item held.stages 0 z.2.0 Done (ap (slice_get held.stages) (sym front) ∙ z.2.2) is-done in
        let ended : z.2.1 ≡ end = one-item held.ends 0 z.2.1 end (ap (slice_get held.ends) (sym front) ∙ z.2.3) has-end in
        let over : x.command.stage ≡ Over z.2.1 = subst (λ (s : PartStage). StageShadow downs client.gone client.commands s z.2.1 x) done z.2.4 in
        (z.1, over ∙ ap Over ended))
        k)
        (λ (k : IsLetGo client x.command.ticket). absurd (false≢true (sym here ∙ k.0)))
        (old.parts j x at mine)

    -- all earlier ones were
    pub before : (i : ℕ) (d : Arrival) → i < j → slice_get arrivals i ≡ Some d → d.command.ticket.client ≡ number → d.answered ≡ true
    before i d lt e n =
        let less : d.command.ticket.part < held.first = subst (λ m. d.command.ticket.part < m) at-first (rising j i x d at e lt (n ∙ sym mine)) in
        ⊎_elim
        (λ (k : KeptShadow downs client d). ⊎_elim
        (λ (z : (d.command.ticket.part < held.first) × (d.answered ≡ true) × ((ended : Ended) × (d.command.stage ≡ Over ended))). z.1)
        (λ (z : (held.first ≤ d.command.ticket.part) × (d.answered ≡ false) × ((stage : PartStage) × (e : Ended)
        × (slice_get held.stages (d.command.ticket.part - held.first) ≡ Some stage)
        × (slice_get held.ends (d.command.ticket.part - held.first) ≡ Some e)
        × StageShadow downs client.gone client.commands stage e d)). absurd (omega (arith, less, z.0)))
        k)
        (λ (k : IsLetGo client d.command.ticket). absurd (false≢true (sym here ∙ k.0)))
        (old.parts i d e n)

    abbrev y : Arrival
    y = record x { answered = true }

    pub on : GoesOn x y
    on = (refl, refl, λ e. e)

    -- a part that is out is behind it
    behind : (t : Ticket) → IsHandedOut held t → held.first < t.part
    behind t o = ⊎_elim (λ (z : held.first < t.part). z)
        (λ (z : t.part ≡ held.first).
        let front : t.part - held.first ≡ 0 = omega (arith, z) in
        absurd (out-done o.0 (one-item held.stages 0 (Out o.0) Done (ap (slice_get held.stages) (sym front) ∙ o.2) is-done)))
        (either t.part held.first o.1)
      where
        either : (a b : ℕ) → b ≤ a → (b < a) ⊎ (a ≡ b)
        either a b le = grind (arith, le)

    place : (a b : ℕ) → b < a → suc (a - suc b) ≡ a - b
    place a b lt = omega (arith, lt)

    still-out : (t : Ticket) → IsHandedOut held t → IsHandedOut (popped held) t
    still-out t o = (
      o.0,
      (let lt = behind t o in omega (arith, lt)),
      drop-one held.stages (t.part - suc held.first) ∙ ap (slice_get held.stages) (place t.part held.first (behind t o)) ∙ o.2,
      o.3,
      o.4,
    )

    was-out : (t : Ticket) → IsHandedOut (popped held) t → IsHandedOut held t
    was-out t o = (
      o.0,
      omega (arith, o.1),
      ap (slice_get held.stages) (sym (place t.part held.first (omega (arith, o.1)))) ∙ sym (drop-one held.stages (t.part - suc held.first)) ∙ o.2,
      o.3,
      o.4,
    )

    -- of another place is another number
    apart : (i : ℕ) (a : Arrival) → slice_get arrivals i ≡ Some a → a.command.ticket.client ≡ number → i ≢ j → a.command.ticket.part ≢ held.first
    apart i a e n ne p = ne (own i j a x e at (one a.command.ticket x.command.ticket (old.homes i a e n ∙ sym (old.homes j x at mine)) (n ∙ sym mine) (p ∙ sym at-first)))
      where
        one : (t u : Ticket) → t.worker ≡ u.worker → t.client ≡ u.client → t.part ≡ u.part → t ≡ u
        one t u a b c = λ i. record { worker = a i; client = b i; part = c i }

    other-kept : (a : Arrival) → a.command.ticket.part ≢ held.first → KeptShadow downs client a → KeptShadow downs client2 a
    other-kept a ne h = ⊎_elim
        (λ (z : (a.command.ticket.part < held.first) × (a.answered ≡ true) × ((ended : Ended) × (a.command.stage ≡ Over ended))). inl (omega (arith, z.0), z.1, z.2))
        (λ (z : (held.first ≤ a.command.ticket.part) × (a.answered ≡ false) × ((stage : PartStage) × (e : Ended)
        × (slice_get held.stages (a.command.ticket.part - held.first) ≡ Some stage)
        × (slice_get held.ends (a.command.ticket.part - held.first) ≡ Some e)
        × StageShadow downs client.gone client.commands stage e a)).
        let lt : held.first < a.command.ticket.part = more a.command.ticket.part held.first z.0 ne in
        let m : suc (a.command.ticket.part - suc held.first) ≡ a.command.ticket.part - held.first = place a.command.ticket.part held.first lt in
        inr (
          omega (arith, lt),
          z.1,
          (
            z.2.0,
            z.2.1,
            drop-one held.stages (a.command.ticket.part - suc held.first) ∙ ap (slice_get held.stages) m ∙ z.2.2,
            drop-one held.ends (a.command.ticket.part - suc held.first) ∙ ap (slice_get held.ends) m ∙ z.2.3,
            z.2.4,
          ),
        ))
        h
      where
        more : (a b : ℕ) → b ≤ a → a ≢ b → b < a
        more a b le ne = grind (arith, le)

    fewer : suc (length (drop 1 held.stages)) ≡ length held.stages
    fewer = one-fewer held.stages Done is-done

    pub popped-shadow : ClientShadow downs worker number client2 (slice_set arrivals j y)
    popped-shadow = record {
      numbered = old.numbered;
      housed = old.housed;
      all = λ g. count-set (λ (a : Arrival). a.command.ticket.client == number) arrivals j x y at refl ∙ old.all g ∙ omega (arith, fewer);
      read = λ g part lt. still-stands arrivals j x y at refl (ticket_at held part) (old.read g part (omega (arith, lt, fewer)));
      stands = λ t o. let was = old.stands t (was-out t o) in (still-stands arrivals j x y at refl t was.0, order-on held (popped held) (slice_set arrivals j y) (λ i d e p. inr (still-out d.command.ticket p)) t (order-set held arrivals j x y at on t was.1));
      homes = λ i a e n. ⊎_elim
          (λ (z : (i ≡ j) × (a ≡ y)). ap (λ (u : Arrival). u.command.ticket.worker) z.1 ∙ old.homes j x at mine)
          (λ (z : (i ≢ j) × (slice_get arrivals i ≡ Some a)). old.homes i a z.1 n)
          (at-set arrivals j y i a e);
      parts = λ i a e n. ⊎_elim
          (λ (z : (i ≡ j) × (a ≡ y)). subst (PartShadow downs client2) (sym z.1) (inl (inl (omega (arith, at-first), refl, (end, waits.1)))))
          (λ (z : (i ≢ j) × (slice_get arrivals i ≡ Some a)). ⊎_elim
          (λ (k : KeptShadow downs client a). inl (other-kept a (apart i a z.1 n z.0) k))
          (λ (k : IsLetGo client a.command.ticket). inr (k.0, λ o. k.1 (was-out a.command.ticket o)))
          (old.parts i a z.1 n))
          (at-set arrivals j y i a e);
      commands = record {
        posted = λ m d e. let was = (old.commands).posted m d e in (was.0, still-out d.ticket was.1);
        fresh = λ d e. let was = (old.commands).fresh d e in (still-out d.ticket was.0, was.1, was.2);
        apart = (old.commands).apart;
      };
      owed = omega arith;
      ends = (let a = one-fewer held.ends end has-end in omega (arith, a, fewer, old.ends));
      quit = old.quit;
    }
