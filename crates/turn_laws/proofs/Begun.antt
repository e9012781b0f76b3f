-- The command of a part begins: the machine does nothing.
use Rattle.std.proofs.Common.{◌≡◌, ◌≢◌, ◌⊎◌, inl, inr, ⊎_elim, ℕ, ◌+◌, ◌-◌, ◌<◌, ◌≤◌, ◌==◌, ◌||◌, Bool, true, false, List, [], ◌∷◌, ◌++◌, zero, suc, Some, None, refl, sym, ap, ◌∙◌, subst, arith, length}
use Rattle.std.specs.Prelude.{slice_get, slice_set, Option, nat_eq, take}
use Rattle.std.specs.List.{list_any}
use Rattle.std.proofs.lemmas.Bool.{false≢true}
use Rattle.std.proofs.lemmas.Option.{slice_get_within}
use Rattle.std.specs.FinMap.{get, insert}
use Rattle.std.proofs.lemmas.Bool.Decides.{eqb_tells}
use Rattle.slot_hash.specs.Slot.{slot_of}
use Rattle.key_split.specs.PartModel.{PartModel}
use Rattle.key_split.specs.declared.travel.Ticket.{Ticket}
use Rattle.key_split.specs.declared.travel.Ended.{Ended}
use Rattle.command_future.specs.CommandModel.{CommandModel, fresh}
use Rattle.command_future.specs.declared.stage.Stage.TheVariants.{Over}
use Rattle.session_order.specs.SessionModel.{SessionModel}
use Rattle.session_order.specs.Steps.{IsHandedOut}
use Rattle.session_order.specs.Turn.{blocks, waits_for}
use Rattle.session_order.specs.declared.queue.PartStage.{PartStage}
use Rattle.session_order.specs.declared.queue.PartStage.TheVariants.{Waiting, Out, Done}
use Rattle.proxy_turns.specs.Commands.{CommandsModel}
use Rattle.proxy_turns.specs.ClientModel.{ClientModel}
use Rattle.proxy_turns.specs.ClientTurn.{ClientContext, HandedOut, Followed}
use Rattle.proxy_turns.specs.WorkerModel.{WorkerModel, WorkerEvent, Did}
use Rattle.world_laws.specs.State.{WorldModel, HasEnded, slot_for}
use Rattle.world_laws.specs.declared.state.Arrival.{Arrival}
use Rattle.world_laws.proofs.Nodes.{set-size}
use Rattle.world_laws.specs.declared.event.Event.{Event}
use Rattle.world_laws.proofs.Recorded.{at-last, at-set, before-last, last, set-same, set-other}
use Rattle.turn_laws.specs.Shadow.{IsShadow, ClientShadow, PartShadow, KeptShadow, IsLetGo, StandsAt, IsInOrder, StageShadow, HasCommand, IsAtFirst, ToldFrom, ticket_at}
use Rattle.turn_laws.specs.System.{seat_of, System}
use Rattle.turn_laws.specs.Underway.{downs_of}
use Rattle.turn_laws.specs.Walks.{Walk, IsSharedWalked}
use Rattle.turn_laws.specs.Steps.{AtWorker, WorkerStep}
use Rattle.turn_laws.specs.Refines.{Simulates}
use Rattle.turn_laws.proofs.Downs.{Pair}
use Rattle.turn_laws.proofs.Walks.{walked-stands}
use Rattle.turn_laws.proofs.Standing.{order-on}
use Rattle.turn_laws.proofs.Told.{Fitting, fitting}
use Rattle.turn_laws.proofs.Rising.{Rising, walked-rising}
use Rattle.turn_laws.proofs.Elements.{nothing-there}
use Rattle.turn_laws.proofs.Tables.{same_number}
use Rattle.turn_laws.proofs.Clients.{unseen-step, one-client}
use Rattle.turn_laws.proofs.Ending.{one-item, one-of, told-awaits, told-nobody, waits-out}

first-false : (a b : Bool) → (a || b) ≡ false → a ≡ false
first-false true b e = e
first-false false b e = refl

rest-false : (a b : Bool) → (a || b) ≡ false → b ≡ false
rest-false true b e = absurd (false≢true (sym e))
rest-false false b e = e

one-part : (stages : List PartStage) (i : ℕ) (a b : PartModel) → slice_get stages i ≡ Some (Waiting a) → slice_get stages i ≡ Some (Waiting b) → a ≡ b
one-part stages i a b p q = let one : Waiting a ≡ Waiting b = one-item stages i (Waiting a) (Waiting b) p q in cc

ticket-of : (t u : Ticket) → t.worker ≡ u.worker → t.client ≡ u.client → t.part ≡ u.part → t ≡ u
ticket-of t u a b c = λ i. record { worker = a i; client = b i; part = c i }

same-slot : (a b : ℕ) → a ≡ b → nat_eq a b ≡ true
same-slot a b e = subst (λ n. nat_eq a n ≡ true) e (same_number a)

-- what stands before does not pass
pub free : (p : PartStage → Bool) (stages : List PartStage) (i j : ℕ) (stage : PartStage) → j < i → slice_get stages j ≡ Some stage → list_any p (take i stages) ≡ false → p stage ≡ false
free p [] i j stage lt at no' = absurd (nothing-there j stage at)
free p (z ∷ stages) zero j stage lt at no' = absurd (omega (arith, lt))
free p (z ∷ stages) (suc i) zero stage lt at no' = let same : z ≡ stage = one-of (Some z) z stage refl at in ap p (sym same) ∙ first-false (p z) (list_any p (take i stages)) no'
free p (z ∷ stages) (suc i) (suc j) stage lt at no' = free p stages i j stage (omega (arith, lt)) at (rest-false (p z) (list_any p (take i stages)) no')

-- where a part waits, it blocks the later ones
not-waiting : (slot : ℕ) (stages : List PartStage) → list_any (blocks slot) stages ≡ false → list_any (waits_for slot) stages ≡ false
not-waiting slot [] e = refl
not-waiting slot (Waiting part ∷ stages) e =
    let first : nat_eq (slot_of part.key) slot ≡ false = first-false (nat_eq (slot_of part.key) slot) (list_any (blocks slot) stages) e in
    let rest : list_any (waits_for slot) stages ≡ false = not-waiting slot stages (rest-false (nat_eq (slot_of part.key) slot) (list_any (blocks slot) stages) e) in
    λ i. first i || rest i
not-waiting slot (Out own ∷ stages) e = not-waiting slot stages (rest-false (nat_eq own slot) (list_any (blocks slot) stages) e)
not-waiting slot (Done ∷ stages) e = not-waiting slot stages e

begun-stage : (downs : List Pair) (gone : Bool) (commands : CommandsModel) (f : CommandModel) (c : Arrival)
    → (stage : PartStage) (end : Ended) → StageShadow downs gone commands stage end c → StageShadow downs gone (record commands { fresh = commands.fresh ++ f ∷ [] }) stage end c
begun-stage downs gone commands f c (Waiting part) end x = x
begun-stage downs gone commands f c (Out slot) end x = (
  x.0,
  ⊎_elim
      (λ (y : (d : CommandModel) × HasCommand commands c.command.ticket.part d × ToldFrom downs d c.command). ⊎_elim
      (λ (z : IsAtFirst commands y.0 × ((y.0).ticket.part ≡ c.command.ticket.part)). inl (y.0, inl ((z.0.0, before-last commands.fresh (f ∷ []) z.0.0 y.0 z.0.1), z.1), y.2))
      (λ (z : get commands.posted c.command.ticket.part ≡ Some y.0). inl (y.0, inr z, y.2))
      y.1)
      (λ y. inr y)
      x.1,
)
begun-stage downs gone commands f c Done end x = x

module _ {C : Type 0} (downs : List Pair) (worker number : ℕ) (client : ClientModel C) (arrivals : List Arrival) (old : ClientShadow downs worker number client arrivals)
    (i : ℕ) (part : PartModel) (next : slice_get client.session.stages i ≡ Some (Waiting part))
    (alone : (n : ℕ) (pair : Pair) → slice_get downs n ≡ Some pair → pair.0 ≡ ticket_at client.session (client.session.first + i) → ⊥)
    (there : client.gone ≡ false) (may : list_any (waits_for (slot_of part.key)) (take i client.session.stages) ≡ false) (rising : Rising arrivals) where
  abbrev holds : SessionModel
  holds = client.session

  abbrev ticket' : Ticket
  ticket' = ticket_at holds (holds.first + i)

  abbrev given : CommandModel
  given = fresh ticket' part

  abbrev session2 : SessionModel
  session2 = record holds { stages = slice_set holds.stages i (Out (slot_of part.key)) }

  abbrev client2 : ClientModel C
  client2 = record client { session = session2; commands = record (client.commands) { fresh = client.commands.fresh ++ given ∷ [] } }

  out-still : (t : Ticket) → IsHandedOut holds t → IsHandedOut session2 t
  out-still t x = (x.0, x.1, set-other holds.stages i (Out (slot_of part.key)) (t.part - holds.first) (Out x.0) (λ e. waits-out (slice_get holds.stages i) part x.0 next (ap (slice_get holds.stages) (sym e) ∙ x.2)) x.2, x.3, x.4)

  place-of : (p : ℕ) → holds.first ≤ p → p - holds.first ≡ i → p ≡ holds.first + i
  place-of p le e = omega (arith, le, e)

  kept2 : (j : ℕ) (c : Arrival) → slice_get arrivals j ≡ Some c → c.command.ticket.client ≡ number → KeptShadow downs client c → KeptShadow downs client2 c
  kept2 j c at n kept = ⊎_elim
      (λ (x : (c.command.ticket.part < holds.first) × (c.answered ≡ true) × ((ended : Ended) × (c.command.stage ≡ Over ended))). inl x)
      (λ (x : (holds.first ≤ c.command.ticket.part) × (c.answered ≡ false) × ((stage : PartStage) × (e : Ended)
      × (slice_get holds.stages (c.command.ticket.part - holds.first) ≡ Some stage)
      × (slice_get holds.ends (c.command.ticket.part - holds.first) ≡ Some e)
      × StageShadow downs client.gone client.commands stage e c)).
      ⊎_elim
      (λ (y : (((c.command.ticket.part - holds.first) == i) ≡ true) × ((c.command.ticket.part - holds.first) ≡ i)). here x.0 x.1 x.2.0 x.2.1 x.2.2 x.2.3 x.2.4 y.1)
      (λ (y : (((c.command.ticket.part - holds.first) == i) ≡ false) × ((c.command.ticket.part - holds.first) ≢ i)).
      inr (x.0, x.1, (x.2.0, x.2.1, set-other holds.stages i (Out (slot_of part.key)) (c.command.ticket.part - holds.first) x.2.0 y.1 x.2.2, x.2.3, begun-stage downs client.gone client.commands given c x.2.0 x.2.1 x.2.4)))
      (eqb_tells (c.command.ticket.part - holds.first) i))
      kept
    where
      here : holds.first ≤ c.command.ticket.part → c.answered ≡ false → (stage : PartStage) (e : Ended) → slice_get holds.stages (c.command.ticket.part - holds.first) ≡ Some stage
          → slice_get holds.ends (c.command.ticket.part - holds.first) ≡ Some e → StageShadow downs client.gone client.commands stage e c
          → (c.command.ticket.part - holds.first) ≡ i → KeptShadow downs client2 c
      here le open' stage e p q x m =
          let waits : stage ≡ Waiting part = one-item holds.stages i stage (Waiting part) (ap (slice_get holds.stages) (sym m) ∙ p) next in
          let so : c.command ≡ fresh c.command.ticket part = subst (λ (s : PartStage). StageShadow downs client.gone client.commands s e c) waits x in
          let mine' : c.command.ticket ≡ ticket' = ticket-of c.command.ticket ticket' (old.homes j c at n ∙ sym old.housed) (n ∙ sym old.numbered) (place-of c.command.ticket.part le m) in
          let same : c.command ≡ given = so ∙ ap (λ t. fresh t part) mine' in
          inr (
            le,
            open',
            (
              Out (slot_of part.key),
              e,
              ap (slice_get (slice_set holds.stages i (Out (slot_of part.key)))) m ∙ set-same holds.stages i (Waiting part) (Out (slot_of part.key)) next,
              q,
              (
                ap (λ (d : CommandModel). slot_of d.part.key) (sym same),
                inl (given, inl ((length client.commands.fresh, last client.commands.fresh given), ap (λ (t : Ticket). t.part) (sym mine')), inl (same, told-nobody downs ticket' alone)),
              ),
            ),
          )

  part2 : (j : ℕ) (c : Arrival) → slice_get arrivals j ≡ Some c → c.command.ticket.client ≡ number → PartShadow downs client2 c
  part2 j c at n = ⊎_elim
      (λ (x : KeptShadow downs client c). inl (kept2 j c at n x))
      (λ (x : IsLetGo client c.command.ticket). absurd (false≢true (sym there ∙ x.0)))
      (old.parts j c at n)

  -- the command of the part that is handed out
  own-command : (j : ℕ) (c : Arrival) → slice_get arrivals j ≡ Some c → c.command.ticket ≡ ticket' → c.command.part ≡ part
  own-command j c at one = ⊎_elim
      (λ (x : KeptShadow downs client c). ⊎_elim
      (λ (y : (c.command.ticket.part < holds.first) × (c.answered ≡ true) × ((ended : Ended) × (c.command.stage ≡ Over ended))). absurd (omega (arith, y.0, ap (λ (t : Ticket). t.part) one)))
      (λ (y : (holds.first ≤ c.command.ticket.part) × (c.answered ≡ false) × ((stage : PartStage) × (e : Ended)
      × (slice_get holds.stages (c.command.ticket.part - holds.first) ≡ Some stage)
      × (slice_get holds.ends (c.command.ticket.part - holds.first) ≡ Some e)
      × StageShadow downs client.gone client.commands stage e c)).
      let m : c.command.ticket.part - holds.first ≡ i = back holds.first i c.command.ticket.part (ap (λ (t : Ticket). t.part) one) in
      let waits : y.2.0 ≡ Waiting part = one-item holds.stages i y.2.0 (Waiting part) (ap (slice_get holds.stages) (sym m) ∙ y.2.2) next in
      let so : c.command ≡ fresh c.command.ticket part = subst (λ (s : PartStage). StageShadow downs client.gone client.commands s y.2.1 c) waits y.2.4 in
      ap (λ (d : CommandModel). d.part) so)
      x)
      (λ (x : IsLetGo client c.command.ticket). absurd (false≢true (sym there ∙ x.0)))
      (old.parts j c at (ap (λ (t : Ticket). t.client) one ∙ old.numbered))
    where
      back : (first i p : ℕ) → p ≡ first + i → p - first ≡ i
      back first i p e = omega (arith, e)

  -- all earlier commands for its slot have ended, or are awaited
  own-order : IsInOrder session2 arrivals ticket'
  own-order a b c d p q lt one turn =
      let slot : slot_for d.command.part ≡ slot_of part.key = turn.1 ∙ ap slot_for (own-command a c p one) in
      let before : d.command.ticket.part < holds.first + i = subst (λ n. d.command.ticket.part < n) (ap (λ (t : Ticket). t.part) one) (rising a b c d p q lt turn.0) in
      let theirs : d.command.ticket.client ≡ number = turn.0 ∙ ap (λ (t : Ticket). t.client) one ∙ old.numbered in
      ⊎_elim
      (λ (x : KeptShadow downs client d). ⊎_elim
      (λ (y : (d.command.ticket.part < holds.first) × (d.answered ≡ true) × ((ended : Ended) × (d.command.stage ≡ Over ended))). inl y.2)
      (λ (y : (holds.first ≤ d.command.ticket.part) × (d.answered ≡ false) × ((stage : PartStage) × (e : Ended)
      × (slice_get holds.stages (d.command.ticket.part - holds.first) ≡ Some stage)
      × (slice_get holds.ends (d.command.ticket.part - holds.first) ≡ Some e)
      × StageShadow downs client.gone client.commands stage e d)).
      over d slot y.0 (old.homes b d q theirs ∙ sym old.housed) (theirs ∙ sym old.numbered) y.2.0 y.2.1 y.2.2
      (free (waits_for (slot_of part.key)) holds.stages i (d.command.ticket.part - holds.first) y.2.0 (nearer holds.first i d.command.ticket.part y.0 before) y.2.2 may) y.2.4)
      x)
      (λ (x : IsLetGo client d.command.ticket). absurd (false≢true (sym there ∙ x.0)))
      (old.parts b d q theirs)
    where
      nearer : (first i p : ℕ) → first ≤ p → p < first + i → p - first < i
      nearer first i p le lt = omega (arith, le, lt)

      over : (d : Arrival) → slot_for d.command.part ≡ slot_of part.key → holds.first ≤ d.command.ticket.part → d.command.ticket.worker ≡ holds.worker → d.command.ticket.client ≡ holds.client
          → (stage : PartStage) (e : Ended) → slice_get holds.stages (d.command.ticket.part - holds.first) ≡ Some stage → waits_for (slot_of part.key) stage ≡ false
          → StageShadow downs client.gone client.commands stage e d → HasEnded d ⊎ IsHandedOut session2 d.command.ticket
      over d slot low home mine (Waiting other) e at no' x = absurd (false≢true (sym no' ∙ same-slot (slot_of other.key) (slot_of part.key) (ap (λ (u : CommandModel). slot_of u.part.key) (sym x) ∙ slot)))
      over d slot low home mine (Out own) e at no' x = inr (out-still d.command.ticket (own, low, at, home, mine))
      over d slot low home mine Done e at no' x = inl (e, x)

  pub begun-shadow : ClientShadow downs worker number client2 arrivals
  begun-shadow = record {
    numbered = old.numbered;
    housed = old.housed;
    all = λ here. old.all here ∙ ap (λ m. holds.first + m) (sym (set-size holds.stages i (Out (slot_of part.key))));
    read = λ here p lt. old.read here p (subst (λ m. p < holds.first + m) (set-size holds.stages i (Out (slot_of part.key))) lt);
    stands = λ t out. ⊎_elim
        (λ (z : ((t.part - holds.first) ≡ i) × (Out out.0 ≡ Out (slot_of part.key))).
        let one : ticket' ≡ t = ticket-of ticket' t (sym out.3) (sym out.4) (sym (place-of t.part out.1 z.0)) in
        subst (λ (u : Ticket). StandsAt arrivals u × IsInOrder session2 arrivals u) one (old.read there (holds.first + i) (within i (slice_get_within holds.stages i (Waiting part) next)), own-order))
        (λ (z : ((t.part - holds.first) ≢ i) × (slice_get holds.stages (t.part - holds.first) ≡ Some (Out out.0))).
        let was = old.stands t (out.0, out.1, z.1, out.3, out.4) in
        (was.0, order-on holds session2 arrivals (λ j d e o. inr (out-still d.command.ticket o)) t was.1))
        (at-set holds.stages i (Out (slot_of part.key)) (t.part - holds.first) (Out out.0) out.2);
    homes = old.homes;
    parts = part2;
    commands = record {
      posted = λ m c e. let was = (old.commands).posted m c e in (was.0, out-still c.ticket was.1);
      fresh = λ c e. ⊎_elim
          (λ (z : slice_get client.commands.fresh e.0 ≡ Some c). let was = (old.commands).fresh c (e.0, z) in (out-still c.ticket was.0, was.1, was.2))
          (λ (z : (e.0 ≡ length client.commands.fresh) × (c ≡ given)).
          subst (λ (d : CommandModel). IsHandedOut session2 d.ticket × (d ≡ fresh d.ticket d.part) × (get client.commands.posted d.ticket.part ≡ None)) (sym z.1) (
            (slot_of part.key, omega arith, ap (slice_get (slice_set holds.stages i (Out (slot_of part.key)))) (less holds.first i) ∙ set-same holds.stages i (Waiting part) (Out (slot_of part.key)) next, refl, refl),
            refl,
            vacant (get client.commands.posted (holds.first + i)) refl,
          ))
          (at-last client.commands.fresh given e.0 c e.1);
      apart = λ m n c d p q same. ⊎_elim
          (λ (z : slice_get client.commands.fresh m ≡ Some c). ⊎_elim
          (λ (u : slice_get client.commands.fresh n ≡ Some d). (old.commands).apart m n c d z u same)
          (λ (u : (n ≡ length client.commands.fresh) × (d ≡ given)). absurd (never c (m, z) (same ∙ ap (λ (x : CommandModel). x.ticket.part) u.1)))
          (at-last client.commands.fresh given n d q))
          (λ (z : (m ≡ length client.commands.fresh) × (c ≡ given)). ⊎_elim
          (λ (u : slice_get client.commands.fresh n ≡ Some d). absurd (never d (n, u) (sym same ∙ ap (λ (x : CommandModel). x.ticket.part) z.1)))
          (λ (u : (n ≡ length client.commands.fresh) × (d ≡ given)). z.0 ∙ sym u.0)
          (at-last client.commands.fresh given n d q))
          (at-last client.commands.fresh given m c p);
    };
    owed = old.owed ∙ sym (set-size holds.stages i (Out (slot_of part.key)));
    ends = old.ends ∙ sym (set-size holds.stages i (Out (slot_of part.key)));
    quit = old.quit;
  }
    where
      within : (i : ℕ) → i < length holds.stages → holds.first + i < holds.first + length holds.stages
      within i lt = omega (arith, lt)

      less : (a b : ℕ) → (a + b) - a ≡ b
      less a b = omega arith

      -- no command that was handed out before is of this part
      never : (c : CommandModel) → IsAtFirst client.commands c → c.ticket.part ≡ holds.first + i → ⊥
      never c e same =
          let was = (old.commands).fresh c e in
          waits-out (slice_get holds.stages i) part was.0.0 next (ap (slice_get holds.stages) (sym (less holds.first i) ∙ ap (λ p. p - holds.first) (sym same)) ∙ was.0.2)

      vacant : (o : Option CommandModel) → get client.commands.posted (holds.first + i) ≡ o → get client.commands.posted (holds.first + i) ≡ None
      vacant None e = e
      vacant (Some d) e =
          let was = (old.commands).posted (holds.first + i) d e in
          absurd (waits-out (slice_get holds.stages i) part was.1.0 next (ap (slice_get holds.stages) (sym (less holds.first i) ∙ ap (λ p. p - holds.first) (sym was.0)) ∙ was.1.2))

module _ (C J : Type 0) where
  -- a part is handed out, and its command goes behind those that were not posted yet
  module _ (k number : ℕ) (event : WorkerEvent) (s s' : System C J) (w : WorldModel) (h : IsShadow s w) (walked : IsSharedWalked w) (on : WorkerStep s k event s') (silent : on.marks ≡ [])
      (client client' : ClientModel C) (got : get (on.old).clients number ≡ Some client) (there : client.gone ≡ false)
      (i : ℕ) (ticket : Ticket) (part : PartModel) (next : slice_get client.session.stages i ≡ Some (Waiting part)) (may : list_any (waits_for (slot_of part.key)) (take i client.session.stages) ≡ false)
      (is : ticket ≡ ticket_at client.session (client.session.first + i))
      (session : client'.session ≡ record (client.session) { stages = slice_set client.session.stages i (Out (slot_of part.key)) })
      (now : client' ≡ record client { session = client'.session; commands = record (client.commands) { fresh = client.commands.fresh ++ fresh ticket part ∷ [] } })
      (outlet : (on.new).outlet ≡ (on.old).outlet) (goes : on.new ≡ record (on.old) { clients = insert (on.old).clients number client'; outlet = (on.new).outlet; view = (on.new).view }) where
    fits : Fitting s.workers (length s.carrier.lanes) w.workers (downs_of s) w.commands
    fits = fitting s w (walked-stands w walked) h

    old : ClientShadow (downs_of s) k number client w.commands
    old = (h.clients k on.old number client on.at got).1

    abbrev t : Ticket
    t = ticket_at client.session (client.session.first + i)

    alone : (n : ℕ) (pair : Pair) → slice_get (downs_of s) n ≡ Some pair → pair.0 ≡ t → ⊥
    alone n pair x same =
        let a = told-awaits s.workers (length s.carrier.lanes) w.workers (downs_of s) w.commands fits k number on.old client on.at got t n pair.1 (x ∙ ap (λ u. Some (u, pair.1)) same) old.numbered in
        let out = ((old.commands).posted (client.session.first + i) a.0 a.1) in
        waits-out (slice_get client.session.stages i) part out.1.0 next (ap (slice_get client.session.stages) (back client.session.first i (a.0).ticket.part out.0) ∙ out.1.2)
      where
        back : (first i p : ℕ) → p ≡ first + i → i ≡ p - first
        back first i p e = omega (arith, e)

    abbrev plain : ClientModel C
    plain = record client { session = record (client.session) { stages = slice_set client.session.stages i (Out (slot_of part.key)) }; commands = record (client.commands) { fresh = client.commands.fresh ++ fresh t part ∷ [] } }

    becomes : client' ≡ plain
    becomes = now ∙ (λ n. record client { session = session n; commands = record (client.commands) { fresh = client.commands.fresh ++ fresh (is n) part ∷ [] } })

    pub begins : (events : List Event) × (v : WorldModel) × Walk w events v × IsShadow s' v
    begins =
        unseen-step k event s s' w on silent
        (one-client s w h k number on.old on.new client client' on.at got (ap seat_of goes) (ap (λ (x : WorkerModel C J). x.newest) goes) outlet (ap (λ (x : WorkerModel C J). x.inlet) goes) (ap (λ (x : WorkerModel C J). x.clients) goes)
        fits (subst (λ (c : ClientModel C). ClientShadow (downs_of s) k number c w.commands) (sym becomes) (begun-shadow (downs_of s) k number client w.commands old i part next alone there may (walked-rising w walked)))
        (λ p c q z. ap (λ (x : ClientModel C). get x.commands.posted p) becomes ∙ q)
        (λ p c q. inl (c, ap (λ (x : ClientModel C). get x.commands.posted p) becomes ∙ q, refl)))

  pub handed-out : (k number : ℕ) (ticket : Ticket) (part : PartModel) → Simulates C J (AtWorker k (Did number (HandedOut ticket part)))
  handed-out k number ticket part s s' w h walked on =
      let d = on.does in
      let r = d.3.2 in
      let i : ℕ = r.0 in
      let next : slice_get (d.0).session.stages i ≡ Some (Waiting part) = r.1.2 in
      let may : list_any (blocks (slot_of part.key)) (take i (d.0).session.stages) ≡ false =
      subst (λ (p : PartModel). list_any (blocks (slot_of p.key)) (take i (d.0).session.stages) ≡ false) (one-part (d.0).session.stages i r.1.0.0 part r.1.0.1 next) r.1.0.2 in
      begins k number (Did number (HandedOut ticket part)) s s' w h walked on on.seen.4 d.0 d.1 d.2 d.3.0 i ticket part next (not-waiting (slot_of part.key) (take i (d.0).session.stages) may) r.2 r.3
      (ap (λ (x : ClientContext C). x.client) d.3.3) (ap (λ (x : ClientContext C). x.outlet) d.3.3) d.4

  -- it goes behind one that was not posted yet
  pub followed : (k number : ℕ) (ticket : Ticket) (part : PartModel) → Simulates C J (AtWorker k (Did number (Followed ticket part)))
  followed k number ticket part s s' w h walked on =
      let d = on.does in
      let r = d.3.1.3 in
      begins k number (Did number (Followed ticket part)) s s' w h walked on on.seen.4 d.0 d.1 d.2 d.3.0 r.0 ticket part (r.1).waits (r.1).in_order r.2 r.3
      (ap (λ (x : ClientContext C). x.client) d.3.2) (ap (λ (x : ClientContext C). x.outlet) d.3.2) d.4
