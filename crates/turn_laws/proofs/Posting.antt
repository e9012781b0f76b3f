-- One command of a run is posted, as it is in the machine.
use Rattle.std.proofs.Common.{◌≡◌, ◌≢◌, ◌⊎◌, inl, inr, ⊎_elim, ℕ, zero, suc, ◌-◌, ◌<◌, ◌≤◌, ◌==◌, true, false, List, [], ◌∷◌, Some, None, refl, sym, ap, ◌∙◌, subst, arith}
use Rattle.std.specs.Prelude.{slice_get, slice_set, All, take}
use Rattle.std.specs.FinMap.{get, insert}
use Rattle.std.proofs.lemmas.Bool.Decides.{eqb_tells}
use Rattle.key_split.specs.Same.{same_ticket, same_ticket-Decides}
use Rattle.key_split.specs.declared.travel.Ticket.{Ticket}
use Rattle.key_split.specs.declared.travel.Told.{Told}
use Rattle.key_split.specs.declared.travel.Ended.{Ended}
use Rattle.command_future.specs.CommandModel.{CommandModel, MayPostTo, fresh, progress_told}
use Rattle.command_future.specs.declared.stage.Stage.{Stage}
use Rattle.command_future.specs.declared.stage.Stage.TheVariants.{Wants, WantsAsking, Awaits, Over}
use Rattle.session_order.specs.Steps.{IsHandedOut}
use Rattle.session_order.specs.declared.queue.PartStage.{PartStage}
use Rattle.session_order.specs.declared.queue.PartStage.TheVariants.{Waiting, Out, Done}
use Rattle.proxy_lanes.specs.View.{ViewModel}
use Rattle.proxy_turns.specs.Commands.{CommandsModel, GoesTo}
use Rattle.proxy_turns.specs.ClientModel.{ClientModel}
use Rattle.world_laws.specs.State.{awaiting, slot_for}
use Rattle.world_laws.specs.declared.state.Arrival.{Arrival}
use Rattle.world_laws.specs.Places.{total, is}
use Rattle.world_laws.proofs.Recorded.{at-set}
use Rattle.turn_laws.specs.Shadow.{ClientShadow, PartShadow, KeptShadow, IsLetGo, StageShadow, HasCommand, IsAtFirst, StandsAt, ToldFrom, ticket_at}
use Rattle.turn_laws.proofs.Tables.{put-same, put-other}
use Rattle.turn_laws.proofs.Downs.{Pair}
use Rattle.turn_laws.proofs.Ending.{none-some, one-item, one-of, told-nobody}
use Rattle.turn_laws.proofs.Standing.{GoesOn, still-stands, order-set}
use Rattle.turn_laws.proofs.Telling.{count-set}

-- a command that goes to a node may be posted to it
pub may-post : (s : Stage) (slot node : ℕ) (view view' : ViewModel) → GoesTo s slot view node view' → MayPostTo s node
may-post (Wants None) slot node view view' h = tt
may-post (Wants (Some named)) slot node view view' h = h.0
may-post (WantsAsking named) slot node view view' h = h.0
may-post Awaits slot node view view' h = h
may-post (Over end) slot node view view' h = h

pub goes-no-await : (s : Stage) (node : ℕ) → MayPostTo s node → s ≡ Awaits → ⊥
goes-no-await s node m e = subst (λ x. MayPostTo x node) e m

goes-no-end : (s : Stage) (node : ℕ) (end : Ended) → MayPostTo s node → s ≡ Over end → ⊥
goes-no-end s node end m e = subst (λ x. MayPostTo x node) e m

-- what holds at each place before it holds of all of them
pub all-before : {X : Type 0} (P : X → Type 0) (xs : List X) (n : ℕ) → ((i : ℕ) (x : X) → i < n → slice_get xs i ≡ Some x → P x) → All P (take n xs)
all-before P [] zero h k d lt = absurd (omega (arith, lt))
all-before P [] (suc n) h k d lt = absurd (omega (arith, lt))
all-before P (x ∷ xs) zero h k d lt = absurd (omega (arith, lt))
all-before P (x ∷ xs) (suc n) h zero d lt = h 0 x (omega arith) refl
all-before P (x ∷ xs) (suc n) h (suc k) d lt = all-before P xs n (λ i y l e. h (suc i) y (omega (arith, l)) e) k d (omega (arith, lt))

pub same-itself : (t : Ticket) → same_ticket t t ≡ true
same-itself t = (same_ticket-Decides t t).1 refl

-- The command that goes out is the first of those that were not posted yet, which leaves its place, or one that was posted.
abbrev pub Takes : CommandsModel → CommandModel → List CommandModel → Type 0
Takes commands c later = (commands.fresh ≡ c ∷ later) ⊎ ((get commands.posted c.ticket.part ≡ Some c) × (later ≡ commands.fresh))

pub takes-has : (commands : CommandsModel) (c : CommandModel) (later : List CommandModel) → Takes commands c later → HasCommand commands c.ticket.part c
takes-has commands c later takes = ⊎_elim
    (λ (x : commands.fresh ≡ c ∷ later). inl ((0, ap (λ cs. slice_get cs 0) x), refl))
    (λ (x : (get commands.posted c.ticket.part ≡ Some c) × (later ≡ commands.fresh)). inr x.0)
    takes

-- ---- a client's command that wants its post

module _ {C : Type 0} (downs : List Pair) (worker number : ℕ) (client : ClientModel C) (arrivals : List Arrival) (old : ClientShadow downs worker number client arrivals)
    (awaits : (t : Ticket) (i : ℕ) (told : Told) → slice_get downs i ≡ Some (t, told) → t.client ≡ number → (d : CommandModel) × (get client.commands.posted t.part ≡ Some d) × (d.stage ≡ Awaits))
    (c : CommandModel) (has : HasCommand client.commands c.ticket.part c)
    (was-posted : client.gone ≡ true → get client.commands.posted c.ticket.part ≡ Some c) (out : IsHandedOut client.session c.ticket) (node : ℕ) (may : MayPostTo c.stage node) where
  pub mine : c.ticket.client ≡ number
  mine = out.4 ∙ old.numbered

  -- there is no other of its number
  pub only : (d : CommandModel) → HasCommand client.commands c.ticket.part d → d ≡ c
  only d too = ⊎_elim
      (λ (x : IsAtFirst client.commands c × (c.ticket.part ≡ c.ticket.part)). ⊎_elim
      (λ (y : IsAtFirst client.commands d × (d.ticket.part ≡ c.ticket.part)).
      let place : y.0.0 ≡ x.0.0 = (old.commands).apart y.0.0 x.0.0 d c y.0.1 x.0.1 y.1 in
      one-of (slice_get client.commands.fresh x.0.0) d c (ap (slice_get client.commands.fresh) (sym place) ∙ y.0.1) x.0.1)
      (λ (y : get client.commands.posted c.ticket.part ≡ Some d). absurd (none-some (get client.commands.posted c.ticket.part) d ((old.commands).fresh c x.0).2 y))
      too)
      (λ (x : get client.commands.posted c.ticket.part ≡ Some c). ⊎_elim
      (λ (y : IsAtFirst client.commands d × (d.ticket.part ≡ c.ticket.part)). absurd (none-some (get client.commands.posted c.ticket.part) c (ap (get client.commands.posted) (sym y.1) ∙ ((old.commands).fresh d y.0).2) x))
      (λ (y : get client.commands.posted c.ticket.part ≡ Some d). one-of (get client.commands.posted c.ticket.part) d c y x)
      too)
      has

  -- nothing is on its way down to it
  nobody : (i : ℕ) (told : Told) → slice_get downs i ≡ Some (c.ticket, told) → ⊥
  nobody i told e =
      let a = awaits c.ticket i told e mine in
      let same : a.0 ≡ c = only a.0 (inr a.1) in
      goes-no-await c.stage node may (ap (λ (d : CommandModel). d.stage) (sym same) ∙ a.2)

  pub alone : total (λ (p : Pair). is c.ticket p.0) downs ≡ 0
  alone = told-nobody downs c.ticket (λ i pair e same. nobody i pair.1 (e ∙ ap (λ t. Some (t, pair.1)) same))

  -- where the machine's command of it stands
  pub stood : StandsAt arrivals c.ticket
  stood = (old.stands c.ticket out).0

  module _ (j : ℕ) (x : Arrival) (at : slice_get arrivals j ≡ Some x) (ticketed : x.command.ticket ≡ c.ticket) where
    -- the stage of its part, its end, and what the shadow says of it
    abbrev pub IsThere : Type 0
    IsThere = (client.session.first ≤ x.command.ticket.part) × (x.answered ≡ false) × ((end : Ended)
        × (slice_get client.session.stages (x.command.ticket.part - client.session.first) ≡ Some (Out out.0))
        × (slice_get client.session.ends (x.command.ticket.part - client.session.first) ≡ Some end)
        × StageShadow downs client.gone client.commands (Out out.0) end x)

    pub there : IsThere
    there = ⊎_elim
        (λ (k : KeptShadow downs client x). ⊎_elim
        (λ (z : (x.command.ticket.part < client.session.first) × (x.answered ≡ true) × ((ended : Ended) × (x.command.stage ≡ Over ended))). absurd (omega (arith, z.0, out.1, ap (λ (t : Ticket). t.part) ticketed)))
        (λ (z : (client.session.first ≤ x.command.ticket.part) × (x.answered ≡ false) × ((stage : PartStage) × (end : Ended)
        × (slice_get client.session.stages (x.command.ticket.part - client.session.first) ≡ Some stage)
        × (slice_get client.session.ends (x.command.ticket.part - client.session.first) ≡ Some end)
        × StageShadow downs client.gone client.commands stage end x)).
        let p : slice_get client.session.stages (x.command.ticket.part - client.session.first) ≡ Some (Out out.0) = ap (λ (t : Ticket). slice_get client.session.stages (t.part - client.session.first)) ticketed ∙ out.2 in
        let same : z.2.0 ≡ Out out.0 = one-item client.session.stages (x.command.ticket.part - client.session.first) z.2.0 (Out out.0) z.2.2 p in
        (z.0, z.1, (z.2.1, p, z.2.3, subst (λ (s : PartStage). StageShadow downs client.gone client.commands s z.2.1 x) same z.2.4)))
        k)
        (λ (k : IsLetGo client x.command.ticket). absurd (k.1 (subst (IsHandedOut client.session) (sym ticketed) out)))
        (old.parts j x at (ap (λ (t : Ticket). t.client) ticketed ∙ mine))

    -- it is the client's
    pub same : x.command ≡ c
    same = ⊎_elim
        (λ (z : (d : CommandModel) × HasCommand client.commands x.command.ticket.part d × ToldFrom downs d x.command).
        let one : z.0 ≡ c = only z.0 (subst (λ n. HasCommand client.commands n z.0) (ap (λ (t : Ticket). t.part) ticketed) z.1) in
        ⊎_elim
        (λ (u : (x.command ≡ z.0) × (total (λ (p : Pair). is (z.0).ticket p.0) downs ≡ 0)). u.0 ∙ one)
        (λ (u : (told : Told) × (i : ℕ) × (slice_get downs i ≡ Some ((z.0).ticket, told)) × (x.command ≡ progress_told z.0 told)). absurd (nobody u.1 u.0 (u.2 ∙ ap (λ (d : CommandModel). Some (d.ticket, u.0)) one)))
        z.2)
        (λ (z : (client.gone ≡ true) × (x.command ≡ fresh x.command.ticket x.command.part) × (get client.commands.posted x.command.ticket.part ≡ None)).
        absurd (none-some (get client.commands.posted c.ticket.part) c (ap (get client.commands.posted) (sym (ap (λ (t : Ticket). t.part) ticketed)) ∙ z.2) (was-posted z.0)))
        there.2.3.1

    -- it is out for its slot
    pub its-slot : out.0 ≡ slot_for c.part
    its-slot = there.2.3.0 ∙ ap (λ (d : CommandModel). slot_for d.part) same

-- ---- it is posted

module _ {C : Type 0} (downs : List Pair) (worker number : ℕ) (client : ClientModel C) (arrivals : List Arrival) (old : ClientShadow downs worker number client arrivals)
    (own : (i j : ℕ) (x y : Arrival) → slice_get arrivals i ≡ Some x → slice_get arrivals j ≡ Some y → x.command.ticket ≡ y.command.ticket → i ≡ j)
    (awaits : (t : Ticket) (i : ℕ) (told : Told) → slice_get downs i ≡ Some (t, told) → t.client ≡ number → (d : CommandModel) × (get client.commands.posted t.part ≡ Some d) × (d.stage ≡ Awaits))
    (c : CommandModel) (later : List CommandModel) (takes : Takes client.commands c later)
    (was-posted : client.gone ≡ true → get client.commands.posted c.ticket.part ≡ Some c) (out : IsHandedOut client.session c.ticket) (node : ℕ) (may : MayPostTo c.stage node) where
  abbrev c2 : CommandModel
  c2 = record c { stage = Awaits }

  abbrev pub commands2 : CommandsModel
  commands2 = record { fresh = later; posted = insert client.commands.posted c.ticket.part c2 }

  abbrev pub client2 : ClientModel C
  client2 = record client { commands = commands2 }

  has : HasCommand client.commands c.ticket.part c
  has = takes-has client.commands c later takes

  pub at-own : get commands2.posted c.ticket.part ≡ Some c2
  at-own = put-same client.commands.posted c.ticket.part c2

  pub at-other : (n : ℕ) → n ≢ c.ticket.part → get commands2.posted n ≡ get client.commands.posted n
  at-other n ne = put-other client.commands.posted c.ticket.part n c2 ne

  first-was : (d : CommandModel) → IsAtFirst commands2 d → IsAtFirst client.commands d × (d.ticket.part ≢ c.ticket.part)
  first-was d e = ⊎_elim
      (λ (x : client.commands.fresh ≡ c ∷ later).
      let was : slice_get client.commands.fresh (suc e.0) ≡ Some d = ap (λ cs. slice_get cs (suc e.0)) x ∙ e.1 in
      ((suc e.0, was), λ same. no-place e.0 ((old.commands).apart (suc e.0) 0 d c was (ap (λ cs. slice_get cs 0) x) same)))
      (λ (x : (get client.commands.posted c.ticket.part ≡ Some c) × (later ≡ client.commands.fresh)).
      let was : slice_get client.commands.fresh e.0 ≡ Some d = ap (λ cs. slice_get cs e.0) (sym x.1) ∙ e.1 in
      ((e.0, was), λ same. none-some (get client.commands.posted c.ticket.part) c (ap (get client.commands.posted) (sym same) ∙ ((old.commands).fresh d (e.0, was)).2) x.0))
      takes
    where
      no-place : (n : ℕ) → suc n ≡ 0 → ⊥
      no-place n e = omega (arith, e)

  -- one of another number that was not posted is still there
  first-other : (d : CommandModel) → IsAtFirst client.commands d → d.ticket.part ≢ c.ticket.part → IsAtFirst commands2 d
  first-other d e ne = ⊎_elim
      (λ (x : client.commands.fresh ≡ c ∷ later). behind e.0 (ap (λ cs. slice_get cs e.0) (sym x) ∙ e.1))
      (λ (x : (get client.commands.posted c.ticket.part ≡ Some c) × (later ≡ client.commands.fresh)). (e.0, ap (λ cs. slice_get cs e.0) x.1 ∙ e.1))
      takes
    where
      behind : (i : ℕ) → slice_get (c ∷ later) i ≡ Some d → IsAtFirst commands2 d
      behind zero at = absurd (ne (ap (λ (u : CommandModel). u.ticket.part) (one-of (slice_get (c ∷ later) 0) d c at refl)))
      behind (suc i) at = (i, at)

  apart-still : (i j : ℕ) (d e : CommandModel) → slice_get later i ≡ Some d → slice_get later j ≡ Some e → d.ticket.part ≡ e.ticket.part → i ≡ j
  apart-still i j d e p q same = ⊎_elim
      (λ (x : client.commands.fresh ≡ c ∷ later). let one : suc i ≡ suc j = (old.commands).apart (suc i) (suc j) d e (ap (λ cs. slice_get cs (suc i)) x ∙ p) (ap (λ cs. slice_get cs (suc j)) x ∙ q) same in omega (arith, one))
      (λ (x : (get client.commands.posted c.ticket.part ≡ Some c) × (later ≡ client.commands.fresh)). (old.commands).apart i j d e (ap (λ cs. slice_get cs i) (sym x.1) ∙ p) (ap (λ cs. slice_get cs j) (sym x.1) ∙ q) same)
      takes

  module _ (j : ℕ) (x : Arrival) (at : slice_get arrivals j ≡ Some x) (ticketed : x.command.ticket ≡ c.ticket) where
    abbrev y : Arrival
    y = awaiting x

    theirs : x.command.ticket.client ≡ number
    theirs = ap (λ (t : Ticket). t.client) ticketed ∙ mine downs worker number client arrivals old awaits c has was-posted out node may

    is-it : x.command ≡ c
    is-it = same downs worker number client arrivals old awaits c has was-posted out node may j x at ticketed

    where-it-is : IsThere downs worker number client arrivals old awaits c has was-posted out node may j x at ticketed
    where-it-is = there downs worker number client arrivals old awaits c has was-posted out node may j x at ticketed

    pub goes-on : GoesOn x y
    goes-on = (refl, refl, λ e. absurd (goes-no-end c.stage node e.0 may (ap (λ (d : CommandModel). d.stage) (sym is-it) ∙ e.1)))

    other-stage : (a : Arrival) → a.command.ticket.part ≢ c.ticket.part → (stage : PartStage) (end : Ended) → StageShadow downs client.gone client.commands stage end a → StageShadow downs client.gone commands2 stage end a
    other-stage a ne (Waiting part) end h = h
    other-stage a ne (Out slot) end h = (
      h.0,
      ⊎_elim
          (λ (z : (d : CommandModel) × HasCommand client.commands a.command.ticket.part d × ToldFrom downs d a.command). inl (
            z.0,
            ⊎_elim
                (λ (u : IsAtFirst client.commands z.0 × ((z.0).ticket.part ≡ a.command.ticket.part)). inl (first-other z.0 u.0 (λ p. ne (sym u.1 ∙ p)), u.1))
                (λ (u : get client.commands.posted a.command.ticket.part ≡ Some z.0). inr (at-other a.command.ticket.part ne ∙ u))
                z.1,
            z.2,
          ))
          (λ z. inr (z.0, z.1, at-other a.command.ticket.part ne ∙ z.2))
          h.1,
    )
    other-stage a ne Done end h = h

    other-kept : (a : Arrival) → a.command.ticket.part ≢ c.ticket.part → KeptShadow downs client a → KeptShadow downs client2 a
    other-kept a ne h = ⊎_elim
        (λ (z : (a.command.ticket.part < client.session.first) × (a.answered ≡ true) × ((ended : Ended) × (a.command.stage ≡ Over ended))). inl z)
        (λ (z : (client.session.first ≤ a.command.ticket.part) × (a.answered ≡ false) × ((stage : PartStage) × (end : Ended)
        × (slice_get client.session.stages (a.command.ticket.part - client.session.first) ≡ Some stage)
        × (slice_get client.session.ends (a.command.ticket.part - client.session.first) ≡ Some end)
        × StageShadow downs client.gone client.commands stage end a)).
        inr (z.0, z.1, (z.2.0, z.2.1, z.2.2, z.2.3, other-stage a ne z.2.0 z.2.1 z.2.4)))
        h

    own-kept : KeptShadow downs client2 y
    own-kept = inr (
      where-it-is.0,
      where-it-is.1,
      (
        Out out.0,
        where-it-is.2.0,
        where-it-is.2.1,
        where-it-is.2.2,
        (
          where-it-is.2.3.0,
          inl (
            c2,
            inr (ap (get commands2.posted) (ap (λ (t : Ticket). t.part) ticketed) ∙ at-own),
            inl ((λ i. record (is-it i) { stage = Awaits }), alone downs worker number client arrivals old awaits c has was-posted out node may),
          ),
        ),
      ),
    )

    -- of another place is another number
    apart : (i : ℕ) (a : Arrival) → slice_get arrivals i ≡ Some a → a.command.ticket.client ≡ number → i ≢ j → a.command.ticket.part ≢ c.ticket.part
    apart i a e n ne p = ne (own i j a x e at (one a.command.ticket x.command.ticket
        (old.homes i a e n ∙ sym (old.homes j x at theirs))
        (n ∙ sym theirs)
        (p ∙ sym (ap (λ (t : Ticket). t.part) ticketed))))
      where
        one : (t u : Ticket) → t.worker ≡ u.worker → t.client ≡ u.client → t.part ≡ u.part → t ≡ u
        one t u a b c = λ i. record { worker = a i; client = b i; part = c i }

    pub posted-shadow : ClientShadow downs worker number client2 (slice_set arrivals j y)
    posted-shadow = record {
      numbered = old.numbered;
      housed = old.housed;
      all = λ g. count-set (λ (a : Arrival). a.command.ticket.client == number) arrivals j x y at refl ∙ old.all g;
      read = λ g part lt. still-stands arrivals j x y at refl (ticket_at client.session part) (old.read g part lt);
      stands = λ t o. let was = old.stands t o in (still-stands arrivals j x y at refl t was.0, order-set client.session arrivals j x y at goes-on t was.1);
      homes = λ i a e n. ⊎_elim
          (λ (z : (i ≡ j) × (a ≡ y)). ap (λ (u : Arrival). u.command.ticket.worker) z.1 ∙ old.homes j x at theirs)
          (λ (z : (i ≢ j) × (slice_get arrivals i ≡ Some a)). old.homes i a z.1 n)
          (at-set arrivals j y i a e);
      parts = λ i a e n. ⊎_elim
          (λ (z : (i ≡ j) × (a ≡ y)). subst (PartShadow downs client2) (sym z.1) (inl own-kept))
          (λ (z : (i ≢ j) × (slice_get arrivals i ≡ Some a)). ⊎_elim
          (λ (k : KeptShadow downs client a). inl (other-kept a (apart i a z.1 n z.0) k))
          (λ (k : IsLetGo client a.command.ticket). inr k)
          (old.parts i a z.1 n))
          (at-set arrivals j y i a e);
      commands = record {
        posted = λ m d e. ⊎_elim
            (λ (z : ((m == c.ticket.part) ≡ true) × (m ≡ c.ticket.part)).
            let it : c2 ≡ d = one-of (get commands2.posted m) c2 d (ap (get commands2.posted) z.1 ∙ at-own) e in
            (ap (λ (u : CommandModel). u.ticket.part) (sym it) ∙ sym z.1, subst (λ (u : CommandModel). IsHandedOut client.session u.ticket) it out))
            (λ (z : ((m == c.ticket.part) ≡ false) × (m ≢ c.ticket.part)). (old.commands).posted m d (sym (at-other m z.1) ∙ e))
            (eqb_tells m c.ticket.part);
        fresh = λ d e. let was = first-was d e in let f = (old.commands).fresh d was.0 in (f.0, f.1, at-other d.ticket.part was.1 ∙ f.2);
        apart = apart-still;
      };
      owed = old.owed;
      ends = old.ends;
      quit = old.quit;
    }
