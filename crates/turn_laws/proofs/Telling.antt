-- A pair goes on its way down, and the machine tells it at once: the clients' shadows stay. This is what Fetched, Refused and a broken link want.
use Rattle.std.proofs.Common.{◌≡◌, ◌≢◌, inl, inr, ⊎_elim, ℕ, zero, suc, ◌+◌, ◌-◌, ◌<◌, ◌≤◌, ◌==◌, Bool, true, false, List, [], ◌∷◌, Some, None, refl, sym, ap, ◌∙◌, subst, arith}
use Rattle.std.specs.Prelude.{slice_get, slice_set, count_by, cond, if◌then◌else◌}
use Rattle.std.proofs.lemmas.List.Sums.{sum_by-cons}
use Rattle.key_split.specs.declared.travel.Ticket.{Ticket}
use Rattle.key_split.specs.declared.travel.Told.{Told}
use Rattle.key_split.specs.declared.travel.Told.TheVariants.{Reply, Moved, Ask, TryAgain, ClusterDown, Unclear, Unsent}
use Rattle.key_split.specs.declared.travel.Ended.{Ended}
use Rattle.command_future.specs.CommandModel.{CommandModel, progress_told, refused_at}
use Rattle.command_future.specs.declared.stage.Stage.{Stage as Life}
use Rattle.command_future.specs.declared.stage.Stage.TheVariants.{Wants, WantsAsking, Awaits, Over}
use Rattle.session_order.specs.declared.queue.PartStage.{PartStage}
use Rattle.session_order.specs.declared.queue.PartStage.TheVariants.{Waiting, Out, Done}
use Rattle.proxy_turns.specs.Commands.{CommandsModel}
use Rattle.proxy_turns.specs.ClientModel.{ClientModel}
use Rattle.world_laws.specs.State.{after_told}
use Rattle.world_laws.specs.declared.state.Arrival.{Arrival}
use Rattle.world_laws.specs.Places.{total, is}
use Rattle.world_laws.proofs.Recorded.{at-set}
use Rattle.session_order.specs.Steps.{IsHandedOut}
use Rattle.turn_laws.specs.Shadow.{ClientShadow, PartShadow, KeptShadow, IsLetGo, StageShadow, HasCommand, ToldFrom, ticket_at}
use Rattle.turn_laws.proofs.Standing.{still-stands, order-set}
use Rattle.turn_laws.proofs.Downs.{Pair, OneMore, more-has, more-keeps, is-other}

no-await : (s : Life) → s ≡ Awaits → (next : Life) → s ≡ next → (next ≡ Awaits → ⊥) → ⊥
no-await s e next f ne = ne (sym f ∙ e)

pub wants-no : (m : _) → Wants m ≡ Awaits → ⊥
wants-no m e = cc

asks-no : (m : ℕ) → WantsAsking m ≡ Awaits → ⊥
asks-no m e = cc

over-no : (end : Ended) → Over end ≡ Awaits → ⊥
over-no end e = cc

abbrev refused_by : ℕ → Life → Bool → ℕ × Life
refused_by followed next b = if b then (followed, Over Ended.GaveUp) else (followed + 1, next)

refused-no : (followed : ℕ) (next : Life) → (next ≡ Awaits → ⊥) → (refused_at followed next).1 ≡ Awaits → ⊥
refused-no followed next ne e = go (followed == 16) e
  where
    go : (b : Bool) → (refused_by followed next b).1 ≡ Awaits → ⊥
    go true e = over-no Ended.GaveUp e
    go false e = ne e

-- what was told something does not await
pub told-no : (c : CommandModel) (told : Told) → (progress_told c told).stage ≡ Awaits → ⊥
told-no c (Reply v) e = over-no (Ended.Answered v) e
told-no c Told.Lost e = over-no Ended.Lost e
told-no c (Moved slot m) e = refused-no c.followed (Wants (Some m)) (wants-no (Some m)) e
told-no c (Ask slot m) e = refused-no c.followed (WantsAsking m) (asks-no m) e
told-no c TryAgain e = refused-no c.followed (Wants None) (wants-no None) e
told-no c ClusterDown e = refused-no c.followed (Wants None) (wants-no None) e
told-no c Unclear e = refused-no c.followed (Wants None) (wants-no None) e
told-no c Unsent e = refused-no c.followed (Wants None) (wants-no None) e

-- as many of a client's commands, where one changes and keeps its ticket
pub count-set : (p : Arrival → Bool) (xs : List Arrival) (j : ℕ) (x y : Arrival) → slice_get xs j ≡ Some x → p y ≡ p x → count_by p (slice_set xs j y) ≡ count_by p xs
count-set p [] j x y at e = absurd (cc)
count-set p (z ∷ xs) zero x y at e =
    let same : z ≡ x = cc in
    omega (arith, sum_by-cons (λ a. cond (p a) 1 0) y xs, sum_by-cons (λ a. cond (p a) 1 0) z xs, (let q : cond {A = ℕ} (p y) 1 0 ≡ cond {A = ℕ} (p z) 1 0 = ap (λ b. cond {A = ℕ} b 1 0) (e ∙ ap p (sym same)) in q))
count-set p (z ∷ xs) (suc j) x y at e = omega (arith, sum_by-cons (λ a. cond (p a) 1 0) z (slice_set xs j y), sum_by-cons (λ a. cond (p a) 1 0) z xs, count-set p xs j x y at e)

module _ (downs downs' : List Pair) (t : Ticket) (told : Told) (more : OneMore downs (t, told) downs') where
  -- another command
  other-from : (d c : CommandModel) → (c.ticket ≡ t → ⊥) → ToldFrom downs d c → ToldFrom downs' d c
  other-from d c ne h = ⊎_elim
      (λ (x : (c ≡ d) × (total (λ (p : Pair). is d.ticket p.0) downs ≡ 0)).
      inl (x.0, omega (arith, x.1, more (λ (p : Pair). is d.ticket p.0), is-other d.ticket t (λ e. ne (ap (λ (u : CommandModel). u.ticket) x.0 ∙ e)))))
      (λ (x : (said : Told) × (i : ℕ) × (slice_get downs i ≡ Some (d.ticket, said)) × (c ≡ progress_told d said)).
      let k = more-keeps downs downs' (t, told) more x.1 (d.ticket, x.0) x.2 in inr (x.0, k.0, k.1, x.3))
      h

  other-stage : (gone : Bool) (commands : CommandsModel) (stage : PartStage) (end : Ended) (c : Arrival) → (c.command.ticket ≡ t → ⊥) → StageShadow downs gone commands stage end c → StageShadow downs' gone commands stage end c
  other-stage gone commands (Waiting part) end c ne h = h
  other-stage gone commands (Out slot) end c ne h = (
    h.0,
    ⊎_elim
        (λ (x : (d : CommandModel) × HasCommand commands c.command.ticket.part d × ToldFrom downs d c.command). inl (x.0, x.1, other-from x.0 c.command ne x.2))
        (λ x. inr x)
        h.1,
  )
  other-stage gone commands Done end c ne h = h

  other-part : {C : Type 0} (client : ClientModel C) (c : Arrival) → (c.command.ticket ≡ t → ⊥) → KeptShadow downs client c → KeptShadow downs' client c
  other-part {C} client c ne h = ⊎_elim
      (λ (x : (c.command.ticket.part < client.session.first) × (c.answered ≡ true) × ((ended : Ended) × (c.command.stage ≡ Over ended))). inl x)
      (λ (x : (client.session.first ≤ c.command.ticket.part) × (c.answered ≡ false) × ((stage : PartStage) × (end : Ended)
      × (slice_get client.session.stages (c.command.ticket.part - client.session.first) ≡ Some stage)
      × (slice_get client.session.ends (c.command.ticket.part - client.session.first) ≡ Some end)
      × StageShadow downs client.gone client.commands stage end c)).
      inr (x.0, x.1, (x.2.0, x.2.1, x.2.2, x.2.3, other-stage client.gone client.commands x.2.0 x.2.1 c ne x.2.4)))
      h

  -- the command that is told
  own-from : (d c : CommandModel) → c.ticket ≡ t → c.stage ≡ Awaits → ToldFrom downs d c → ToldFrom downs' d (progress_told c told)
  own-from d c one awaits h = ⊎_elim
      (λ (x : (c ≡ d) × (total (λ (p : Pair). is d.ticket p.0) downs ≡ 0)).
      let found = more-has downs downs' (t, told) more in
      let ticket : t ≡ d.ticket = sym one ∙ ap (λ (u : CommandModel). u.ticket) x.0 in
      inr (told, found.0, found.1 ∙ ap (λ u. Some (u, told)) ticket, ap (λ u. progress_told u told) x.0))
      (λ (x : (said : Told) × (i : ℕ) × (slice_get downs i ≡ Some (d.ticket, said)) × (c ≡ progress_told d said)).
      absurd (told-no d x.0 (ap (λ (u : CommandModel). u.stage) (sym x.3) ∙ awaits)))
      h

  own-stage : (gone : Bool) (commands : CommandsModel) (stage : PartStage) (end : Ended) (c : Arrival) → c.command.ticket ≡ t → c.command.stage ≡ Awaits
      → StageShadow downs gone commands stage end c → StageShadow downs' gone commands stage end (after_told c told)
  own-stage gone commands (Waiting part) end c one awaits h = absurd (wants-no None (ap (λ (u : CommandModel). u.stage) (sym h) ∙ awaits))
  own-stage gone commands (Out slot) end c one awaits h = (
    h.0,
    ⊎_elim
        (λ (x : (d : CommandModel) × HasCommand commands c.command.ticket.part d × ToldFrom downs d c.command). inl (x.0, x.1, own-from x.0 c.command one awaits x.2))
        (λ x. absurd (wants-no None (ap (λ (u : CommandModel). u.stage) (sym x.1) ∙ awaits)))
        h.1,
  )
  own-stage gone commands Done end c one awaits h = absurd (over-no end (sym h ∙ awaits))

  own-part : {C : Type 0} (client : ClientModel C) (c : Arrival) → c.command.ticket ≡ t → c.command.stage ≡ Awaits → KeptShadow downs client c → KeptShadow downs' client (after_told c told)
  own-part {C} client c one awaits h = ⊎_elim
      (λ (x : (c.command.ticket.part < client.session.first) × (c.answered ≡ true) × ((ended : Ended) × (c.command.stage ≡ Over ended))).
      absurd (over-no x.2.0 (sym x.2.1 ∙ awaits)))
      (λ (x : (client.session.first ≤ c.command.ticket.part) × (c.answered ≡ false) × ((stage : PartStage) × (end : Ended)
      × (slice_get client.session.stages (c.command.ticket.part - client.session.first) ≡ Some stage)
      × (slice_get client.session.ends (c.command.ticket.part - client.session.first) ≡ Some end)
      × StageShadow downs client.gone client.commands stage end c)).
      inr (x.0, x.1, (x.2.0, x.2.1, x.2.2, x.2.3, own-stage client.gone client.commands x.2.0 x.2.1 c one awaits x.2.4)))
      h

  -- each client's shadow, after the machine told the pair
  pub told-client : {C : Type 0} (commands : List Arrival)
      → ((i j : ℕ) (x y : Arrival) → slice_get commands i ≡ Some x → slice_get commands j ≡ Some y → x.command.ticket ≡ y.command.ticket → i ≡ j)
      → (worker number : ℕ) (client : ClientModel C) (j : ℕ) (c : Arrival) → slice_get commands j ≡ Some c → c.command.ticket ≡ t → c.command.stage ≡ Awaits
      → ClientShadow downs worker number client commands → ClientShadow downs' worker number client (slice_set commands j (after_told c told))
  told-client {C} commands own worker number client j c at one awaits h = record {
    numbered = h.numbered;
    housed = h.housed;
    all = λ here. count-set (λ (x : Arrival). x.command.ticket.client == number) commands j c (after_told c told) at refl ∙ h.all here;
    read = λ here part lt. still-stands commands j c (after_told c told) at refl (ticket_at client.session part) (h.read here part lt);
    stands = λ u out.
        let was = h.stands u out in
        (still-stands commands j c (after_told c told) at refl u was.0, order-set client.session commands j c (after_told c told) at (refl, refl, λ x. absurd (over-no x.0 (sym x.1 ∙ awaits))) u was.1);
    homes = λ i x e n. ⊎_elim
        (λ (z : (i ≡ j) × (x ≡ after_told c told)). ap (λ (u : Arrival). u.command.ticket.worker) z.1 ∙ h.homes j c at (ap (λ (u : Arrival). u.command.ticket.client) (sym z.1) ∙ n))
        (λ (z : (i ≢ j) × (slice_get commands i ≡ Some x)). h.homes i x z.1 n)
        (at-set commands j (after_told c told) i x e);
    parts = λ i x e n. ⊎_elim
        (λ (z : (i ≡ j) × (x ≡ after_told c told)).
        let mine : c.command.ticket.client ≡ number = ap (λ (u : Arrival). u.command.ticket.client) (sym z.1) ∙ n in
        subst (PartShadow downs' client) (sym z.1) (⊎_elim
        (λ (y : KeptShadow downs client c). inl (own-part client c one awaits y))
        (λ (y : IsLetGo client c.command.ticket). inr y)
        (h.parts j c at mine)))
        (λ (z : (i ≢ j) × (slice_get commands i ≡ Some x)).
        ⊎_elim
        (λ (y : KeptShadow downs client x). inl (other-part client x (λ same. z.0 (own i j x c z.1 at (same ∙ sym one))) y))
        (λ (y : IsLetGo client x.command.ticket). inr y)
        (h.parts i x z.1 n))
        (at-set commands j (after_told c told) i x e);
    commands = h.commands;
    owed = h.owed;
    ends = h.ends;
    quit = h.quit;
  }

-- who awaits was told nothing
kept-awaits : {C : Type 0} (downs : List Pair) (client : ClientModel C) (c : Arrival) → c.command.stage ≡ Awaits → KeptShadow downs client c → total (λ (p : Pair). is c.command.ticket p.0) downs ≡ 0
kept-awaits {C} downs client c awaits h = ⊎_elim
    (λ (x : (c.command.ticket.part < client.session.first) × (c.answered ≡ true) × ((ended : Ended) × (c.command.stage ≡ Over ended))).
    absurd (over-no x.2.0 (sym x.2.1 ∙ awaits)))
    (λ (x : (client.session.first ≤ c.command.ticket.part) × (c.answered ≡ false) × ((stage : PartStage) × (end : Ended)
    × (slice_get client.session.stages (c.command.ticket.part - client.session.first) ≡ Some stage)
    × (slice_get client.session.ends (c.command.ticket.part - client.session.first) ≡ Some end)
    × StageShadow downs client.gone client.commands stage end c)).
    by-stage x.2.0 x.2.1 x.2.4)
    h
  where
    by-stage : (stage : PartStage) (end : Ended) → StageShadow downs client.gone client.commands stage end c → total (λ (p : Pair). is c.command.ticket p.0) downs ≡ 0
    by-stage (Waiting part) end h = absurd (wants-no None (ap (λ (u : CommandModel). u.stage) (sym h) ∙ awaits))
    by-stage (Out slot) end h = ⊎_elim
        (λ (x : (d : CommandModel) × HasCommand client.commands c.command.ticket.part d × ToldFrom downs d c.command). ⊎_elim
        (λ (y : (c.command ≡ x.0) × (total (λ (p : Pair). is (x.0).ticket p.0) downs ≡ 0)). (λ i. total (λ (p : Pair). is (y.0 i).ticket p.0) downs) ∙ y.1)
        (λ (y : (said : Told) × (i : ℕ) × (slice_get downs i ≡ Some ((x.0).ticket, said)) × (c.command ≡ progress_told x.0 said)).
        absurd (told-no x.0 y.0 (ap (λ (u : CommandModel). u.stage) (sym y.3) ∙ awaits)))
        x.2)
        (λ x. absurd (wants-no None (ap (λ (u : CommandModel). u.stage) (sym x.1) ∙ awaits)))
        h.1
    by-stage Done end h = absurd (over-no end (sym h ∙ awaits))

pub own-awaits : {C : Type 0} (downs : List Pair) (client : ClientModel C) (c : Arrival) → c.command.stage ≡ Awaits → IsHandedOut client.session c.command.ticket → PartShadow downs client c
    → total (λ (p : Pair). is c.command.ticket p.0) downs ≡ 0
own-awaits {C} downs client c awaits out h = ⊎_elim (λ (x : KeptShadow downs client c). kept-awaits downs client c awaits x) (λ (x : IsLetGo client c.command.ticket). absurd (x.1 out)) h
