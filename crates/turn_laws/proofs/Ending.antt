-- Commands are dropped, or one ends: the machine does nothing.
use Rattle.std.proofs.Common.{◌≡◌, ◌≢◌, ◌⊎◌, inl, inr, ⊎_elim, ℕ, zero, suc, ◌+◌, ◌-◌, ◌<◌, ◌≤◌, ◌%◌, ◌==◌, Bool, true, false, List, [], Some, None, refl, sym, ap, ◌∙◌, subst, arith, length}
use Rattle.std.specs.Prelude.{slice_get, slice_set, Option, cond, if◌then◌else◌}
use Rattle.std.specs.FinMap.{FinMap, get, remove, get-remove}
use Rattle.std.specs.Ordering.{nat_cmp, eq_by_cmp}
use Rattle.std.specs.Cmp.{nat_cmp_total, unsigned_ties}
use Rattle.std.proofs.lemmas.Bool.Decides.{eqb_tells}
use Rattle.turn_laws.proofs.Tables.{same_number, nat_eq_by}
use Rattle.key_split.specs.Same.{same_ticket, same_ticket-Decides}
use Rattle.key_split.specs.PartModel.{PartModel}
use Rattle.key_split.specs.declared.travel.Ticket.{Ticket}
use Rattle.key_split.specs.declared.travel.Told.{Told}
use Rattle.key_split.specs.declared.travel.Ended.{Ended}
use Rattle.command_future.specs.CommandModel.{CommandModel, fresh, progress_told}
use Rattle.command_future.specs.declared.stage.Stage.{Stage}
use Rattle.command_future.specs.declared.stage.Stage.TheVariants.{Awaits, Over}
use Rattle.session_order.specs.SessionModel.{SessionModel}
use Rattle.session_order.specs.Steps.{IsHandedOut}
use Rattle.session_order.specs.declared.queue.PartStage.{PartStage}
use Rattle.session_order.specs.declared.queue.PartStage.TheVariants.{Waiting, Out, Done}
use Rattle.proxy_turns.specs.Commands.{CommandsModel}
use Rattle.proxy_turns.specs.ClientModel.{ClientModel}
use Rattle.proxy_turns.specs.ClientTurn.{ClientContext, Dropped}
use Rattle.proxy_turns.specs.WorkerModel.{WorkerModel, Did, Finished}
use Rattle.world_laws.specs.State.{HasEnded}
use Rattle.world_laws.specs.declared.state.Arrival.{Arrival}
use Rattle.world_laws.specs.Places.{total, is}
use Rattle.world_laws.proofs.Nodes.{set-size}
use Rattle.world_laws.proofs.Tally.{total-found}
use Rattle.world_laws.proofs.Recorded.{at-set, set-same, set-other}
use Rattle.turn_laws.specs.Shadow.{ClientShadow, KeptShadow, IsLetGo, StageShadow, HasCommand, IsAtFirst, ToldFrom}
use Rattle.turn_laws.specs.System.{seat_of}
use Rattle.turn_laws.specs.Underway.{Holds, downs_of}
use Rattle.turn_laws.specs.Steps.{AtWorker}
use Rattle.turn_laws.specs.Refines.{Simulates}
use Rattle.turn_laws.proofs.Downs.{Pair}
use Rattle.turn_laws.proofs.Elements.{nothing-there}
use Rattle.turn_laws.proofs.Standing.{order-on}
use Rattle.turn_laws.proofs.Walks.{walked-stands}
use Rattle.turn_laws.proofs.Told.{Fitting, fitting}
use Rattle.turn_laws.proofs.Clients.{unseen-step, one-client}

pub one-item : {X : Type 0} (xs : List X) (k : ℕ) (x y : X) → slice_get xs k ≡ Some x → slice_get xs k ≡ Some y → x ≡ y
one-item xs k x y p q = let one : Some x ≡ Some y = sym p ∙ q in cc

pub one-of : {X : Type 0} (o : Option X) (x y : X) → o ≡ Some x → o ≡ Some y → x ≡ y
one-of o x y p q = let one : Some x ≡ Some y = sym p ∙ q in cc

pub none-some : {X : Type 0} (o : Option X) (x : X) → o ≡ None → o ≡ Some x → ⊥
none-some o x p q = cc

pub waits-out : (o : Option PartStage) (part : PartModel) (slot : ℕ) → o ≡ Some (Waiting part) → o ≡ Some (Out slot) → ⊥
waits-out o part slot p q = cc

pub awaits-over : (s : Stage) (e : Ended) → s ≡ Awaits → s ≡ Over e → ⊥
awaits-over s e p q = cc

pub out-done : (slot : ℕ) → Out slot ≡ Done → ⊥
out-done slot e = cc

-- the table without one
pub removed-other : {X : Type 0} (m : FinMap nat_cmp X) (k q : ℕ) → q ≢ k → get (remove m k) q ≡ get m q
removed-other m k q ne = go (eq_by_cmp nat_cmp q k) refl
  where
    go : (b : Bool) → eq_by_cmp nat_cmp q k ≡ b → get (remove m k) q ≡ get m q
    go true e = absurd (ne (nat_eq_by q k e))
    go false e = get-remove nat_cmp_total m k q ∙ ap (λ b. cond b None (get m q)) e

pub removed-none : {X : Type 0} (m : FinMap nat_cmp X) (k q : ℕ) → get m q ≡ None → get (remove m k) q ≡ None
removed-none m k q none = get-remove nat_cmp_total m k q ∙ go (eq_by_cmp nat_cmp q k)
  where
    go : (b : Bool) → cond b None (get m q) ≡ None
    go true = refl
    go false = none

-- nobody is told something
pub told-nobody : (downs : List Pair) (t : Ticket) → ((i : ℕ) (pair : Pair) → slice_get downs i ≡ Some pair → pair.0 ≡ t → ⊥) → total (λ (p : Pair). is t p.0) downs ≡ 0
told-nobody downs t none = go (total (λ (p : Pair). is t p.0) downs) refl
  where
    same : (p : Pair) → 0 < is t p.0 → p.0 ≡ t
    same p lt = by (same_ticket t p.0) refl lt
      where
        by : (b : Bool) → same_ticket t p.0 ≡ b → 0 < (if b then 1 else 0) → p.0 ≡ t
        by true e lt = sym ((same_ticket-Decides t p.0).0 e)
        by false e lt = absurd (omega arith)

    go : (n : ℕ) → total (λ (p : Pair). is t p.0) downs ≡ n → total (λ (p : Pair). is t p.0) downs ≡ 0
    go zero e = e
    go (suc n) e = let f = total-found (λ (p : Pair). is t p.0) downs (omega (arith, e)) in absurd (none f.0 f.1 f.2 (same f.1 f.3))

module _ {C J : Type 0} (workers : List (WorkerModel C J)) (lanes dealt : ℕ) (downs : List Pair) (commands : List Arrival) (h : Fitting workers lanes dealt downs commands)
    (k number : ℕ) (model : WorkerModel C J) (client : ClientModel C) (at : slice_get workers k ≡ Some model) (got : get model.clients number ≡ Some client) where
  abbrev shadow : ClientShadow downs k number client commands
  shadow = (h.clients k model number client at got).1

  -- who holds a ticket's command is its client
  pub same-holder : (t : Ticket) (d : CommandModel) → Holds workers t d → t.client ≡ number → get client.commands.posted t.part ≡ Some d
  same-holder t d x e =
      let there = h.clients x.0 x.1 t.client x.3.0 x.2 x.3.1 in
      let here = h.clients k model number client at got in
      let place : x.0 ≡ k = sym there.0 ∙ ap (λ n. n % dealt) e ∙ here.0 in
      let one : x.1 ≡ model = one-item workers k x.1 model (ap (slice_get workers) (sym place) ∙ x.2) at in
      let it : x.3.0 ≡ client = one-of (get model.clients number) x.3.0 client (ap (λ (m : WorkerModel C J). get m.clients number) (sym one) ∙ ap (get (x.1).clients) (sym e) ∙ x.3.1) got in
      ap (λ (c : ClientModel C). get c.commands.posted t.part) (sym it) ∙ x.3.2

  -- who is told something was posted by its client, and awaits
  pub told-awaits : (t : Ticket) (i : ℕ) (told : Told) → slice_get downs i ≡ Some (t, told) → t.client ≡ number → (d : CommandModel) × (get client.commands.posted t.part ≡ Some d) × (d.stage ≡ Awaits)
  told-awaits t i told e mine = let a = h.awaited i (t, told) e in (a.0, same-holder t a.0 a.1 mine, a.2)

  -- the command of a ticket that the session handed out
  pub mine : (t : Ticket) → IsHandedOut client.session t → t.client ≡ number
  mine t x = x.4 ∙ shadow.numbered

-- ---- dropped

dropped-stage : (downs : List Pair) (client-gone : Bool) (commands : CommandsModel) → client-gone ≡ true
    → ((f : CommandModel) → IsAtFirst commands f → (f ≡ fresh f.ticket f.part) × (get commands.posted f.ticket.part ≡ None))
    → ((f : CommandModel) → IsAtFirst commands f → (i : ℕ) (told : Told) → slice_get downs i ≡ Some (f.ticket, told) → ⊥)
    → (stage : PartStage) (end : Ended) (c : Arrival) → StageShadow downs client-gone commands stage end c → StageShadow downs client-gone (record commands { fresh = [] }) stage end c
dropped-stage downs gone commands g begun alone (Waiting part) end c x = x
dropped-stage downs gone commands g begun alone (Out slot) end c x = (
  x.0,
  ⊎_elim
      (λ (y : (d : CommandModel) × HasCommand commands c.command.ticket.part d × ToldFrom downs d c.command). ⊎_elim
      (λ (z : IsAtFirst commands y.0 × ((y.0).ticket.part ≡ c.command.ticket.part)).
      let so : c.command ≡ y.0 = ⊎_elim (λ (u : (c.command ≡ y.0) × (total (λ (p : Pair). is (y.0).ticket p.0) downs ≡ 0)). u.0)
      (λ (u : (told : Told) × (i : ℕ) × (slice_get downs i ≡ Some ((y.0).ticket, told)) × (c.command ≡ progress_told y.0 told)). absurd (alone y.0 z.0 u.1 u.0 u.2)) y.2 in
      let was = begun y.0 z.0 in
      inr (g, so ∙ was.0 ∙ ap (λ (d : CommandModel). fresh d.ticket d.part) (sym so), ap (λ (d : CommandModel). get commands.posted d.ticket.part) so ∙ was.1))
      (λ (z : get commands.posted c.command.ticket.part ≡ Some y.0). inl (y.0, inr z, y.2))
      y.1)
      (λ y. inr y)
      x.1,
)
dropped-stage downs gone commands g begun alone Done end c x = x

module _ (C J : Type 0) where
  pub dropped : (k number : ℕ) (tickets : List Ticket) → Simulates C J (AtWorker k (Did number (Dropped tickets)))
  dropped k number tickets s s' w h walked on =
      let d = on.does in
      let client : ClientModel C = d.0 in
      let client' : ClientModel C = d.1 in
      let gone : client.gone ≡ true = d.3.0 in
      let now : client' ≡ record client { commands = record (client.commands) { fresh = [] } } = ap (λ (x : ClientContext C). x.client) d.3.3 in
      let outlet : (on.new).outlet ≡ (on.old).outlet = ap (λ (x : ClientContext C). x.outlet) d.3.3 in
      let e = d.4 in
      let fits = fitting s w (walked-stands w walked) h in
      let old : ClientShadow (downs_of s) k number client w.commands = (h.clients k on.old number client on.at d.2).1 in
      let alone : (f : CommandModel) → IsAtFirst client.commands f → (i : ℕ) (told : Told) → slice_get (downs_of s) i ≡ Some (f.ticket, told) → ⊥ = λ f has i told x.
      let begun = (old.commands).fresh f has in
      let a = told-awaits s.workers (length s.carrier.lanes) w.workers (downs_of s) w.commands fits k number on.old client on.at d.2 f.ticket i told x
      (mine s.workers (length s.carrier.lanes) w.workers (downs_of s) w.commands fits k number on.old client on.at d.2 f.ticket begun.0) in
      none-some (get client.commands.posted f.ticket.part) a.0 begun.2 a.1 in
      let shadow : ClientShadow (downs_of s) k number (record client { commands = record (client.commands) { fresh = [] } }) w.commands = record {
        numbered = old.numbered;
        housed = old.housed;
        all = old.all;
        read = old.read;
        stands = old.stands;
        homes = old.homes;
        parts = λ j c p q. ⊎_elim (λ (y : KeptShadow (downs_of s) client c). inl (⊎_elim (λ x. inl x)
            (λ x. inr (x.0, x.1, (x.2.0, x.2.1, x.2.2, x.2.3, dropped-stage (downs_of s) client.gone client.commands gone (λ f has. let begun = (old.commands).fresh f has in (begun.1, begun.2)) alone x.2.0 x.2.1 c x.2.4)))
            y)) (λ (y : IsLetGo client c.command.ticket). inr y) (old.parts j c p q);
        commands = record { posted = (old.commands).posted; fresh = λ c x. absurd (nothing-there x.0 c x.1); apart = λ i j c d p q e. absurd (nothing-there i c p) };
        owed = old.owed;
        ends = old.ends;
        quit = old.quit;
      } in
      unseen-step k (Did number (Dropped tickets)) s s' w on on.seen.4
      (one-client s w h k number on.old on.new client client' on.at d.2 (ap seat_of e) (ap (λ (x : WorkerModel C J). x.newest) e) outlet (ap (λ (x : WorkerModel C J). x.inlet) e) (ap (λ (x : WorkerModel C J). x.clients) e)
      fits (subst (λ (c : ClientModel C). ClientShadow (downs_of s) k number c w.commands) (sym now) shadow)
      (λ part c p q. ap (λ (x : ClientModel C). get x.commands.posted part) now ∙ p)
      (λ part c p. inl (c, ap (λ (x : ClientModel C). get x.commands.posted part) now ∙ p, refl)))

-- ---- finished

-- places of two parts
pub apart-places : (first a b : ℕ) → first ≤ a → first ≤ b → a - first ≡ b - first → a ≡ b
apart-places first a b p q e = omega (arith, p, q, e)

finished-stage : (downs : List Pair) (gone : Bool) (commands : CommandsModel) (number : ℕ) (c : Arrival) → c.command.ticket.part ≢ number
    → (stage : PartStage) (end : Ended) → StageShadow downs gone commands stage end c → StageShadow downs gone (record commands { posted = remove commands.posted number }) stage end c
finished-stage downs gone commands number c ne (Waiting part) end x = x
finished-stage downs gone commands number c ne (Out slot) end x = (
  x.0,
  ⊎_elim
      (λ (y : (d : CommandModel) × HasCommand commands c.command.ticket.part d × ToldFrom downs d c.command). ⊎_elim
      (λ (z : IsAtFirst commands y.0 × ((y.0).ticket.part ≡ c.command.ticket.part)). inl (y.0, inl z, y.2))
      (λ (z : get commands.posted c.command.ticket.part ≡ Some y.0). inl (y.0, inr (removed-other commands.posted number c.command.ticket.part ne ∙ z), y.2))
      y.1)
      (λ y. inr (y.0, y.1, removed-none commands.posted number c.command.ticket.part y.2))
      x.1,
)
finished-stage downs gone commands number c ne Done end x = x

-- the command that ended is that of the machine
ended-stage : (downs : List Pair) (gone : Bool) (commands : CommandsModel) (number : ℕ) (f : CommandModel) (ended : Ended) → get commands.posted number ≡ Some f → f.stage ≡ Over ended
    → ((d : CommandModel) → IsAtFirst commands d → get commands.posted d.ticket.part ≡ None)
    → ((i : ℕ) (told : Told) → slice_get downs i ≡ Some (f.ticket, told) → ⊥)
    → (c : Arrival) → c.command.ticket.part ≡ number → (slot : ℕ) (end : Ended) → StageShadow downs gone commands (Out slot) end c → c.command.stage ≡ Over ended
ended-stage downs gone commands number f ended has over none alone c at slot end x = ⊎_elim
    (λ (y : (d : CommandModel) × HasCommand commands c.command.ticket.part d × ToldFrom downs d c.command).
    let here : get commands.posted c.command.ticket.part ≡ Some f = ap (get commands.posted) at ∙ has in
    let same : y.0 ≡ f = ⊎_elim
    (λ (z : IsAtFirst commands y.0 × ((y.0).ticket.part ≡ c.command.ticket.part)). absurd (none-some (get commands.posted c.command.ticket.part) f (ap (get commands.posted) (sym z.1) ∙ none y.0 z.0) here))
    (λ (z : get commands.posted c.command.ticket.part ≡ Some y.0). one-of (get commands.posted c.command.ticket.part) y.0 f z here) y.1 in
    ⊎_elim (λ (u : (c.command ≡ y.0) × (total (λ (p : Pair). is (y.0).ticket p.0) downs ≡ 0)). ap (λ (d : CommandModel). d.stage) (u.0 ∙ same) ∙ over)
    (λ (u : (told : Told) × (i : ℕ) × (slice_get downs i ≡ Some ((y.0).ticket, told)) × (c.command ≡ progress_told y.0 told)).
    absurd (alone u.1 u.0 (u.2 ∙ ap (λ (d : CommandModel). Some (d.ticket, u.0)) same))) y.2)
    (λ y. absurd (none-some (get commands.posted c.command.ticket.part) f y.2 (ap (get commands.posted) at ∙ has)))
    x.1

-- an item of another place
other-item : {X : Type 0} (xs : List X) (n i : ℕ) (y x : X) → i ≢ n → slice_get (slice_set xs n y) i ≡ Some x → slice_get xs i ≡ Some x
other-item xs n i y x ne e = ⊎_elim (λ (z : (i ≡ n) × (x ≡ y)). absurd (ne z.0)) (λ (z : (i ≢ n) × (slice_get xs i ≡ Some x)). z.1) (at-set xs n y i x e)

module _ {C : Type 0} (downs : List Pair) (worker number : ℕ) (client : ClientModel C) (arrivals : List Arrival) (old : ClientShadow downs worker number client arrivals)
    (ticket : Ticket) (end : Ended) (f : CommandModel) (has : get client.commands.posted ticket.part ≡ Some f) (ticketed : f.ticket ≡ ticket) (over : f.stage ≡ Over end)
    (alone : (i : ℕ) (told : Told) → slice_get downs i ≡ Some (f.ticket, told) → ⊥) where
  abbrev held : SessionModel
  held = client.session

  abbrev n : ℕ
  n = ticket.part - held.first

  out : IsHandedOut held ticket
  out = subst (IsHandedOut held) ticketed ((old.commands).posted ticket.part f has).1

  abbrev session' : SessionModel
  session' = record held { stages = slice_set held.stages n Done; ends = slice_set held.ends n end }

  abbrev commands' : CommandsModel
  commands' = record (client.commands) { posted = remove client.commands.posted ticket.part }

  -- a part that was handed out beside it still is
  beside-it : (t : Ticket) → t.part ≢ ticket.part → IsHandedOut held t → IsHandedOut session' t
  beside-it t ne x = (x.0, x.1, set-other held.stages n Done (t.part - held.first) (Out x.0) (λ e. ne (apart-places held.first t.part ticket.part x.1 out.1 e)) x.2, x.3, x.4)

  -- and no other is
  was-out : (t : Ticket) → IsHandedOut session' t → IsHandedOut held t
  was-out t x = (
    x.0,
    x.1,
    ⊎_elim
        (λ (z : ((t.part - held.first) ≡ n) × (Out x.0 ≡ Done)). absurd (out-done x.0 z.1))
        (λ (z : ((t.part - held.first) ≢ n) × (slice_get held.stages (t.part - held.first) ≡ Some (Out x.0))). z.1)
        (at-set held.stages n Done (t.part - held.first) (Out x.0) x.2),
    x.3,
    x.4,
  )

  part-of : (c : Arrival) → KeptShadow downs client c → KeptShadow downs (record client { session = session'; commands = commands' }) c
  part-of c h = ⊎_elim
      (λ (x : (c.command.ticket.part < held.first) × (c.answered ≡ true) × ((ended : Ended) × (c.command.stage ≡ Over ended))). inl x)
      (λ (x : (held.first ≤ c.command.ticket.part) × (c.answered ≡ false) × ((stage : PartStage) × (e : Ended)
      × (slice_get held.stages (c.command.ticket.part - held.first) ≡ Some stage)
      × (slice_get held.ends (c.command.ticket.part - held.first) ≡ Some e)
      × StageShadow downs client.gone client.commands stage e c)).
      by x.0 x.1 x.2.0 x.2.1 x.2.2 x.2.3 x.2.4)
      h
    where
      by : held.first ≤ c.command.ticket.part → c.answered ≡ false → (stage : PartStage) (e : Ended) → slice_get held.stages (c.command.ticket.part - held.first) ≡ Some stage
          → slice_get held.ends (c.command.ticket.part - held.first) ≡ Some e → StageShadow downs client.gone client.commands stage e c
          → KeptShadow downs (record client { session = session'; commands = commands' }) c
      by le open' stage e p q x = go (c.command.ticket.part) refl
        where
          here : c.command.ticket.part ≡ ticket.part → KeptShadow downs (record client { session = session'; commands = commands' }) c
          here same =
              let m : c.command.ticket.part - held.first ≡ n = ap (λ u. u - held.first) same in
              let is-out : stage ≡ Out out.0 = one-item held.stages n stage (Out out.0) (ap (slice_get held.stages) (sym m) ∙ p) out.2 in
              let ended = ended-stage downs client.gone client.commands ticket.part f end has over (λ d z. ((old.commands).fresh d z).2) alone c same out.0 e (subst (λ s. StageShadow downs client.gone client.commands s e c) is-out x) in
              inr (
                le,
                open',
                (
                  Done,
                  end,
                  ap (slice_get (slice_set held.stages n Done)) m ∙ set-same held.stages n (Out out.0) Done out.2,
                  ap (slice_get (slice_set held.ends n end)) m ∙ set-same held.ends n e end (ap (slice_get held.ends) (sym m) ∙ q),
                  ended,
                ),
              )

          there : c.command.ticket.part ≢ ticket.part → KeptShadow downs (record client { session = session'; commands = commands' }) c
          there ne =
              let m : c.command.ticket.part - held.first ≢ n = λ z. ne (apart-places held.first c.command.ticket.part ticket.part le out.1 z) in
              inr (
                le,
                open',
                (
                  stage,
                  e,
                  set-other held.stages n Done (c.command.ticket.part - held.first) stage m p,
                  set-other held.ends n end (c.command.ticket.part - held.first) e m q,
                  finished-stage downs client.gone client.commands ticket.part c ne stage e x,
                ),
              )

          go : (u : ℕ) → c.command.ticket.part ≡ u → KeptShadow downs (record client { session = session'; commands = commands' }) c
          go u z = ⊎_elim
              (λ (y : ((c.command.ticket.part == ticket.part) ≡ true) × (c.command.ticket.part ≡ ticket.part)). here y.1)
              (λ (y : ((c.command.ticket.part == ticket.part) ≡ false) × (c.command.ticket.part ≢ ticket.part)). there y.1)
              (eqb_tells c.command.ticket.part ticket.part)

  -- the machine's command of the part that ended has ended too
  its-end : (j : ℕ) (c : Arrival) → slice_get arrivals j ≡ Some c → IsHandedOut held c.command.ticket → c.command.ticket.part ≡ ticket.part → HasEnded c
  its-end j c at o same = ⊎_elim
      (λ (x : KeptShadow downs client c). ⊎_elim
      (λ (y : (c.command.ticket.part < held.first) × (c.answered ≡ true) × ((ended : Ended) × (c.command.stage ≡ Over ended))). y.2)
      (λ (y : (held.first ≤ c.command.ticket.part) × (c.answered ≡ false) × ((stage : PartStage) × (e : Ended)
      × (slice_get held.stages (c.command.ticket.part - held.first) ≡ Some stage)
      × (slice_get held.ends (c.command.ticket.part - held.first) ≡ Some e)
      × StageShadow downs client.gone client.commands stage e c)).
      let is-out : y.2.0 ≡ Out o.0 = one-item held.stages (c.command.ticket.part - held.first) y.2.0 (Out o.0) y.2.2 o.2 in
      (end, ended-stage downs client.gone client.commands ticket.part f end has over (λ d z. ((old.commands).fresh d z).2) alone c same o.0 y.2.1 (subst (λ s. StageShadow downs client.gone client.commands s y.2.1 c) is-out y.2.4)))
      x)
      (λ (x : IsLetGo client c.command.ticket). absurd (x.1 o))
      (old.parts j c at (o.4 ∙ old.numbered))

  over-or-out : (j : ℕ) (c : Arrival) → slice_get arrivals j ≡ Some c → IsHandedOut held c.command.ticket → HasEnded c ⊎ IsHandedOut session' c.command.ticket
  over-or-out j c at o = ⊎_elim
      (λ (y : ((c.command.ticket.part == ticket.part) ≡ true) × (c.command.ticket.part ≡ ticket.part)). inl (its-end j c at o y.1))
      (λ (y : ((c.command.ticket.part == ticket.part) ≡ false) × (c.command.ticket.part ≢ ticket.part)). inr (beside-it c.command.ticket y.1 o))
      (eqb_tells c.command.ticket.part ticket.part)

  pub finished-shadow : ClientShadow downs worker number (record client { session = session'; commands = commands' }) arrivals
  finished-shadow = record {
    numbered = old.numbered;
    housed = old.housed;
    all = λ here. old.all here ∙ ap (λ m. held.first + m) (sym (set-size held.stages n Done));
    read = λ here part lt. old.read here part (subst (λ m. part < held.first + m) (set-size held.stages n Done) lt);
    stands = λ t x. let was = old.stands t (was-out t x) in (was.0, order-on held session' arrivals over-or-out t was.1);
    homes = old.homes;
    parts = λ j c p q. ⊎_elim
        (λ (x : KeptShadow downs client c). inl (part-of c x))
        (λ (x : IsLetGo client c.command.ticket). inr (x.0, λ out. x.1 (was-out c.command.ticket out)))
        (old.parts j c p q);
    commands = record {
      posted = λ m c e.
          let was = (old.commands).posted m c (still-there-in client.commands.posted ticket.part m c e) in
          let other : m ≢ ticket.part = λ same. removed-self client.commands.posted ticket.part m c same e in
          (was.0, beside-it c.ticket (λ same. other (sym was.0 ∙ same)) was.1);
      fresh = λ c e.
          let was = (old.commands).fresh c e in
          (beside-it c.ticket (λ same. none-some (get client.commands.posted ticket.part) f (ap (get client.commands.posted) (sym same) ∙ was.2) has) was.0, was.1, removed-none client.commands.posted ticket.part c.ticket.part was.2);
      apart = (old.commands).apart;
    };
    owed = old.owed ∙ sym (set-size held.stages n Done);
    ends = set-size held.ends n end ∙ old.ends ∙ sym (set-size held.stages n Done);
    quit = old.quit;
  }
    where
      still-there-in : (m : FinMap nat_cmp CommandModel) (k q : ℕ) (c : CommandModel) → get (remove m k) q ≡ Some c → get m q ≡ Some c
      still-there-in m k q c e = go (eq_by_cmp nat_cmp q k) (sym (get-remove nat_cmp_total m k q) ∙ e)
        where
          go : (b : Bool) → cond b None (get m q) ≡ Some c → get m q ≡ Some c
          go true x = absurd (none-some None c refl x)
          go false x = x

      removed-self : (m : FinMap nat_cmp CommandModel) (k q : ℕ) (c : CommandModel) → q ≡ k → get (remove m k) q ≡ Some c → ⊥
      removed-self m k q c same e =
          let ties : eq_by_cmp nat_cmp q k ≡ true = ap (eq_by_cmp nat_cmp q) (sym same) ∙ tie q in
          none-some (get (remove m k) q) c (get-remove nat_cmp_total m k q ∙ ap (λ b. cond b None (get m q)) ties) e
        where
          tie : (q : ℕ) → eq_by_cmp nat_cmp q q ≡ true
          tie q = sym (unsigned_ties q q) ∙ same_number q

module _ (C J : Type 0) where
  pub finished : (k number : ℕ) (ticket : Ticket) (end : Ended) → Simulates C J (AtWorker k (Finished number ticket end))
  finished k number ticket end s s' w h walked on =
      let d = on.does in
      let client : ClientModel C = d.0 in
      let client' : ClientModel C = d.1 in
      let f : CommandModel = d.3.0.0 in
      let has : get client.commands.posted ticket.part ≡ Some f = d.3.0.1 in
      let over : f.stage ≡ Over end = d.3.0.3 in
      let fits = fitting s w (walked-stands w walked) h in
      let old : ClientShadow (downs_of s) k number client w.commands = (h.clients k on.old number client on.at d.2).1 in
      let out = ((old.commands).posted ticket.part f has) in
      let alone : (i : ℕ) (told : Told) → slice_get (downs_of s) i ≡ Some (f.ticket, told) → ⊥ = λ i told x.
      let a = told-awaits s.workers (length s.carrier.lanes) w.workers (downs_of s) w.commands fits k number on.old client on.at d.2 f.ticket i told x
      (mine s.workers (length s.carrier.lanes) w.workers (downs_of s) w.commands fits k number on.old client on.at d.2 f.ticket out.1) in
      let same : a.0 ≡ f = one-of (get client.commands.posted ticket.part) a.0 f (ap (get client.commands.posted) (sym out.0) ∙ a.1) has in
      awaits-over f.stage end (ap (λ (c : CommandModel). c.stage) (sym same) ∙ a.2) over in
      let plain : ClientModel C = record client { session = record (client.session) { stages = slice_set client.session.stages (ticket.part - client.session.first) Done; ends = slice_set client.session.ends (ticket.part - client.session.first) end }; commands = record (client.commands) { posted = remove client.commands.posted ticket.part } } in
      let ended = d.3.2 in
      let now : client' ≡ record plain { port = client'.port } = d.3.3 ∙ (λ i. record client { port = client'.port; session = ended i; commands = record (client.commands) { posted = remove client.commands.posted ticket.part } }) in
      let e = d.4 in
      let x = finished-shadow (downs_of s) k number client w.commands old ticket end f has d.3.0.2 over alone in
      let shadow : ClientShadow (downs_of s) k number (record plain { port = client'.port }) w.commands = record { numbered = x.numbered; housed = x.housed; all = x.all; read = x.read; stands = x.stands; homes = x.homes; parts = x.parts; commands = x.commands; owed = x.owed; ends = x.ends; quit = x.quit } in
      unseen-step k (Finished number ticket end) s s' w on on.seen
      (one-client s w h k number on.old on.new client client' on.at d.2 (ap seat_of e) (ap (λ (x : WorkerModel C J). x.newest) e) (ap (λ (x : WorkerModel C J). x.outlet) e) (ap (λ (x : WorkerModel C J). x.inlet) e) (ap (λ (x : WorkerModel C J). x.clients) e)
      fits (subst (λ (c : ClientModel C). ClientShadow (downs_of s) k number c w.commands) (sym now) shadow)
      (λ part c p q. ap (λ (x : ClientModel C). get x.commands.posted part) now ∙ (removed-other client.commands.posted ticket.part part (λ same. awaits-over c.stage end q (ap (λ (y : CommandModel). y.stage) (one-of (get client.commands.posted ticket.part) c f (ap (get client.commands.posted) (sym same) ∙ p) has) ∙ over)) ∙ p))
      (λ part c p. ⊎_elim
      (λ (z : ((part == ticket.part) ≡ true) × (part ≡ ticket.part)). inr (end, ap (λ (y : CommandModel). y.stage) (one-of (get client.commands.posted ticket.part) c f (ap (get client.commands.posted) (sym z.1) ∙ p) has) ∙ over))
      (λ (z : ((part == ticket.part) ≡ false) × (part ≢ ticket.part)). inl (c, ap (λ (x : ClientModel C). get x.commands.posted part) now ∙ removed-other client.commands.posted ticket.part part z.1 ∙ p, refl))
      (eqb_tells part ticket.part)))
