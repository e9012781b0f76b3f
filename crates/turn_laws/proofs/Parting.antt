-- A client parts: its session lets go of all but the places of the parts that are out. The machine does nothing.
use Rattle.std.proofs.Common.{◌≡◌, inl, inr, ⊎_elim, ℕ, zero, suc, ◌-◌, ◌<◌, ◌≤◌, true, false, List, [], Some, refl, sym, ap, ◌∙◌, subst, arith, length, replicate}
use Rattle.std.specs.Prelude.{slice_get}
use Rattle.std.specs.FinMap.{get}
use Rattle.std.proofs.lemmas.List.{length-replicate}
use Rattle.std.proofs.lemmas.Bool.{false≢true}
use Rattle.std.proofs.lemmas.Option.{slice_get_within}
use Rattle.key_split.specs.PartModel.{PartModel}
use Rattle.key_split.specs.declared.travel.Ended.{Ended}
use Rattle.key_split.specs.declared.travel.Ended.TheVariants.{Lost}
use Rattle.command_future.specs.declared.stage.Stage.TheVariants.{Over}
use Rattle.session_order.specs.HangingUp.{HangsUp}
use Rattle.session_order.specs.SessionModel.{SessionModel}
use Rattle.session_order.specs.declared.queue.PartStage.{PartStage}
use Rattle.session_order.specs.declared.queue.PartStage.TheVariants.{Waiting, Out, Done}
use Rattle.proxy_turns.specs.ClientModel.{ClientModel}
use Rattle.proxy_turns.specs.ClientTurn.{ClientContext, Parted}
use Rattle.proxy_turns.specs.WorkerModel.{WorkerModel, Did}
use Rattle.world_laws.specs.declared.state.Arrival.{Arrival}
use Rattle.turn_laws.specs.Shadow.{ClientShadow, PartShadow, KeptShadow, IsLetGo, StageShadow}
use Rattle.turn_laws.specs.System.{seat_of}
use Rattle.turn_laws.specs.Underway.{downs_of}
use Rattle.turn_laws.specs.Steps.{AtWorker}
use Rattle.turn_laws.specs.Refines.{Simulates}
use Rattle.turn_laws.proofs.Clients.{unseen-step, one-client}
use Rattle.turn_laws.proofs.Downs.{Pair}
use Rattle.turn_laws.proofs.Ending.{one-item}
use Rattle.turn_laws.proofs.Standing.{order-on}
use Rattle.turn_laws.proofs.Told.{fitting}
use Rattle.turn_laws.proofs.Walks.{walked-stands}

-- each of `n` copies is that one
each-same : {X : Type 0} (x : X) (n i : ℕ) → i < n → slice_get (replicate n x) i ≡ Some x
each-same x zero i lt = absurd (omega (arith, lt))
each-same x (suc n) zero lt = refl
each-same x (suc n) (suc i) lt = each-same x n i (omega (arith, lt))

pub out-waits : (slot : ℕ) (part : PartModel) → Waiting part ≡ Out slot → ⊥
out-waits slot part e = cc

out-done : (slot : ℕ) → Done ≡ Out slot → ⊥
out-done slot e = cc

module _ {C : Type 0} (downs : List Pair) (worker number : ℕ) (client : ClientModel C) (new : SessionModel) (arrivals : List Arrival) (old : ClientShadow downs worker number client arrivals) (hangs : HangsUp client.session new) where
  abbrev client2 : ClientModel C
  client2 = record client { session = new; gone = true; unfed = []; unpushed = [] }

  -- a part that is awaited is kept, and no other
  kept2 : (c : Arrival) → c.command.ticket.worker ≡ client.session.worker → c.command.ticket.client ≡ client.session.client → KeptShadow downs client c → PartShadow downs client2 c
  kept2 c home mine h = ⊎_elim
      (λ (x : (c.command.ticket.part < client.session.first) × (c.answered ≡ true) × ((ended : Ended) × (c.command.stage ≡ Over ended))).
      inr (refl, λ out. let was = (hangs.awaited c.command.ticket).0 out in omega (arith, x.0, was.1)))
      (λ (x : (client.session.first ≤ c.command.ticket.part) × (c.answered ≡ false) × ((stage : PartStage) × (end : Ended)
      × (slice_get client.session.stages (c.command.ticket.part - client.session.first) ≡ Some stage)
      × (slice_get client.session.ends (c.command.ticket.part - client.session.first) ≡ Some end)
      × StageShadow downs client.gone client.commands stage end c)).
      by x.0 x.1 x.2.0 x.2.1 x.2.2 x.2.4)
      h
    where
      let-go : (stage : PartStage) → slice_get client.session.stages (c.command.ticket.part - client.session.first) ≡ Some stage → ((slot : ℕ) → stage ≡ Out slot → ⊥) → PartShadow downs client2 c
      let-go stage at ne = inr (refl, λ out. let was = (hangs.awaited c.command.ticket).0 out in ne was.0 (one-item client.session.stages (c.command.ticket.part - client.session.first) stage (Out was.0) at was.2))

      by : client.session.first ≤ c.command.ticket.part → c.answered ≡ false → (stage : PartStage) (end : Ended)
          → slice_get client.session.stages (c.command.ticket.part - client.session.first) ≡ Some stage → StageShadow downs client.gone client.commands stage end c → PartShadow downs client2 c
      by le open' (Waiting part) end at x = let-go (Waiting part) at (λ slot. out-waits slot part)
      by le open' (Out slot) end at x =
          let i : ℕ = c.command.ticket.part - new.first in
          let now : slice_get new.stages i ≡ Some (Out slot) = ap (λ n. slice_get new.stages (c.command.ticket.part - n)) hangs.first ∙ (hangs.places (c.command.ticket.part - client.session.first) slot).1 at in
          let lost : slice_get new.ends i ≡ Some Lost = ap (λ es. slice_get es i) hangs.none_owed.2 ∙ each-same Lost (length new.stages) i (slice_get_within new.stages i (Out slot) now) in
          inl (inr (subst (λ n. n ≤ c.command.ticket.part) (sym hangs.first) le, open', (Out slot, Lost, now, lost, (x.0, ⊎_elim (λ y. inl y) (λ y. inr (refl, y.1, y.2)) x.1))))
      by le open' Done end at x = let-go Done at out-done

  pub parted-shadow : ClientShadow downs worker number client2 arrivals
  parted-shadow = record {
    numbered = hangs.owner.1 ∙ old.numbered;
    housed = hangs.owner.0 ∙ old.housed;
    all = λ here. absurd (false≢true (sym here));
    read = λ here part lt. absurd (false≢true (sym here));
    stands = λ t out. let was = old.stands t ((hangs.awaited t).0 out) in (was.0, order-on client.session new arrivals (λ j d e o. inr ((hangs.awaited d.command.ticket).1 o)) t was.1);
    homes = old.homes;
    parts = λ j c p q. ⊎_elim
        (λ (x : KeptShadow downs client c). kept2 c (old.homes j c p q ∙ sym old.housed) (q ∙ sym old.numbered) x)
        (λ (x : IsLetGo client c.command.ticket). inr (refl, λ out. x.1 ((hangs.awaited c.command.ticket).0 out)))
        (old.parts j c p q);
    commands = record {
      posted = λ m c e. let was = (old.commands).posted m c e in (was.0, (hangs.awaited c.ticket).1 was.1);
      fresh = λ c e. let was = (old.commands).fresh c e in ((hangs.awaited c.ticket).1 was.0, was.1, was.2);
      apart = (old.commands).apart;
    };
    owed = hangs.all_owed;
    ends = ap length hangs.none_owed.2 ∙ length-replicate (length new.stages) Lost;
    quit = λ gone. hangs.unread.2;
  }

module _ (C J : Type 0) where
  pub parted : (k number : ℕ) → Simulates C J (AtWorker k (Did number Parted))
  parted k number s s' w h walked on =
      let d = on.does in
      let client : ClientModel C = d.0 in
      let client' : ClientModel C = d.1 in
      let hangs : HangsUp client.session client'.session = d.3.2 in
      let now : client' ≡ client2 (downs_of s) k number client client'.session w.commands (h.clients k on.old number client on.at d.2).1 hangs = ap (λ (x : ClientContext C). x.client) d.3.3 in
      let outlet : (on.new).outlet ≡ (on.old).outlet = ap (λ (x : ClientContext C). x.outlet) d.3.3 in
      let e = d.4 in
      let old : ClientShadow (downs_of s) k number client w.commands = (h.clients k on.old number client on.at d.2).1 in
      unseen-step k (Did number Parted) s s' w on on.seen.4
      (one-client s w h k number on.old on.new client client' on.at d.2 (ap seat_of e) (ap (λ (x : WorkerModel C J). x.newest) e) outlet (ap (λ (x : WorkerModel C J). x.inlet) e) (ap (λ (x : WorkerModel C J). x.clients) e)
      (fitting s w (walked-stands w walked) h) (subst (λ (c : ClientModel C). ClientShadow (downs_of s) k number c w.commands) (sym now) (parted-shadow (downs_of s) k number client client'.session w.commands old hangs))
      (λ part c p q. ap (λ (x : ClientModel C). get x.commands.posted part) now ∙ p)
      (λ part c p. inl (c, ap (λ (x : ClientModel C). get x.commands.posted part) now ∙ p, refl)))
