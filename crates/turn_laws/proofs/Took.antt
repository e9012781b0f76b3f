-- A worker takes what came down and tells it: the machine did so before.
use Rattle.turn_laws.proofs.Holding.{asks-still}
use Rattle.std.proofs.Common.{◌≡◌, ◌≢◌, inl, inr, ⊎_elim, ℕ, zero, suc, ◌+◌, ◌<◌, ◌≤◌, ◌%◌, ◌==◌, Bool, true, false, List, [], ◌∷◌, ◌++◌, Some, None, refl, sym, ap, ◌∙◌, subst, arith, length}
use Rattle.std.specs.Prelude.{slice_get, slice_set, Option, IsSome, All}
use Rattle.std.proofs.lemmas.Bool.{false≢true}
use Rattle.std.proofs.lemmas.Bool.Decides.{eqb_tells}
use Rattle.std.specs.FinMap.{get, insert}
use Rattle.key_split.specs.declared.travel.Ticket.{Ticket}
use Rattle.key_split.specs.declared.travel.Told.{Told}
use Rattle.key_split.specs.declared.travel.Told.TheVariants.{Reply, Moved, Ask, TryAgain, ClusterDown, Unclear, Lost, Unsent}
use Rattle.session_order.specs.Steps.{IsHandedOut}
use Rattle.key_split.specs.declared.travel.Ended.{Ended}
use Rattle.command_future.specs.CommandModel.{CommandModel, progress_told}
use Rattle.command_future.specs.declared.stage.Stage.TheVariants.{Awaits}
use Rattle.session_order.specs.declared.queue.PartStage.{PartStage}
use Rattle.session_order.specs.declared.queue.PartStage.TheVariants.{Waiting, Out, Done}
use Rattle.proxy_lanes.specs.declared.ends.lane_ends.LaneEnds.{LaneEnds}
use Rattle.proxy_lanes.specs.declared.ring.Outlet.{Outlet}
use Rattle.proxy_lanes.specs.Lane.{posted}
use Rattle.proxy_turns.specs.declared.newcomer.Newcomer.{Newcomer}
use Rattle.proxy_turns.specs.Commands.{CommandsModel}
use Rattle.proxy_turns.specs.ClientModel.{ClientModel}
use Rattle.proxy_turns.specs.WorkerModel.{WorkerModel, IsAbove, Took, Tells}
use Rattle.world_laws.specs.State.{WorldModel}
use Rattle.world_laws.specs.declared.state.Arrival.{Arrival}
use Rattle.world_laws.specs.Places.{total, is}
use Rattle.world_laws.proofs.Nodes.{set-size}
use Rattle.world_laws.proofs.Tally.{total-append, total-one}
use Rattle.world_laws.proofs.Kept.{is-refl}
use Rattle.world_laws.proofs.Recorded.{at-set}
use Rattle.turn_laws.specs.System.{System, seat_of}
use Rattle.turn_laws.specs.Shadow.{IsShadow, ClientShadow, KeptShadow, IsLetGo, StageShadow, HasCommand, IsAtFirst, ToldFrom}
use Rattle.turn_laws.specs.Underway.{HasPosted, Holds, downs_of, downs_in, down_in}
use Rattle.turn_laws.specs.Steps.{AtWorker, WorkerStep}
use Rattle.turn_laws.specs.Refines.{Simulates}
use Rattle.turn_laws.proofs.Downs.{Pair, OneMore, more-has, more-keeps}
use Rattle.turn_laws.proofs.Frames.{DownFits}
use Rattle.turn_laws.proofs.Bags.{refusals, debts}
use Rattle.turn_laws.proofs.Lanes.{between-take}
use Rattle.turn_laws.proofs.Elements.{nothing-there}
use Rattle.turn_laws.proofs.Walks.{walked-stands}
use Rattle.turn_laws.proofs.Told.{Fitting, fitting, more-cases, none-down}
use Rattle.turn_laws.proofs.Clients.{worker-frame, unseen-step, held-in, put-holds, put-none}
use Rattle.turn_laws.proofs.Tables.{put-same, put-other, put-apart}
use Rattle.turn_laws.proofs.Ending.{none-some, one-of, one-item}

told-ticket : (f : CommandModel) (told : Told) → (progress_told f told).ticket ≡ f.ticket
told-ticket f (Reply v) = refl
told-ticket f Lost = refl
told-ticket f (Moved slot m) = refl
told-ticket f (Ask slot m) = refl
told-ticket f TryAgain = refl
told-ticket f ClusterDown = refl
told-ticket f Unclear = refl
told-ticket f Unsent = refl

abbrev told_commands : CommandsModel → ℕ → CommandModel → Told → CommandsModel
told_commands commands part f told = record commands { posted = insert commands.posted part (progress_told f told) }

-- ---- one pair less is on its way

module _ (downs downs' : List Pair) (t : Ticket) (told : Told) (more : OneMore downs' (t, told) downs) (once : (u : Ticket) → total (λ (p : Pair). is u p.0) downs ≤ 1) where
  own-one : is t t ≡ 1
  own-one = is-refl t

  pub gone-now : total (λ (p : Pair). is t p.0) downs' ≡ 0
  gone-now = omega (arith, once t, more (λ (p : Pair). is t p.0), own-one)

  -- of another command
  less-from : (d c : CommandModel) → (d.ticket ≡ t → ⊥) → ToldFrom downs d c → ToldFrom downs' d c
  less-from d c ne h = ⊎_elim
      (λ (x : (c ≡ d) × (total (λ (p : Pair). is d.ticket p.0) downs ≡ 0)). inl (x.0, omega (arith, x.1, more (λ (p : Pair). is d.ticket p.0))))
      (λ (x : (said : Told) × (i : ℕ) × (slice_get downs i ≡ Some (d.ticket, said)) × (c ≡ progress_told d said)). ⊎_elim
      (λ (z : (j : ℕ) × (slice_get downs' j ≡ Some (d.ticket, x.0))). inr (x.0, z.0, z.1, x.3))
      (λ (z : (d.ticket, x.0) ≡ (t, told)). absurd (ne (ap (λ (p : Pair). p.0) z)))
      (more-cases downs' downs (t, told) more x.1 (d.ticket, x.0) x.2))
      h

  less-stage : (gone : Bool) (commands : CommandsModel) (stage : PartStage) (end : Ended) (c : Arrival)
      → ((d : CommandModel) → HasCommand commands c.command.ticket.part d → d.ticket ≡ t → ⊥) → StageShadow downs gone commands stage end c → StageShadow downs' gone commands stage end c
  less-stage gone commands (Waiting part) end c ne x = x
  less-stage gone commands (Out slot) end c ne x = (
    x.0,
    ⊎_elim
        (λ (y : (d : CommandModel) × HasCommand commands c.command.ticket.part d × ToldFrom downs d c.command). inl (y.0, y.1, less-from y.0 c.command (ne y.0 y.1) y.2)) (λ y. inr y) x.1,
  )
  less-stage gone commands Done end c ne x = x

  -- of the command that is told
  told-from : (d c : CommandModel) → d.ticket ≡ t → ToldFrom downs d c → c ≡ progress_told d told
  told-from d c e h = ⊎_elim
      (λ (x : (c ≡ d) × (total (λ (p : Pair). is d.ticket p.0) downs ≡ 0)).
      let zero' : total (λ (p : Pair). is t p.0) downs ≡ 0 = subst (λ (u : Ticket). total (λ (p : Pair). is u p.0) downs ≡ 0) e x.1 in
      absurd (omega (arith, zero', more (λ (p : Pair). is t p.0), own-one)))
      (λ (x : (said : Told) × (i : ℕ) × (slice_get downs i ≡ Some (d.ticket, said)) × (c ≡ progress_told d said)). ⊎_elim
      (λ (z : (j : ℕ) × (slice_get downs' j ≡ Some (d.ticket, x.0))).
      let there : slice_get downs' z.0 ≡ Some (t, x.0) = z.1 ∙ ap (λ u. Some (u, x.0)) e in
      absurd (omega (arith, gone-now, total-one (λ (p : Pair). is t p.0) downs' z.0 (t, x.0) there, own-one)))
      (λ (z : (d.ticket, x.0) ≡ (t, told)). x.3 ∙ ap (λ (p : Pair). progress_told d p.1) z)
      (more-cases downs' downs (t, told) more x.1 (d.ticket, x.0) x.2))
      h

  -- another client
  pub less-client : {C : Type 0} (worker number : ℕ) (client : ClientModel C) (arrivals : List Arrival) → number ≢ t.client
      → ClientShadow downs worker number client arrivals → ClientShadow downs' worker number client arrivals
  less-client {C} worker number client arrivals ne h = record {
    numbered = h.numbered;
    housed = h.housed;
    all = h.all;
    read = h.read;
    stands = h.stands;
    homes = h.homes;
    parts = λ j c e n. ⊎_elim (λ (y : KeptShadow downs client c). inl (⊎_elim (λ x. inl x)
        (λ x. inr (x.0, x.1, (x.2.0, x.2.1, x.2.2, x.2.3, less-stage client.gone client.commands x.2.0 x.2.1 c (λ d has same. other d c.command.ticket.part has same) x.2.4)))
        y)) (λ (y : IsLetGo client c.command.ticket). inr y) (h.parts j c e n);
    commands = h.commands;
    owed = h.owed;
    ends = h.ends;
    quit = h.quit;
  }
    where
      other : (d : CommandModel) (part : ℕ) → HasCommand client.commands part d → d.ticket ≡ t → ⊥
      other d part has same =
          let out = ⊎_elim (λ (z : IsAtFirst client.commands d × (d.ticket.part ≡ part)). ((h.commands).fresh d z.0).0) (λ (z : get client.commands.posted part ≡ Some d). ((h.commands).posted part d z).1) has in
          ne (sym h.numbered ∙ sym out.4 ∙ ap (λ (u : Ticket). u.client) same)

  -- the client that is told
  pub told-now : {C : Type 0} (worker : ℕ) (client : ClientModel C) (arrivals : List Arrival) (f : CommandModel) → get client.commands.posted t.part ≡ Some f → f.ticket ≡ t
      → ClientShadow downs worker t.client client arrivals
      → ClientShadow downs' worker t.client (record client { commands = record (client.commands) { posted = insert client.commands.posted t.part (progress_told f told) } }) arrivals
  told-now {C} worker client arrivals f has one h = record {
    numbered = h.numbered;
    housed = h.housed;
    all = h.all;
    read = h.read;
    stands = h.stands;
    homes = h.homes;
    parts = λ j c e n. ⊎_elim (λ (y : KeptShadow downs client c). inl (⊎_elim (λ x. inl x)
        (λ x. inr (x.0, x.1, (x.2.0, x.2.1, x.2.2, x.2.3, stage x.2.0 x.2.1 c x.2.4)))
        y)) (λ (y : IsLetGo client c.command.ticket). inr y) (h.parts j c e n);
    commands = record {
      posted = λ m c e. ⊎_elim
          (λ (z : ((m == t.part) ≡ true) × (m ≡ t.part)).
          let same : progress_told f told ≡ c = one-of (get (told_commands client.commands t.part f told).posted m) (progress_told f told) c (ap (get (told_commands client.commands t.part f told).posted) z.1 ∙ put-same client.commands.posted t.part (progress_told f told)) e in
          let was = (h.commands).posted t.part f has in
          let ticket : c.ticket ≡ f.ticket = ap (λ (d : CommandModel). d.ticket) (sym same) ∙ told-ticket f told in
          (ap (λ (u : Ticket). u.part) ticket ∙ was.0 ∙ sym z.1, subst (IsHandedOut client.session) (sym ticket) was.1))
          (λ (z : ((m == t.part) ≡ false) × (m ≢ t.part)). (h.commands).posted m c (sym (put-other client.commands.posted t.part m (progress_told f told) z.1) ∙ e))
          (eqb_tells m t.part);
      fresh = λ c e.
          let was = (h.commands).fresh c e in
          let ne : c.ticket.part ≢ t.part = λ same. none-some (get client.commands.posted t.part) f (ap (get client.commands.posted) (sym same) ∙ was.2) has in
          (was.0, was.1, put-other client.commands.posted t.part c.ticket.part (progress_told f told) ne ∙ was.2);
      apart = (h.commands).apart;
    };
    owed = h.owed;
    ends = h.ends;
    quit = h.quit;
  }
    where
      other-part : (d : CommandModel) (part : ℕ) → HasCommand client.commands part d → part ≢ t.part → d.ticket ≡ t → ⊥
      other-part d part hd ne same =
          let here : d.ticket.part ≡ part = ⊎_elim (λ (z : IsAtFirst client.commands d × (d.ticket.part ≡ part)). z.1) (λ (z : get client.commands.posted part ≡ Some d). ((h.commands).posted part d z).0) hd in
          ne (sym here ∙ ap (λ (u : Ticket). u.part) same)

      still : (c : Arrival) → c.command.ticket.part ≢ t.part → (st : PartStage) (end : Ended) → StageShadow downs' client.gone client.commands st end c → StageShadow downs' client.gone (told_commands client.commands t.part f told) st end c
      still c ne (Waiting part) end x = x
      still c ne (Out slot) end x = (
        x.0,
        ⊎_elim
            (λ (y : (d : CommandModel) × HasCommand client.commands c.command.ticket.part d × ToldFrom downs' d c.command). inl (y.0, ⊎_elim (λ z. inl z) (λ z. inr (put-other client.commands.posted t.part c.command.ticket.part (progress_told f told) ne ∙ z)) y.1, y.2))
            (λ y. inr (y.0, y.1, put-other client.commands.posted t.part c.command.ticket.part (progress_told f told) ne ∙ y.2)) x.1,
      )
      still c ne Done end x = x

      own : (c : Arrival) → c.command.ticket.part ≡ t.part → (st : PartStage) (end : Ended) → StageShadow downs client.gone client.commands st end c → StageShadow downs' client.gone (told_commands client.commands t.part f told) st end c
      own c at (Waiting part) end x = x
      own c at (Out slot) end x = (
        x.0,
        ⊎_elim
            (λ (y : (d : CommandModel) × HasCommand client.commands c.command.ticket.part d × ToldFrom downs d c.command).
            let here : get client.commands.posted c.command.ticket.part ≡ Some f = ap (get client.commands.posted) at ∙ has in
            let same : y.0 ≡ f = ⊎_elim
            (λ (z : IsAtFirst client.commands y.0 × ((y.0).ticket.part ≡ c.command.ticket.part)). absurd (none-some (get client.commands.posted c.command.ticket.part) f (ap (get client.commands.posted) (sym z.1) ∙ ((h.commands).fresh y.0 z.0).2) here))
            (λ (z : get client.commands.posted c.command.ticket.part ≡ Some y.0). one-of (get client.commands.posted c.command.ticket.part) y.0 f z here) y.1 in
            let so : c.command ≡ progress_told f told = told-from y.0 c.command (ap (λ (d : CommandModel). d.ticket) same ∙ one) y.2 ∙ ap (λ d. progress_told d told) same in
            inl (
              progress_told f told,
              inr (ap (get (told_commands client.commands t.part f told).posted) at ∙ put-same client.commands.posted t.part (progress_told f told)),
              inl (so, subst (λ (u : Ticket). total (λ (p : Pair). is u p.0) downs' ≡ 0) (sym (told-ticket f told ∙ one)) gone-now),
            ))
            (λ y. absurd (none-some (get client.commands.posted c.command.ticket.part) f y.2 (ap (get client.commands.posted) at ∙ has))) x.1,
      )
      own c at Done end x = x

      stage : (st : PartStage) (end : Ended) (c : Arrival) → StageShadow downs client.gone client.commands st end c → StageShadow downs' client.gone (told_commands client.commands t.part f told) st end c
      stage st end c x = ⊎_elim
          (λ (z : ((c.command.ticket.part == t.part) ≡ true) × (c.command.ticket.part ≡ t.part)). own c z.1 st end x)
          (λ (z : ((c.command.ticket.part == t.part) ≡ false) × (c.command.ticket.part ≢ t.part)).
          still c z.1 st end (less-stage client.gone client.commands st end c (λ d hd same. other-part d c.command.ticket.part hd z.1 same) x))
          (eqb_tells c.command.ticket.part t.part)

-- ---- the step

-- the lane that is not finished
pub outlet-of : (o : Option (Outlet Pair)) → IsSome o → (outlet : Outlet Pair) × (o ≡ Some outlet)
outlet-of None h = absurd (false≢true h)
outlet-of (Some outlet) h = (outlet, refl)

module _ {C J : Type 0} where
  rings-take : (f : Pair → ℕ) (workers : List (WorkerModel C J)) (lanes : List (LaneEnds (Newcomer C J))) (k : ℕ) (model model' : WorkerModel C J) (lane : LaneEnds (Newcomer C J))
      → slice_get workers k ≡ Some model → slice_get lanes k ≡ Some lane
      → total f (downs_in (slice_set workers k model') lanes) + total f (down_in lane.down model.inlet) ≡ total f (downs_in workers lanes) + total f (down_in lane.down model'.inlet)
  rings-take f [] lanes k model model' lane p q = absurd (nothing-there k model p)
  rings-take f (z ∷ workers) [] k model model' lane p q = absurd (nothing-there k lane q)
  rings-take f (z ∷ workers) (l ∷ lanes) zero model model' lane p q =
      let same : z ≡ model = one-of (Some z) z model refl p in
      let it : l ≡ lane = one-of (Some l) l lane refl q in
      let a : total f (down_in l.down z.inlet) ≡ total f (down_in lane.down model.inlet) = λ i. total f (down_in (it i).down (same i).inlet) in
      let b : total f (down_in l.down model'.inlet) ≡ total f (down_in lane.down model'.inlet) = λ i. total f (down_in (it i).down model'.inlet) in
      omega (arith, a, b, total-append f (down_in l.down z.inlet) (downs_in workers lanes), total-append f (down_in l.down model'.inlet) (downs_in workers lanes))
  rings-take f (z ∷ workers) (l ∷ lanes) (suc k) model model' lane p q = omega (
    arith,
    rings-take f workers lanes k model model' lane p q,
    total-append f (down_in l.down z.inlet) (downs_in workers lanes),
    total-append f (down_in l.down z.inlet) (downs_in (slice_set workers k model') lanes),
  )

  module _ (k : ℕ) (ticket : Ticket) (told : Told) (s s' : System C J) (w : WorldModel) (h : IsShadow s w) (fits : Fitting s.workers (length s.carrier.lanes) w.workers (downs_of s) w.commands)
      (on : WorkerStep s k (Took ticket told) s') where
    abbrev pair : Pair
    pair = (ticket, told)

    abbrev model : WorkerModel C J
    model = on.old

    abbrev model' : WorkerModel C J
    model' = on.new

    abbrev lane : LaneEnds (Newcomer C J)
    lane = on.lane

    inlet : (outlet : Outlet Pair) → lane.down ≡ Some outlet → down_in lane.down model.inlet ≡ pair ∷ down_in lane.down model'.inlet
    inlet outlet e = ap (λ o. down_in o model.inlet) e ∙ between-take outlet model.inlet model'.inlet pair (on.in_step outlet e) on.does.0 ∙ sym (ap (λ o. pair ∷ down_in o model'.inlet) e)

    first : down_in lane.down model.inlet ≡ pair ∷ down_in lane.down model'.inlet
    first = let o = outlet-of lane.down (h.unfinished k lane on.beside) in inlet o.0 o.1

    abbrev s2 : System C J
    s2 = record s { workers = slice_set s.workers k model' }

    more : OneMore (downs_of s2) pair (downs_of s)
    more f = omega (
      arith,
      total-append f (downs_in s.workers s.carrier.lanes ++ refusals s.carrier.pending_runs) (debts s.carrier.backends),
      total-append f (downs_in s.workers s.carrier.lanes) (refusals s.carrier.pending_runs),
      total-append f (downs_in (slice_set s.workers k model') s.carrier.lanes ++ refusals s.carrier.pending_runs) (debts s.carrier.backends),
      total-append f (downs_in (slice_set s.workers k model') s.carrier.lanes) (refusals s.carrier.pending_runs),
      rings-take f s.workers s.carrier.lanes k model model' lane on.at on.beside,
      ap (total f) first,
    )

    place : (i : ℕ) × (slice_get (downs_of s) i ≡ Some pair)
    place = more-has (downs_of s2) (downs_of s) pair more

    for-worker : ticket.worker ≡ k
    for-worker = subst (All (λ (p : Pair). p.0.worker ≡ k)) first (h.to_worker k model lane on.at on.beside) 0 pair (omega arith)

    awaited : (d : CommandModel) × Holds s.workers ticket d × (d.stage ≡ Awaits)
    awaited = fits.awaited place.0 pair place.1

    -- its client is here
    here : HasPosted model ticket awaited.0
    here =
        let x = awaited.1 in
        let there = fits.clients x.0 x.1 ticket.client x.3.0 x.2 x.3.1 in
        let out = ((there.1).commands).posted ticket.part awaited.0 x.3.2 in
        let mine : x.0 ≡ k = sym (ap (λ (u : Ticket). u.worker) (sym x.3.3) ∙ out.1.3 ∙ (there.1).housed) ∙ for-worker in
        let one : x.1 ≡ model = one-item s.workers k x.1 model (ap (slice_get s.workers) (sym mine) ∙ x.2) on.at in
        subst (λ (m : WorkerModel C J). HasPosted m ticket awaited.0) one x.3

    abbrev client : ClientModel C
    client = here.0

    abbrev client' : ClientModel C
    client' = record client { commands = told_commands client.commands ticket.part awaited.0 told }

    put : model'.clients ≡ insert model.clients ticket.client client'
    put = go on.does.1.0 on.does.1.1
      where
        go : (heard : Bool) → Tells model.clients ticket told heard model'.clients → model'.clients ≡ insert model.clients ticket.client client'
        go true x =
            let same : x.0 ≡ client = one-of (get model.clients ticket.client) x.0 client x.2 here.1 in
            let c : CommandModel = x.3.0 in
            let one : c ≡ awaited.0 = one-of (get client.commands.posted ticket.part) c awaited.0 (ap (λ (y : ClientModel C). get y.commands.posted ticket.part) (sym same) ∙ x.3.1.0) here.2 in
            let now : x.1 ≡ client' = x.4 ∙ (λ i. record x.0 { commands = x.3.2 i }) ∙ (λ i. record (same i) { commands = told_commands (same i).commands ticket.part (one i) told }) in
            x.5 ∙ ap (insert model.clients ticket.client) now
        go false x = absurd (x.0 client here.1 (awaited.0, (here.2, here.3, awaited.2)))

    home : ticket.client % w.workers ≡ k
    home = (fits.clients k model ticket.client client on.at here.1).0

    not-told : (t : Ticket) → 0 < total (λ (p : Pair). is t p.0) (downs_of s2) → t ≡ ticket → ⊥
    not-told t lt same =
        let none : total (λ (p : Pair). is ticket p.0) (downs_of s2) ≡ 0 = gone-now (downs_of s) (downs_of s2) ticket told more fits.once in
        let zero' : total (λ (p : Pair). is t p.0) (downs_of s2) ≡ 0 = subst (λ (u : Ticket). total (λ (p : Pair). is u p.0) (downs_of s2) ≡ 0) (sym same) none in
        omega (arith, zero', lt)

    -- of one client and one part there is one command
    same-one : {t : Ticket} (c : CommandModel) → get client.commands.posted t.part ≡ Some c → t.part ≡ ticket.part → c.ticket ≡ t → t ≡ ticket
    same-one {t} c e p is-its =
        let one : c ≡ awaited.0 = one-of (get client.commands.posted ticket.part) c awaited.0 (ap (get client.commands.posted) (sym p) ∙ e) here.2 in
        sym is-its ∙ ap (λ (d : CommandModel). d.ticket) one ∙ here.3

    held : (t : Ticket) (c : CommandModel) → (t ≡ ticket → ⊥) → Holds s.workers t c → Holds (slice_set s.workers k model') t c
    held t c ne x = held-in s.workers k model model' t c on.at (λ y.
        let r = put-holds model.clients ticket.client client client' t c here.1
        (λ e same. put-other client.commands.posted ticket.part t.part (progress_told awaited.0 told) (λ p. ne (same-one c e p (y.3))) ∙ e) y in
        (r.0, ap (λ m. get m t.client) put ∙ r.1, r.2, r.3)) x

    fits' : Fitting (slice_set s.workers k model') (length s.carrier.lanes) w.workers (downs_of s2) w.commands
    fits' = record {
      sides = set-size s.workers k model' ∙ fits.sides;
      own = fits.own;
      within = λ i p e. let x = more-keeps (downs_of s2) (downs_of s) pair more i p e in fits.within x.0 p x.1;
      clients = λ j f n x p q. ⊎_elim
          (λ (z : (j ≡ k) × (f ≡ model')). ⊎_elim
          (λ (y : (n ≡ ticket.client) × (x ≡ client')). (
            ap (λ m. m % w.workers) y.0 ∙ home ∙ sym z.0,
            subst (λ m. ClientShadow (downs_of s2) m n x w.commands) (sym z.0) (subst (λ m. ClientShadow (downs_of s2) k m x w.commands) (sym y.0) (subst (λ (c : ClientModel C). ClientShadow (downs_of s2) k ticket.client c w.commands) (sym y.1)
                (told-now (downs_of s) (downs_of s2) ticket told more fits.once k client w.commands awaited.0 here.2 here.3 (fits.clients k model ticket.client client on.at here.1).1))),
          ))
          (λ (y : (n ≢ ticket.client) × (get model.clients n ≡ Some x)).
          let t = fits.clients j model n x (ap (slice_get s.workers) z.0 ∙ on.at) y.1 in
          (t.0, less-client (downs_of s) (downs_of s2) ticket told more fits.once j n x w.commands y.0 t.1))
          (put-apart model.clients ticket.client client' n x (sym (ap (λ m. get m n) put) ∙ ap (λ (m : WorkerModel C J). get m.clients n) (sym z.1) ∙ q)))
          (λ (z : (j ≢ k) × (slice_get s.workers j ≡ Some f)).
          let t = fits.clients j f n x z.1 q in
          (t.0, less-client (downs_of s) (downs_of s2) ticket told more fits.once j n x w.commands (λ e. z.0 (sym t.0 ∙ ap (λ m. m % w.workers) e ∙ home)) t.1))
          (at-set s.workers k model' j f p);
      unseen = λ j f n p e above. ⊎_elim
          (λ (z : (j ≡ k) × (f ≡ model')).
          let none = fits.unseen j model n (ap (slice_get s.workers) z.0 ∙ on.at) e (subst (λ o. IsAbove o n) (ap (λ (x : WorkerModel C J). x.newest) z.1 ∙ ap (λ (x : WorkerModel C J). x.newest) on.does.2) above) in
          (none.0, ap (λ (m : WorkerModel C J). get m.clients n) z.1 ∙ ap (λ m. get m n) put ∙ put-none model.clients ticket.client client client' here.1 n none.1))
          (λ (z : (j ≢ k) × (slice_get s.workers j ≡ Some f)). fits.unseen j f n z.1 e above)
          (at-set s.workers k model' j f p);
      once = λ t. omega (arith, fits.once t, more (λ (p : Pair). is t p.0));
      awaited = λ i p e.
          let x = more-keeps (downs_of s2) (downs_of s) pair more i p e in
          let a = fits.awaited x.0 p x.1 in
          (a.0, held p.0 a.0 (not-told p.0 (omega (arith, total-one (λ (q : Pair). is p.0 q.0) (downs_of s2) i p e, is-refl p.0))) a.1, a.2);
      waiting = λ j c e awaits.
          let none = none-down s.workers (length s.carrier.lanes) w.workers (downs_of s) w.commands fits j c e awaits in
          held c.command.ticket c.command (λ same.
          let at : slice_get (downs_of s) place.0 ≡ Some (c.command.ticket, told) = place.1 ∙ ap (λ u. Some (u, told)) (sym same) in
          omega (arith, none, total-one (λ (q : Pair). is c.command.ticket q.0) (downs_of s) place.0 (c.command.ticket, told) at, is-refl c.command.ticket)) (fits.waiting j c e awaits);
      asking = asks-still s.workers (length s.carrier.lanes) w.workers (downs_of s) w.commands fits k ticket.client model model' client client' on.at here.1 put (λ part d e. ⊎_elim
          (λ (z : ((part == ticket.part) ≡ true) × (part ≡ ticket.part)).
          let one : d ≡ awaited.0 = one-of (get client.commands.posted ticket.part) d awaited.0 (ap (get client.commands.posted) (sym z.1) ∙ e) here.2 in
          inl (progress_told awaited.0 told, ap (get client'.commands.posted) z.1 ∙ put-same client.commands.posted ticket.part (progress_told awaited.0 told), ap (λ (u : CommandModel). u.ticket) (sym one)))
          (λ (z : ((part == ticket.part) ≡ false) × (part ≢ ticket.part)). inl (d, put-other client.commands.posted ticket.part part (progress_told awaited.0 told) z.1 ∙ e, refl))
          (eqb_tells part ticket.part));
    }

    pub takes : IsShadow s2 w
    takes = worker-frame s w h k model model' on.at (ap seat_of on.does.2) (ap (λ (x : WorkerModel C J). posted x.outlet) on.does.2)
        (λ l q.
        let same : lane ≡ l = one-item s.carrier.lanes k lane l on.beside q in
        subst (λ (x : LaneEnds (Newcomer C J)). DownFits k model' x) same (on.in_step, tails first (h.to_worker k model lane on.at on.beside), h.unfinished k lane on.beside))
        fits'
      where
        tails : down_in lane.down model.inlet ≡ pair ∷ down_in lane.down model'.inlet → All (λ (p : Pair). p.0.worker ≡ k) (down_in lane.down model.inlet) → All (λ (p : Pair). p.0.worker ≡ k) (down_in lane.down model'.inlet)
        tails e all i d lt = subst (All (λ (p : Pair). p.0.worker ≡ k)) e all (suc i) d (omega (arith, lt))

module _ (C J : Type 0) where
  pub took : (k : ℕ) (ticket : Ticket) (told : Told) → Simulates C J (AtWorker k (Took ticket told))
  took k ticket told s s' w h walked on =
      unseen-step k (Took ticket told) s s' w on on.seen (takes k ticket told s s' w h (fitting s w (walked-stands w walked) h) on)
