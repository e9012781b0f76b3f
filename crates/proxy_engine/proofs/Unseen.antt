-- What a worker does whose ends know more, one does whose ends know less.
use Rattle.std.proofs.Common.{◌≡◌, ◌⊎◌, ◌≤◌, ◌-◌, ◌^◌, List, [], ◌∷◌, ◌++◌, Option, Some, None, Result, Ok, Err, refl, sym, ap, ◌∙◌, subst, arith, length}
use Rattle.std.specs.FinMap.{insert}
use mathlib.Core.List.{IsPrefix}
use Rattle.rtrb.specs.Ring.{SameConsumer, SameProducer}
use Rattle.key_split.specs.Runs.{RunModel}
use Rattle.proxy_lanes.specs.View.{ViewModel}
use Rattle.proxy_lanes.specs.declared.ring.Outlet.{Outlet}
use Rattle.proxy_lanes.specs.declared.ring.Inlet.{Inlet}
use Rattle.proxy_lanes.specs.Lane.{Posts, Takes, free_places, held, numbered, posted, taken}
use Rattle.proxy_turns.specs.declared.newcomer.Newcomer.{Newcomer}
use Rattle.proxy_turns.specs.Port.{Moves}
use Rattle.proxy_turns.specs.ClientModel.{ClientModel, new_client}
use Rattle.proxy_turns.specs.ClientTurn.{ClientContext, ClientDoes, ClientEvent, Pulled, Fed, Read, HandedOut, Followed, Looked, CameBack, Posted, Drained, Pushed, Tried, Parted, Dropped}
use Rattle.proxy_turns.specs.WorkerModel.{WorkerModel, WorkerEvent, Did, Finished, Took, FoundNone, Came, TurnedAway, FoundNobody, Left, WorkerDoes, one_more, with_port}
use Rattle.resp_wire.specs.LimitsModel.{full}
use Rattle.key_split.specs.declared.travel.Ticket.{Ticket}
use Rattle.key_split.specs.declared.travel.Told.{Told}
use Rattle.proxy_engine.specs.Unseen.{KnowsItems, KnowsPlaces, WorkerDoesUnseen, WorkerKnows}
use Rattle.proxy_engine.proofs.Ends.{front-after, front-itself}

-- a front of nothing is nothing
front-of-none : {X : Type 0} (xs ys : List X) → IsPrefix xs ys → ys ≡ [] → xs ≡ []
front-of-none [] ys p e = refl
front-of-none (x ∷ xs) ys p e = let some : x ∷ (xs ++ p.0) ≡ [] = p.1 ∙ e in absurd (omega (arith, ap length some))

module _ {T : Type 0} where
  pub places-themselves : (outlet : Outlet T) → KnowsPlaces outlet outlet
  places-themselves outlet = (((refl, refl, refl, refl), refl), refl)

  pub items-themselves : (inlet : Inlet T) → KnowsItems inlet inlet
  items-themselves inlet = (((refl, refl, refl, refl), refl), refl, front-itself (held inlet))

  pub producers-after : (a b c : Outlet T) → SameProducer a.producer b.producer → SameProducer b.producer c.producer → SameProducer a.producer c.producer
  producers-after a b c p q = ((q.0.0 ∙ p.0.0, q.0.1 ∙ p.0.1, q.0.2 ∙ p.0.2, q.0.3 ∙ p.0.3), q.1 ∙ p.1)

  pub consumers-after : (a b c : Inlet T) → SameConsumer a.consumer b.consumer → SameConsumer b.consumer c.consumer → SameConsumer a.consumer c.consumer
  consumers-after a b c p q = ((q.0.0 ∙ p.0.0, q.0.1 ∙ p.0.1, q.0.2 ∙ p.0.2, q.0.3 ∙ p.0.3), q.1 ∙ p.1)

  pub posts-unseen : (less old new : Outlet T) (x : T) (given : Result (Unit {0}) T) → KnowsPlaces less old → Posts old new x given → Posts less new x given
  posts-unseen less old new x (Ok u) k p = (producers-after less old new k.0 p.0, subst (λ xs. posted new ≡ xs ++ numbered (length xs) x ∷ []) k.1 p.1)
  posts-unseen less old new x (Err back) k p = (
    producers-after less old new k.0 p.0,
    p.1,
    p.2 ∙ k.1,
    subst (λ xs. 1024 ≤ length xs) k.1 p.3,
    subst (λ xs. (free_places new ≡ 0) ⊎ (length xs ≡ 2 ^ 64 - 1)) k.1 p.4,
  )

  pub takes-unseen : (less old new : Inlet T) (x : Option T) → KnowsItems less old → Takes old new x → Takes less new x
  takes-unseen less old new None k t = (consumers-after less old new k.0 t.0, front-of-none (held less) (held old) k.2 t.1, t.2, t.3 ∙ k.1)
  takes-unseen less old new (Some x) k t = (
    consumers-after less old new k.0 t.0,
    subst (λ xs. taken new ≡ xs ++ numbered (length xs) x ∷ []) k.1 t.1,
    subst (λ xs. IsPrefix (held less) (numbered (length xs) x ∷ held new)) k.1 (front-after (held less) (held old) (numbered (length (taken old)) x ∷ held new) k.2 t.2),
  )

-- ---- a client

module _ {C : Type 0} (moves : Moves C) where
  abbrev ClientUnseen : ClientModel C → Outlet RunModel → ViewModel → ClientEvent → ClientContext C → Type 0
  ClientUnseen client less view event new =
      (outlet : Outlet RunModel) × ClientDoes moves (record { client = client; outlet = less; view = view }) event (record new { outlet = outlet }) × KnowsPlaces outlet new.outlet

  -- the outlet is where it was
  stays : (less more : Outlet RunModel) (new mid : ClientContext C) → KnowsPlaces less more → new ≡ mid → mid.outlet ≡ more → KnowsPlaces less new.outlet
  stays less more new mid k e same = subst (λ o. KnowsPlaces less o) (sym (ap (λ (c : ClientContext C). c.outlet) e ∙ same)) k

  with_outlet : (outlet : Outlet RunModel) (a b : ClientContext C) → a ≡ b → record a { outlet = outlet } ≡ record b { outlet = outlet }
  with_outlet outlet a b e = ap (λ (c : ClientContext C). record c { outlet = outlet }) e

  client-unseen : (event : ClientEvent) (client : ClientModel C) (less more : Outlet RunModel) (view : ViewModel) (new : ClientContext C) → KnowsPlaces less more
      → ClientDoes moves (record { client = client; outlet = more; view = view }) event new → ClientUnseen client less view event new
  client-unseen (Pulled bytes) client less more view new k d = (less, (d.0, with_outlet less _ _ d.1), stays less more new _ k d.1 refl)
  client-unseen (Fed result) client less more view new k d = (less, (d.0, with_outlet less _ _ d.1), stays less more new _ k d.1 refl)
  client-unseen (Read result) client less more view new k d = (less, (d.0, with_outlet less _ _ d.1), stays less more new _ k d.1 refl)
  client-unseen (HandedOut ticket part) client less more view new k d = (less, (d.0, d.1, d.2, with_outlet less _ _ d.3), stays less more new _ k d.3 refl)
  client-unseen (Followed ticket part) client less more view new k d = (less, (d.0, d.1, with_outlet less _ _ d.2), stays less more new _ k d.2 refl)
  client-unseen (Looked slot) client less more view new k d = (less, (d.0, with_outlet less _ _ d.1), stays less more new _ k d.1 refl)
  client-unseen (CameBack run) client less more view new k d = (new.outlet, (posts-unseen less more new.outlet run (Err run) k d.0, d.1), places-themselves new.outlet)
  client-unseen (Posted run) client less more view new k d =
      (new.outlet, (d.0, d.1, d.2, d.3, d.4, d.5, d.6, d.7, d.8, d.9, d.10, posts-unseen less more new.outlet run (Ok tt) k d.11, d.12), places-themselves new.outlet)
  client-unseen (Drained n) client less more view new k d = (less, (d.0, d.1, with_outlet less _ _ d.2), stays less more new _ k d.2 refl)
  client-unseen (Pushed bytes) client less more view new k d = (less, (d.0, d.1, with_outlet less _ _ d.2), stays less more new _ k d.2 refl)
  client-unseen Tried client less more view new k d = (less, (d.0, with_outlet less _ _ d.1), stays less more new _ k d.1 refl)
  client-unseen Parted client less more view new k d = (less, (d.0, d.1, d.2, with_outlet less _ _ d.3), stays less more new _ k d.3 refl)
  client-unseen (Dropped tickets) client less more view new k d = (less, (d.0, d.1, d.2, with_outlet less _ _ d.3), stays less more new _ k d.3 refl)

-- ---- a worker

module _ {C J : Type 0} (moves : Moves C) where
  abbrev Unseen : WorkerModel C J → WorkerEvent → WorkerModel C J → Type 0
  Unseen less event new = (after : WorkerModel C J) × WorkerDoes moves less event after × WorkerKnows after new

  ends-know : (less : WorkerModel C J) (o : Outlet RunModel) (i : Inlet (Ticket × Told)) (n : Inlet (Newcomer C J)) (event : WorkerEvent) (new : WorkerModel C J) → KnowsPlaces less.outlet o → KnowsItems less.inlet i → KnowsItems less.newcomers n
      → WorkerDoes moves (record less { outlet = o; inlet = i; newcomers = n }) event new → Unseen less event new
  ends-know less o i n (Did number event) new kp ki kn d =
      let c = client-unseen moves event d.0 less.outlet o less.view (record { client = d.1; outlet = new.outlet; view = new.view }) kp d.3 in
      let after : WorkerModel C J = record less { clients = insert less.clients number d.1; outlet = c.0; view = new.view } in
      (after, (d.0, d.1, d.2, c.1, refl), subst (λ (w : WorkerModel C J). WorkerKnows after w) (sym d.4) (c.2, ki, kn, refl))
  ends-know less o i n (Finished number ticket end) new kp ki kn d =
      let after : WorkerModel C J = record less { clients = insert less.clients number d.1; answered = one_more less.answered } in
      (after, (d.0, d.1, d.2, d.3, refl), subst (λ (w : WorkerModel C J). WorkerKnows after w) (sym d.4) (kp, ki, kn, refl))
  ends-know less o i n (Took ticket told) new kp ki kn d =
      let after : WorkerModel C J = record less { clients = new.clients; inlet = new.inlet } in
      (after, (takes-unseen less.inlet i new.inlet (Some (ticket, told)) ki d.0, d.1, refl), subst (λ (w : WorkerModel C J). WorkerKnows after w) (sym d.2) (kp, items-themselves new.inlet, kn, refl))
  ends-know less o i n FoundNone new kp ki kn d =
      let after : WorkerModel C J = record less { inlet = new.inlet } in
      (after, (takes-unseen less.inlet i new.inlet None ki d.0, refl), subst (λ (w : WorkerModel C J). WorkerKnows after w) (sym d.1) (kp, items-themselves new.inlet, kn, refl))
  ends-know less o i n (Came number) new kp ki kn d =
      let after : WorkerModel C J = record less { clients = insert less.clients number (new_client less.worker number full d.0.port); newest = Some number; newcomers = new.newcomers; left = new.left; view = new.view } in
      (after, (d.0, takes-unseen less.newcomers n new.newcomers (Some d.0) kn d.1, d.2, d.3, d.4, d.5, refl), subst (λ (w : WorkerModel C J). WorkerKnows after w) (sym d.6) (kp, ki, items-themselves new.newcomers, refl))
  ends-know less o i n (TurnedAway number) new kp ki kn d =
      let after : WorkerModel C J = record less { newcomers = new.newcomers; left = new.left; view = new.view; ports = with_port less.left less.ports d.1 } in
      (after, (d.0, d.1, takes-unseen less.newcomers n new.newcomers (Some d.0) kn d.2, d.3, d.4, d.5, d.6, d.7, refl), subst (λ (w : WorkerModel C J). WorkerKnows after w) (sym d.8) (kp, ki, items-themselves new.newcomers, refl))
  ends-know less o i n FoundNobody new kp ki kn d =
      let after : WorkerModel C J = record less { newcomers = new.newcomers } in
      (after, (takes-unseen less.newcomers n new.newcomers None kn d.0, refl), subst (λ (w : WorkerModel C J). WorkerKnows after w) (sym d.1) (kp, ki, items-themselves new.newcomers, refl))
  ends-know less o i n (Left number) new kp ki kn d =
      let after : WorkerModel C J = record less { clients = new.clients; ports = with_port less.left less.ports d.1 } in
      (after, (d.0, d.1, d.2, d.3, refl), subst (λ (w : WorkerModel C J). WorkerKnows after w) (sym d.4) (kp, ki, kn, refl))

  pub worker-unseen : WorkerDoesUnseen C J moves
  worker-unseen less old new event k d = ends-know less old.outlet old.inlet old.newcomers event new k.0 k.1 k.2 (subst (λ (w : WorkerModel C J). WorkerDoes moves w event new) k.3 d)
