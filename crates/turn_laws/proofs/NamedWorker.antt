-- What a worker's commands want are nodes of the cluster, after each of its events; so a run goes to a node that there is.
use Rattle.std.proofs.Common.{◌≡◌, ◌≢◌, ⊎_elim, ℕ, ◌+◌, ◌==◌, Bool, true, false, if◌then◌else◌, List, [], ◌∷◌, Some, None, cond, sym, ap, ◌∙◌, subst}
use Rattle.std.specs.Prelude.{Option, All, IsSome}
use Rattle.std.specs.FinMap.{FinMap, get, insert, remove, empty, get-empty, get-remove}
use Rattle.std.specs.Ordering.{nat_cmp, eq_by_cmp}
use Rattle.std.specs.Cmp.{nat_cmp_total}
use Rattle.std.proofs.lemmas.List.Elements.{All-head, All-tail}
use Rattle.key_split.specs.declared.travel.Ticket.{Ticket}
use Rattle.key_split.specs.declared.travel.Told.{Told}
use Rattle.key_split.specs.declared.travel.Told.TheVariants.{Reply, Moved, Ask, TryAgain, ClusterDown, Unclear, Lost, Unsent}
use Rattle.key_split.specs.declared.travel.Ended.{Ended}
use Rattle.command_future.specs.CommandModel.{CommandModel, IsFresh, progress_told, refused_at}
use Rattle.command_future.specs.declared.stage.Stage.{Stage}
use Rattle.command_future.specs.declared.stage.Stage.TheVariants.{Wants, WantsAsking, Over}
use Rattle.proxy_lanes.specs.Lane.{Takes}
use Rattle.proxy_lanes.specs.declared.ring.Inlet.{Inlet}
use Rattle.proxy_lanes.specs.declared.ring.Outlet.{Outlet}
use Rattle.proxy_lanes.specs.declared.ends.lane_ends.LaneEnds.{LaneEnds}
use Rattle.proxy_turns.specs.declared.newcomer.Newcomer.{Newcomer}
use Rattle.proxy_turns.specs.Port.{Moves}
use Rattle.proxy_turns.specs.Commands.{CommandsModel, TakesRun, awaiting, with_posted}
use Rattle.proxy_turns.specs.ClientModel.{ClientModel}
use Rattle.proxy_turns.specs.ClientTurn.{ClientContext, ClientEvent, ClientDoes, Pulled, Fed, Read, HandedOut, Followed, Looked, CameBack, Posted, Drained, Pushed, Tried, Parted, Dropped}
use Rattle.proxy_turns.specs.WorkerModel.{WorkerModel, WorkerEvent, WorkerDoes, Tells, Did, Finished, Took, FoundNone, Came, TurnedAway, FoundNobody, Left}
use Rattle.turn_laws.specs.Underway.{DownInStep, down_in}
use Rattle.turn_laws.specs.Naming.{SaysOneOf, WantsOneOf}
use Rattle.turn_laws.proofs.Downs.{Pair}
use Rattle.turn_laws.proofs.Lanes.{between-take, between-none}
use Rattle.turn_laws.proofs.Tables.{put-apart}
use Rattle.turn_laws.proofs.RunsLead.{Table, ClientsWant, PostedWant}
use Rattle.turn_laws.proofs.Took.{outlet-of}
use Rattle.turn_laws.proofs.NamedCarrier.{AllSay}

none-some : (o : Option CommandModel) (c : CommandModel) → o ≡ None → o ≡ Some c → ⊥
none-some o c e f = cc

-- ---- a client

-- what is left stood there
still-there : {X : Type 0} (m : FinMap nat_cmp X) (k q : ℕ) (x : X) → get (remove m k) q ≡ Some x → get m q ≡ Some x
still-there {X} m k q x e = go (eq_by_cmp nat_cmp q k) (sym (get-remove nat_cmp_total m k q) ∙ e)
  where
    go : (b : Bool) → cond b None (get m q) ≡ Some x → get m q ≡ Some x
    go true f = absurd (cc)
    go false f = f

put-wants : (n : ℕ) (posted : Table) (part : ℕ) (c : CommandModel) → WantsOneOf n c.stage → PostedWant n posted → PostedWant n (insert posted part c)
put-wants n posted part c one h q d e = ⊎_elim
    (λ (z : (q ≡ part) × (d ≡ c)). subst (λ (x : CommandModel). WantsOneOf n x.stage) (sym z.1) one)
    (λ (z : (q ≢ part) × (get posted q ≡ Some d)). h q d z.1)
    (put-apart posted part c q d e)

removed-wants : (n : ℕ) (posted : Table) (part : ℕ) → PostedWant n posted → PostedWant n (remove posted part)
removed-wants n posted part h q c e = h q c (still-there posted part q c e)

run-wants : (n : ℕ) (posted : Table) (cs : List CommandModel) → PostedWant n posted → PostedWant n (with_posted posted cs)
run-wants n posted [] h = h
run-wants n posted (c ∷ cs) h = run-wants n (insert posted c.ticket.part (awaiting c)) cs (put-wants n posted c.ticket.part (awaiting c) tt h)

left-posted : (old rest : CommandsModel) (first : CommandModel) (later : List CommandModel) → TakesRun old first later rest → rest.posted ≡ old.posted
left-posted old rest first later t = ⊎_elim
    (λ (x : (old.fresh ≡ first ∷ later) × All IsFresh (first ∷ later) × (rest ≡ record old { fresh = [] })). ap (λ (m : CommandsModel). m.posted) x.2)
    (λ (x : (get old.posted first.ticket.part ≡ Some first) × (later ≡ []) × (rest ≡ old)). ap (λ (m : CommandsModel). m.posted) x.2)
    t

module _ {C : Type 0} (moves : Moves C) (n : ℕ) (old new : ClientContext C) (h : PostedWant n old.client.commands.posted) where
  still : new.client.commands.posted ≡ old.client.commands.posted → PostedWant n new.client.commands.posted
  still e = subst (PostedWant n) (sym e) h

  client-wants : (event : ClientEvent) → ClientDoes moves old event new → PostedWant n new.client.commands.posted
  client-wants (Pulled bytes) d = still (ap (λ (c : ClientContext C). c.client.commands.posted) d.1)
  client-wants (Fed result) d = still (ap (λ (c : ClientContext C). c.client.commands.posted) d.1)
  client-wants (Read result) d = still (ap (λ (c : ClientContext C). c.client.commands.posted) d.1)
  client-wants (HandedOut ticket part) d = still (ap (λ (c : ClientContext C). c.client.commands.posted) d.3)
  client-wants (Followed ticket part) d = still (ap (λ (c : ClientContext C). c.client.commands.posted) d.2)
  client-wants (Looked slot) d = still (ap (λ (c : ClientContext C). c.client.commands.posted) d.1)
  client-wants (CameBack run) d = still (ap (λ (c : ClientContext C). c.client.commands.posted) d.1)
  client-wants (Posted run) d =
      subst (PostedWant n) (sym (ap (λ (c : ClientContext C). c.client.commands.posted) d.12))
      (run-wants n (d.2).posted (d.0 ∷ d.1) (subst (PostedWant n) (sym (left-posted old.client.commands d.2 d.0 d.1 d.3)) h))
  client-wants (Drained m) d = still (ap (λ (c : ClientContext C). c.client.commands.posted) d.2)
  client-wants (Pushed bytes) d = still (ap (λ (c : ClientContext C). c.client.commands.posted) d.2)
  client-wants Tried d = still (ap (λ (c : ClientContext C). c.client.commands.posted) d.1)
  client-wants Parted d = still (ap (λ (c : ClientContext C). c.client.commands.posted) d.3)
  client-wants (Dropped tickets) d = still (ap (λ (c : ClientContext C). c.client.commands.posted) d.3)

-- ---- what a command is told

abbrev refused-by : ℕ → Stage → Bool → ℕ × Stage
refused-by followed next b = if b then (followed, Over Ended.GaveUp) else (followed + 1, next)

refused-wants : (n followed : ℕ) (next : Stage) → WantsOneOf n next → WantsOneOf n (refused_at followed next).1
refused-wants n followed next h = go (followed == 16)
  where
    go : (b : Bool) → WantsOneOf n (refused-by followed next b).1
    go true = tt
    go false = h

told-wants : (n : ℕ) (c : CommandModel) (told : Told) → SaysOneOf n told → WantsOneOf n (progress_told c told).stage
told-wants n c (Reply v) h = tt
told-wants n c Lost h = tt
told-wants n c (Moved slot m) h = refused-wants n c.followed (Wants (Some m)) h
told-wants n c (Ask slot m) h = refused-wants n c.followed (WantsAsking m) h
told-wants n c TryAgain h = refused-wants n c.followed (Wants None) tt
told-wants n c ClusterDown h = refused-wants n c.followed (Wants None) tt
told-wants n c Unclear h = refused-wants n c.followed (Wants None) tt
told-wants n c Unsent h = refused-wants n c.followed (Wants None) tt

-- ---- the clients

module _ {C : Type 0} (n : ℕ) (clients : FinMap nat_cmp (ClientModel C)) (h : ClientsWant n clients) where
  put-client : (number : ℕ) (client : ClientModel C) → PostedWant n client.commands.posted → ClientsWant n (insert clients number client)
  put-client number client one q x e = ⊎_elim
      (λ (z : (q ≡ number) × (x ≡ client)). subst (λ (y : ClientModel C). PostedWant n y.commands.posted) (sym z.1) one)
      (λ (z : (q ≢ number) × (get clients q ≡ Some x)). h q x z.1)
      (put-apart clients number client q x e)

  without-client : (number : ℕ) → ClientsWant n (remove clients number)
  without-client number q x e = h q x (still-there clients number q x e)

  tells-wants : (ticket : Ticket) (told : Told) (heard : Bool) (new : FinMap nat_cmp (ClientModel C)) → SaysOneOf n told → Tells clients ticket told heard new → ClientsWant n new
  tells-wants ticket told true new says t =
      let c : CommandModel = t.3.0 in
      let commands : (t.1).commands.posted ≡ insert (t.0).commands.posted ticket.part (progress_told c told) = ap (λ (m : CommandsModel). m.posted) t.3.2 in
      subst (ClientsWant n) (sym t.5)
      (put-client ticket.client t.1 (subst (PostedWant n) (sym commands) (put-wants n (t.0).commands.posted ticket.part (progress_told c told) (told-wants n c told says) (h ticket.client t.0 t.2))))
  tells-wants ticket told false new says t = subst (ClientsWant n) (sym t.1) h

-- ---- the worker

module _ {C J : Type 0} (moves : Moves C) (n : ℕ) (old new : WorkerModel C J) (lane : LaneEnds (Newcomer C J)) (steps : DownInStep lane new) (open' : IsSome lane.down) (h : ClientsWant n old.clients)
    (downs : AllSay n (down_in lane.down old.inlet)) where
  kept-clients : new.clients ≡ old.clients → ClientsWant n new.clients
  kept-clients e = subst (ClientsWant n) (sym e) h

  kept-downs : new.inlet ≡ old.inlet → AllSay n (down_in lane.down new.inlet)
  kept-downs e = subst (λ (i : Inlet Pair). AllSay n (down_in lane.down i)) (sym e) downs

  none-downs : (o : Option (Outlet Pair)) → AllSay n (down_in o old.inlet) → Takes old.inlet new.inlet None → AllSay n (down_in o new.inlet)
  none-downs None all t = all
  none-downs (Some outlet) all t = subst (AllSay n) (sym (between-none outlet old.inlet new.inlet t)) all

  -- a pair is taken
  one-down : (pair : Pair) → Takes old.inlet new.inlet (Some pair) → SaysOneOf n pair.1 × AllSay n (down_in lane.down new.inlet)
  one-down pair t =
      let o = outlet-of lane.down open' in
      let first : down_in lane.down old.inlet ≡ pair ∷ down_in lane.down new.inlet =
      ap (λ x. down_in x old.inlet) o.1 ∙ between-take o.0 old.inlet new.inlet pair (steps o.0 o.1) t ∙ sym (ap (λ x. pair ∷ down_in x new.inlet) o.1) in
      let all : AllSay n (pair ∷ down_in lane.down new.inlet) = subst (AllSay n) first downs in
      (All-head (λ (q : Pair). SaysOneOf n q.1) pair (down_in lane.down new.inlet) all, All-tail (λ (q : Pair). SaysOneOf n q.1) pair (down_in lane.down new.inlet) all)

  pub worker-wants : (event : WorkerEvent) → WorkerDoes moves old event new → ClientsWant n new.clients × AllSay n (down_in lane.down new.inlet)
  worker-wants (Did number event) d = (
    subst (ClientsWant n) (sym (ap (λ (m : WorkerModel C J). m.clients) d.4))
        (put-client n old.clients h number d.1 (client-wants moves n _ _ (h number d.0 d.2) event d.3)),
    kept-downs (ap (λ (m : WorkerModel C J). m.inlet) d.4),
  )
  worker-wants (Finished number ticket end) d = (
    subst (ClientsWant n) (sym (ap (λ (m : WorkerModel C J). m.clients) d.4))
        (put-client n old.clients h number d.1 (subst (PostedWant n) (sym (ap (λ (c : ClientModel C). c.commands.posted) d.3.3)) (removed-wants n (d.0).commands.posted ticket.part (h number d.0 d.2)))),
    kept-downs (ap (λ (m : WorkerModel C J). m.inlet) d.4),
  )
  worker-wants (Took ticket told) d = let one = one-down (ticket, told) d.0 in (tells-wants n old.clients h ticket told d.1.0 new.clients one.0 d.1.1, one.1)
  worker-wants FoundNone d = (kept-clients (ap (λ (m : WorkerModel C J). m.clients) d.1), none-downs lane.down downs d.0)
  worker-wants (Came number) d = (
    subst (ClientsWant n) (sym (ap (λ (m : WorkerModel C J). m.clients) d.6)) (put-client n old.clients h number _ (λ part c e. absurd (nobody part c e))),
    kept-downs (ap (λ (m : WorkerModel C J). m.inlet) d.6),
  )
    where
      nobody : (part : ℕ) (c : CommandModel) → get (empty {R = nat_cmp}) part ≡ Some c → ⊥
      nobody part c e = let none : get (empty {R = nat_cmp}) part ≡ None = get-empty nat_cmp part in none-some (get (empty {R = nat_cmp}) part) c none e
  worker-wants (TurnedAway number) d = (kept-clients (ap (λ (m : WorkerModel C J). m.clients) d.8), kept-downs (ap (λ (m : WorkerModel C J). m.inlet) d.8))
  worker-wants FoundNobody d = (kept-clients (ap (λ (m : WorkerModel C J). m.clients) d.1), kept-downs (ap (λ (m : WorkerModel C J). m.inlet) d.1))
  worker-wants (Left number) d = (
    subst (ClientsWant n) (sym (d.2).4) (without-client n old.clients h number),
    kept-downs (ap (λ (m : WorkerModel C J). m.inlet) d.4),
  )
