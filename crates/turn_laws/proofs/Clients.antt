-- One client of a worker goes on, and the machine does nothing.
use Rattle.std.proofs.Common.{◌≡◌, ◌≢◌, ⊎_elim, ℕ, ◌%◌, ◌==◌, Bool, true, false, List, [], ◌++◌, Some, None, refl, sym, ap, ◌∙◌, subst, length}
use Rattle.std.specs.Prelude.{slice_get, slice_set, IsSome, All, cond}
use Rattle.std.proofs.lemmas.List.{append-nil}
use Rattle.std.proofs.lemmas.Bool.Decides.{eqb_tells}
use Rattle.std.specs.FinMap.{FinMap, get, insert, get-insert}
use Rattle.std.specs.Ordering.{nat_cmp, eq_by_cmp}
use Rattle.std.specs.Cmp.{nat_cmp_total}
use Rattle.key_split.specs.declared.travel.Ticket.{Ticket}
use Rattle.command_future.specs.CommandModel.{CommandModel}
use Rattle.command_future.specs.declared.stage.Stage.TheVariants.{Awaits}
use Rattle.proxy_lanes.specs.declared.ends.lane_ends.LaneEnds.{LaneEnds}
use Rattle.proxy_lanes.specs.Lane.{posted}
use Rattle.proxy_turns.specs.declared.newcomer.Newcomer.{Newcomer}
use Rattle.proxy_turns.specs.ClientModel.{ClientModel}
use Rattle.proxy_turns.specs.WorkerModel.{WorkerModel, WorkerEvent, IsAbove}
use Rattle.world_laws.specs.State.{WorldModel}
use Rattle.world_laws.specs.declared.state.Arrival.{Arrival}
use Rattle.world_laws.specs.declared.event.Event.{Event}
use Rattle.world_laws.proofs.Nodes.{set-size}
use Rattle.world_laws.proofs.Recorded.{at-set, set-same, set-other}
use Rattle.turn_laws.specs.Walks.{Walk}
use Rattle.turn_laws.specs.System.{System, IsInStep, seat_of}
use Rattle.turn_laws.specs.Shadow.{IsShadow, ClientShadow, ListShadow}
use Rattle.turn_laws.specs.Underway.{HasPosted, Holds, downs_of, downs_in, down_in, ups_in}
use Rattle.turn_laws.specs.Steps.{WorkerStep}
use Rattle.turn_laws.proofs.Downs.{Pair}
use Rattle.turn_laws.proofs.Frames.{DownFits, down-fits}
use Rattle.turn_laws.proofs.Tables.{nat_eq_by}
use Rattle.turn_laws.proofs.AtWorkers.{put-cases, ups-out, rings-same}
use Rattle.turn_laws.proofs.Bags.{refusals, debts}
use Rattle.proxy_lanes.specs.declared.ring.Inlet.{Inlet}
use Rattle.proxy_lanes.specs.declared.ring.Outlet.{Outlet}
use Rattle.turn_laws.proofs.Told.{Fitting}
use Rattle.turn_laws.proofs.Holding.{StaysPosted, asks-still}

-- a client in its place: what was posted and awaits still does
pub put-holds : {C : Type 0} (m : FinMap nat_cmp (ClientModel C)) (number : ℕ) (client client' : ClientModel C) (t : Ticket) (c : CommandModel) → get m number ≡ Some client
    → (get client.commands.posted t.part ≡ Some c → t.client ≡ number → get client'.commands.posted t.part ≡ Some c)
    → ((x : ClientModel C) × (get m t.client ≡ Some x) × (get x.commands.posted t.part ≡ Some c) × (c.ticket ≡ t))
    → (x : ClientModel C) × (get (insert m number client') t.client ≡ Some x) × (get x.commands.posted t.part ≡ Some c) × (c.ticket ≡ t)
put-holds {C} m number client client' t c at keeps x = go (eq_by_cmp nat_cmp t.client number) refl
  where
    there : get (insert m number client') t.client ≡ cond (eq_by_cmp nat_cmp t.client number) (Some client') (get m t.client)
    there = get-insert nat_cmp_total m number client' t.client

    go : (b : Bool) → eq_by_cmp nat_cmp t.client number ≡ b → (x : ClientModel C) × (get (insert m number client') t.client ≡ Some x) × (get x.commands.posted t.part ≡ Some c) × (c.ticket ≡ t)
    go true e =
        let same : t.client ≡ number = nat_eq_by t.client number e in
        let one : Some x.0 ≡ Some client = sym x.1 ∙ ap (get m) same ∙ at in
        let it : x.0 ≡ client = cc in
        (client', there ∙ ap (λ b. cond b (Some client') (get m t.client)) e, keeps (ap (λ (y : ClientModel C). get y.commands.posted t.part) (sym it) ∙ x.2) same, x.3)
    go false e = (x.0, there ∙ ap (λ b. cond b (Some client') (get m t.client)) e ∙ x.1, x.2, x.3)

-- a number without a client still has none
pub put-none : {C : Type 0} (m : FinMap nat_cmp (ClientModel C)) (number : ℕ) (client client' : ClientModel C) → get m number ≡ Some client → (n : ℕ) → get m n ≡ None → get (insert m number client') n ≡ None
put-none {C} m number client client' at n none = go (eq_by_cmp nat_cmp n number) refl
  where
    go : (b : Bool) → eq_by_cmp nat_cmp n number ≡ b → get (insert m number client') n ≡ None
    go true e = let there : get m n ≡ Some client = ap (get m) (nat_eq_by n number e) ∙ at in absurd (cc)
    go false e = get-insert nat_cmp_total m number client' n ∙ ap (λ b. cond b (Some client') (get m n)) e ∙ none

module _ {C J : Type 0} where
  -- a step of one worker that posts nothing, and at which the machine does nothing
  pub worker-frame : (s : System C J) (w : WorldModel) → IsShadow s w → (k : ℕ) (model model' : WorkerModel C J) → slice_get s.workers k ≡ Some model
      → seat_of model' ≡ seat_of model → posted model'.outlet ≡ posted model.outlet
      → ((lane : LaneEnds (Newcomer C J)) → slice_get s.carrier.lanes k ≡ Some lane → DownFits k model' lane)
      → Fitting (slice_set s.workers k model') (length s.carrier.lanes) w.workers (downs_of (record s { workers = slice_set s.workers k model' })) w.commands
      → IsShadow (record s { workers = slice_set s.workers k model' }) w
  worker-frame s w h k model model' at worker posts steps fits = record {
    workers = set-size s.workers k model' ∙ h.workers;
    limit = h.limit;
    cluster = h.cluster;
    initial = h.initial;
    apart = h.apart;
    room = h.room;
    table = h.table;
    listed = h.listed;
    numbered = λ j f p. ⊎_elim
        (λ (z : (j ≡ k) × (f ≡ model')). ap seat_of z.1 ∙ worker ∙ h.numbered j model (here j z.0))
        (λ (z : (j ≢ k) × (slice_get s.workers j ≡ Some f)). h.numbered j f z.1)
        (at-set s.workers k model' j f p);
    sides = set-size s.workers k model' ∙ h.sides;
    seated = h.seated;
    up_steps = λ j f lane p q. ⊎_elim
        (λ (z : (j ≡ k) × (f ≡ model')). let step : IsInStep model.outlet lane.up = h.up_steps j model lane (here j z.0) q in
        subst (λ (x : WorkerModel C J). IsInStep x.outlet lane.up) (sym z.1) (step.0, step.1 ∙ sym posts))
        (λ (z : (j ≢ k) × (slice_get s.workers j ≡ Some f)). h.up_steps j f lane z.1 q)
        (at-set s.workers k model' j f p);
    down_steps = λ j f lane p q. (fit j f lane p q).0;
    unfinished = h.unfinished;
    within = fits.within;
    to_worker = λ j f lane p q. (fit j f lane p q).1;
    told = h.told;
    lanes = λ j f lane p q. ⊎_elim
        (λ (z : (j ≡ k) × (f ≡ model')).
        let was : ListShadow w j (ups_in model lane (slice_get s.carrier.pending_runs j)) = h.lanes j model lane (here j z.0) q in
        let now : ListShadow w j (ups_in f lane (slice_get s.carrier.pending_runs j)) = subst (ListShadow w j) (sym (ap (λ (x : WorkerModel C J). ups_in x lane (slice_get s.carrier.pending_runs j)) z.1 ∙ ups-out model model' lane posts (slice_get s.carrier.pending_runs j))) was in now)
        (λ (z : (j ≢ k) × (slice_get s.workers j ≡ Some f)). h.lanes j f lane z.1 q)
        (at-set s.workers k model' j f p);
    links = h.links;
    clients = fits.clients;
    unseen = fits.unseen;
    downs = fits.once;
    awaited = fits.awaited;
    waiting = fits.waiting;
    asking = fits.asking;
    log = h.log;
  }
    where
      here : (j : ℕ) → j ≡ k → slice_get s.workers j ≡ Some model
      here j e = ap (slice_get s.workers) e ∙ at

      fit : (j : ℕ) (f : WorkerModel C J) (lane : LaneEnds (Newcomer C J)) → slice_get (slice_set s.workers k model') j ≡ Some f → slice_get s.carrier.lanes j ≡ Some lane → DownFits j f lane
      fit j f lane p q = ⊎_elim
          (λ (z : (j ≡ k) × (f ≡ model')). subst (λ n. DownFits n f lane) (sym z.0) (subst (λ (x : WorkerModel C J). DownFits k x lane) (sym z.1) (steps lane (sym (ap (slice_get s.carrier.lanes) z.0) ∙ q))))
          (λ (z : (j ≢ k) × (slice_get s.workers j ≡ Some f)). down-fits s w h j f lane z.1 q)
          (at-set s.workers k model' j f p)

  -- nothing is seen of a step
  pub unseen-step : (k : ℕ) (event : WorkerEvent) (s s' : System C J) (w : WorldModel) → (on : WorkerStep s k event s') → on.marks ≡ []
      → IsShadow (record s { workers = slice_set s.workers k on.new }) w → (events : List Event) × (w' : WorldModel) × Walk w events w' × IsShadow s' w'
  unseen-step k event s s' w on silent x =
      let same : s.log ++ on.marks ≡ s.log = ap (λ ms. s.log ++ ms) silent ∙ append-nil s.log in
      let e : s' ≡ record s { workers = slice_set s.workers k on.new } = on.leaves ∙ (λ i. record s { workers = slice_set s.workers k on.new; log = same i }) in
      ([], w, refl, subst (λ y. IsShadow y w) (sym e) x)

  -- one worker in its place holds what it held
  pub held-in : (workers : List (WorkerModel C J)) (k : ℕ) (model model' : WorkerModel C J) (t : Ticket) (c : CommandModel) → slice_get workers k ≡ Some model
      → (HasPosted model t c → HasPosted model' t c) → Holds workers t c → Holds (slice_set workers k model') t c
  held-in workers k model model' t c at keeps x = ⊎_elim
      (λ (z : ((x.0 == k) ≡ true) × (x.0 ≡ k)).
      let one : Some x.1 ≡ Some model = sym x.2 ∙ ap (slice_get workers) z.1 ∙ at in
      let same : x.1 ≡ model = cc in
      (k, model', set-same workers k model model' at, keeps (subst (λ (m : WorkerModel C J). HasPosted m t c) same x.3)))
      (λ (z : ((x.0 == k) ≡ false) × (x.0 ≢ k)). (x.0, x.1, set-other workers k model' x.0 x.1 z.1 x.2, x.3))
      (eqb_tells x.0 k)

  -- One client goes on, with what is on its way down as it was.
  pub fitting-one : (workers : List (WorkerModel C J)) (lanes dealt : ℕ) (downs : List Pair) (commands : List Arrival) → Fitting workers lanes dealt downs commands
      → (k number : ℕ) (model model' : WorkerModel C J) (client client' : ClientModel C) → slice_get workers k ≡ Some model → get model.clients number ≡ Some client
      → model'.clients ≡ insert model.clients number client' → model'.newest ≡ model.newest
      → ClientShadow downs k number client' commands
      → ((part : ℕ) (c : CommandModel) → get client.commands.posted part ≡ Some c → c.stage ≡ Awaits → get client'.commands.posted part ≡ Some c)
      → StaysPosted client client'
      → Fitting (slice_set workers k model') lanes dealt downs commands
  fitting-one workers lanes dealt downs commands h k number model model' client client' at got put newest shadow keeps stays = record {
    sides = set-size workers k model' ∙ h.sides;
    own = h.own;
    within = h.within;
    clients = λ j f n x p q. ⊎_elim
        (λ (z : (j ≡ k) × (f ≡ model')). ⊎_elim
        (λ (y : (n ≡ number) × (x ≡ client')).
        let old = h.clients k model number client at got in
        (ap (λ m. m % dealt) y.0 ∙ old.0 ∙ sym z.0, subst (λ m. ClientShadow downs m n x commands) (sym z.0) (subst (λ m. ClientShadow downs k m x commands) (sym y.0) (subst (λ (c : ClientModel C). ClientShadow downs k number c commands) (sym y.1) shadow))))
        (λ (y : get model.clients n ≡ Some x). h.clients j model n x (here j z.0) y)
        (put-cases model.clients number client' n x (sym (ap (λ m. get m n) put) ∙ ap (λ (m : WorkerModel C J). get m.clients n) (sym z.1) ∙ q)))
        (λ (z : (j ≢ k) × (slice_get workers j ≡ Some f)). h.clients j f n x z.1 q)
        (at-set workers k model' j f p);
    unseen = λ j f n p e above. ⊎_elim
        (λ (z : (j ≡ k) × (f ≡ model')).
        let none = h.unseen j model n (here j z.0) e (subst (λ o. IsAbove o n) (ap (λ (x : WorkerModel C J). x.newest) z.1 ∙ newest) above) in
        (none.0, ap (λ (m : WorkerModel C J). get m.clients n) z.1 ∙ ap (λ m. get m n) put ∙ put-none model.clients number client client' got n none.1))
        (λ (z : (j ≢ k) × (slice_get workers j ≡ Some f)). h.unseen j f n z.1 e above)
        (at-set workers k model' j f p);
    once = h.once;
    awaited = λ i pair e. let a = h.awaited i pair e in (a.0, held pair.0 a.0 a.2 a.1, a.2);
    waiting = λ j c e awaits. held c.command.ticket c.command awaits (h.waiting j c e awaits);
    asking = asks-still workers lanes dealt downs commands h k number model model' client client' at got put stays;
  }
    where
      here : (j : ℕ) → j ≡ k → slice_get workers j ≡ Some model
      here j e = ap (slice_get workers) e ∙ at

      held : (t : Ticket) (c : CommandModel) → c.stage ≡ Awaits → Holds workers t c → Holds (slice_set workers k model') t c
      held t c awaits = held-in workers k model model' t c at (λ x.
          let r = put-holds model.clients number client client' t c got (λ e same. keeps t.part c e awaits) x in
          (r.0, ap (λ m. get m t.client) put ∙ r.1, r.2, r.3))

  -- One client goes on, and the lanes stay.
  pub one-client : (s : System C J) (w : WorldModel) → IsShadow s w → (k number : ℕ) (model model' : WorkerModel C J) (client client' : ClientModel C)
      → slice_get s.workers k ≡ Some model → get model.clients number ≡ Some client
      → seat_of model' ≡ seat_of model → model'.newest ≡ model.newest → model'.outlet ≡ model.outlet → model'.inlet ≡ model.inlet → model'.clients ≡ insert model.clients number client'
      → Fitting s.workers (length s.carrier.lanes) w.workers (downs_of s) w.commands
      → ClientShadow (downs_of s) k number client' w.commands
      → ((part : ℕ) (c : CommandModel) → get client.commands.posted part ≡ Some c → c.stage ≡ Awaits → get client'.commands.posted part ≡ Some c)
      → StaysPosted client client'
      → IsShadow (record s { workers = slice_set s.workers k model' }) w
  one-client s w h k number model model' client client' at got worker newest outlet inlet put fits shadow keeps stays =
      let rings : downs_in (slice_set s.workers k model') s.carrier.lanes ≡ downs_in s.workers s.carrier.lanes = rings-same s.workers s.carrier.lanes k model model' at (λ o. ap (down_in o) inlet) in
      let same : downs_of (record s { workers = slice_set s.workers k model' }) ≡ downs_of s = ap (λ ps. ps ++ refusals s.carrier.pending_runs ++ debts s.carrier.backends) rings in
      worker-frame s w h k model model' at worker (ap posted outlet)
      (λ lane q. subst (λ (i : Inlet Pair). ((o : Outlet Pair) → lane.down ≡ Some o → IsInStep o i) × All (λ (p : Pair). p.0.worker ≡ k) (down_in lane.down i) × IsSome lane.down) (sym inlet) (down-fits s w h k model lane at q))
      (subst (λ ps. Fitting (slice_set s.workers k model') (length s.carrier.lanes) w.workers ps w.commands) (sym same)
      (fitting-one s.workers (length s.carrier.lanes) w.workers (downs_of s) w.commands fits k number model model' client client' at got put newest shadow keeps stays))
