-- A client goes on, and the machine with it: one of its commands goes on, or one more arrives.
use Rattle.std.proofs.Common.{◌≡◌, ◌≢◌, ◌⊎◌, ⊎_elim, ℕ, ◌%◌, ◌==◌, List, ◌++◌, Some, None, refl, sym, ap, ◌∙◌, subst, length}
use Rattle.std.specs.Prelude.{slice_get, slice_set, IsSome, All, count_by}
use Rattle.std.specs.FinMap.{get, insert}
use Rattle.key_split.specs.declared.travel.Ticket.{Ticket}
use Rattle.command_future.specs.CommandModel.{CommandModel}
use Rattle.command_future.specs.declared.stage.Stage.TheVariants.{Awaits}
use Rattle.proxy_lanes.specs.declared.ends.lane_ends.LaneEnds.{LaneEnds}
use Rattle.proxy_lanes.specs.declared.ring.Inlet.{Inlet}
use Rattle.proxy_lanes.specs.declared.ring.Outlet.{Outlet}
use Rattle.proxy_turns.specs.declared.newcomer.Newcomer.{Newcomer}
use Rattle.proxy_turns.specs.ClientModel.{ClientModel}
use Rattle.proxy_turns.specs.WorkerModel.{WorkerModel, IsAbove}
use Rattle.world_laws.specs.State.{WorldModel}
use Rattle.world_laws.specs.declared.history.Answer.{Answer}
use Rattle.world_laws.specs.declared.state.Arrival.{Arrival}
use Rattle.world_laws.specs.declared.state.Posted.{Posted}
use Rattle.world_laws.proofs.Nodes.{set-size}
use Rattle.world_laws.proofs.Recorded.{at-set}
use Rattle.turn_laws.specs.System.{System, Mark, IsInStep, seat_of}
use Rattle.turn_laws.specs.Shadow.{IsShadow, ClientShadow, LogShadow, ticket_at, ListShadow}
use Rattle.turn_laws.specs.Underway.{Holds, downs_of, down_in, ups_in}
use Rattle.turn_laws.proofs.Downs.{Pair}
use Rattle.turn_laws.proofs.Frames.{DownFits, down-fits}
use Rattle.turn_laws.proofs.AtWorkers.{rings-same}
use Rattle.turn_laws.proofs.Bags.{refusals, debts}
use Rattle.turn_laws.proofs.Clients.{held-in, put-holds, put-none}
use Rattle.turn_laws.proofs.Tables.{put-apart}
use Rattle.turn_laws.proofs.Standing.{GoesOn, still-stands, order-set}
use Rattle.turn_laws.proofs.Telling.{count-set}
use Rattle.turn_laws.proofs.Told.{Fitting, AreOwn, PartsStay, links-told}
use Rattle.turn_laws.proofs.Holding.{StaysPosted, AsksBefore, asks-still}

-- another client, as a command that is not its own goes on
pub others-set : {C : Type 0} (downs : List Pair) (worker number : ℕ) (client : ClientModel C) (arrivals : List Arrival) (j : ℕ) (x y : Arrival) → slice_get arrivals j ≡ Some x → GoesOn x y → number ≢ x.command.ticket.client
    → ClientShadow downs worker number client arrivals → ClientShadow downs worker number client (slice_set arrivals j y)
others-set {C} downs worker number client arrivals j x y at on ne h = record {
  numbered = h.numbered;
  housed = h.housed;
  all = λ here. count-set (λ (c : Arrival). c.command.ticket.client == number) arrivals j x y at (ap (λ (t : Ticket). t.client == number) on.0) ∙ h.all here;
  read = λ here part lt. still-stands arrivals j x y at on.0 (ticket_at client.session part) (h.read here part lt);
  stands = λ t out. let was = h.stands t out in (still-stands arrivals j x y at on.0 t was.0, order-set client.session arrivals j x y at on t was.1);
  homes = λ i c e n. ⊎_elim
      (λ (z : (i ≡ j) × (c ≡ y)). absurd (other c z.1 n))
      (λ (z : (i ≢ j) × (slice_get arrivals i ≡ Some c)). h.homes i c z.1 n)
      (at-set arrivals j y i c e);
  parts = λ i c e n. ⊎_elim
      (λ (z : (i ≡ j) × (c ≡ y)). absurd (other c z.1 n))
      (λ (z : (i ≢ j) × (slice_get arrivals i ≡ Some c)). h.parts i c z.1 n)
      (at-set arrivals j y i c e);
  commands = h.commands;
  owed = h.owed;
  ends = h.ends;
  quit = h.quit;
}
  where
    other : (c : Arrival) → c ≡ y → c.command.ticket.client ≡ number → ⊥
    other c e n = ne (sym n ∙ ap (λ (a : Arrival). a.command.ticket.client) e ∙ ap (λ (t : Ticket). t.client) on.0)

module _ {C J : Type 0} where
  -- what awaits did so before, or its command is there now
  abbrev pub AwaitsStill : List (WorkerModel C J) → List Arrival → List Arrival → Type 0
  AwaitsStill workers old new =
      (i : ℕ) (c : Arrival) → slice_get new i ≡ Some c → c.command.stage ≡ Awaits
      → ((j : ℕ) × (d : Arrival) × (slice_get old j ≡ Some d) × (d.command ≡ c.command)) ⊎ Holds workers c.command.ticket c.command

  -- One client goes on, and the machine's commands do.
  pub fitting-on : (workers : List (WorkerModel C J)) (lanes dealt : ℕ) (downs : List Pair) (old new : List Arrival) → Fitting workers lanes dealt downs old
      → (k number : ℕ) (model model' : WorkerModel C J) (client client' : ClientModel C) → slice_get workers k ≡ Some model → get model.clients number ≡ Some client
      → model'.clients ≡ insert model.clients number client' → model'.newest ≡ model.newest
      → AreOwn new
      → ((n m : ℕ) (c : ClientModel C) → n ≢ number → ClientShadow downs m n c old → ClientShadow downs m n c new)
      → ClientShadow downs k number client' new
      → ((n : ℕ) → n ≢ number → count_by (λ (c : Arrival). c.command.ticket.client == n) new ≡ count_by (λ (c : Arrival). c.command.ticket.client == n) old)
      → ((part : ℕ) (c : CommandModel) → get client.commands.posted part ≡ Some c → c.stage ≡ Awaits → get client'.commands.posted part ≡ Some c)
      → AwaitsStill (slice_set workers k model') old new
      → StaysPosted client client' → AsksBefore old new
      → Fitting (slice_set workers k model') lanes dealt downs new
  fitting-on workers lanes dealt downs old new h k number model model' client client' at got put newest own others shadow counts keeps waits stays asks = record {
    sides = set-size workers k model' ∙ h.sides;
    own = own;
    within = h.within;
    clients = λ j f n x p q. ⊎_elim
        (λ (z : (j ≡ k) × (f ≡ model')). ⊎_elim
        (λ (y : (n ≡ number) × (x ≡ client')).
        (ap (λ m. m % dealt) y.0 ∙ home ∙ sym z.0, subst (λ m. ClientShadow downs m n x new) (sym z.0) (subst (λ m. ClientShadow downs k m x new) (sym y.0) (subst (λ (c : ClientModel C). ClientShadow downs k number c new) (sym y.1) shadow))))
        (λ (y : (n ≢ number) × (get model.clients n ≡ Some x)). let t = h.clients j model n x (here j z.0) y.1 in (t.0, others n j x y.0 t.1))
        (put-apart model.clients number client' n x (sym (ap (λ m. get m n) put) ∙ ap (λ (m : WorkerModel C J). get m.clients n) (sym z.1) ∙ q)))
        (λ (z : (j ≢ k) × (slice_get workers j ≡ Some f)). let t = h.clients j f n x z.1 q in (t.0, others n j x (λ e. z.0 (elsewhere n j t.0 e)) t.1))
        (at-set workers k model' j f p);
    unseen = λ j f n p e above. ⊎_elim
        (λ (z : (j ≡ k) × (f ≡ model')).
        let none = h.unseen j model n (here j z.0) e (subst (λ o. IsAbove o n) (ap (λ (x : WorkerModel C J). x.newest) z.1 ∙ newest) above) in
        (counts n (λ same. none-at client (sym none.1 ∙ ap (get model.clients) same ∙ got)) ∙ none.0, ap (λ (m : WorkerModel C J). get m.clients n) z.1 ∙ ap (λ m. get m n) put ∙ put-none model.clients number client client' got n none.1))
        (λ (z : (j ≢ k) × (slice_get workers j ≡ Some f)).
        let none = h.unseen j f n z.1 e above in
        (counts n (λ same. z.0 (elsewhere n j e same)) ∙ none.0, none.1))
        (at-set workers k model' j f p);
    once = h.once;
    awaited = λ i pair e. let a = h.awaited i pair e in (a.0, held pair.0 a.0 a.2 a.1, a.2);
    waiting = λ j c e awaits. ⊎_elim
        (λ (z : (i : ℕ) × (d : Arrival) × (slice_get old i ≡ Some d) × (d.command ≡ c.command)).
        subst (λ (d : CommandModel). Holds (slice_set workers k model') d.ticket d) z.3 (held (z.1).command.ticket (z.1).command (ap (λ (d : CommandModel). d.stage) z.3 ∙ awaits) (h.waiting z.0 z.1 z.2 (ap (λ (d : CommandModel). d.stage) z.3 ∙ awaits))))
        (λ (z : Holds (slice_set workers k model') c.command.ticket c.command). z)
        (waits j c e awaits);
    asking = λ j c node e wants.
        let z = asks j c node e wants in
        subst (λ (u : CommandModel). (d : CommandModel) × Holds (slice_set workers k model') u.ticket d) z.3
        (asks-still workers lanes dealt downs old h k number model model' client client' at got put stays z.0 z.1 node z.2 (ap (λ (u : CommandModel). u.stage) z.3 ∙ wants));
  }
    where
      here : (j : ℕ) → j ≡ k → slice_get workers j ≡ Some model
      here j e = ap (slice_get workers) e ∙ at

      home : number % dealt ≡ k
      home = (h.clients k model number client at got).0

      elsewhere : (n j : ℕ) → n % dealt ≡ j → n ≡ number → j ≡ k
      elsewhere n j e same = sym e ∙ ap (λ m. m % dealt) same ∙ home

      none-at : (c : ClientModel C) → None ≡ Some c → ⊥
      none-at c e = cc

      held : (t : Ticket) (c : CommandModel) → c.stage ≡ Awaits → Holds workers t c → Holds (slice_set workers k model') t c
      held t c awaits = held-in workers k model model' t c at (λ x.
          let r = put-holds model.clients number client client' t c got (λ e same. keeps t.part c e awaits) x in
          (r.0, ap (λ m. get m t.client) put ∙ r.1, r.2, r.3))

  -- A step of one worker at which the machine's commands, its lanes or its answers go on.
  pub worker-goes : (s : System C J) (w : WorldModel) → IsShadow s w → (k : ℕ) (model model' : WorkerModel C J) → slice_get s.workers k ≡ Some model
      → (log' : List Mark) (commands' : List Arrival) (ups' : List Posted) (answers' : List Answer) (moment' : ℕ)
      → seat_of model' ≡ seat_of model → model'.inlet ≡ model.inlet
      → ((lane : LaneEnds (Newcomer C J)) → slice_get s.carrier.lanes k ≡ Some lane → IsInStep model'.outlet lane.up × ListShadow (record w { commands = commands'; ups = ups' }) k (ups_in model' lane (slice_get s.carrier.pending_runs k)))
      → ((j : ℕ) (runs : _) → j ≢ k → ListShadow w j runs → ListShadow (record w { commands = commands'; ups = ups' }) j runs)
      → PartsStay w.commands commands'
      → Fitting (slice_set s.workers k model') (length s.carrier.lanes) w.workers (downs_of s) commands'
      → LogShadow log' (record w { commands = commands'; ups = ups'; answers = answers'; moment = moment' })
      → IsShadow (record s { workers = slice_set s.workers k model'; log = log' }) (record w { commands = commands'; ups = ups'; answers = answers'; moment = moment' })
  worker-goes s w h k model model' at log' commands' ups' answers' moment' worker inlet lane-goes lanes-stay parts fit log = record {
    workers = set-size s.workers k model' ∙ h.workers;
    limit = h.limit;
    cluster = h.cluster;
    initial = h.initial;
    apart = h.apart;
    room = h.room;
    table = h.table;
    listed = h.listed;
    numbered = λ j f p. ⊎_elim
        (λ (z : (j ≡ k) × (f ≡ model')). ap seat_of z.1 ∙ worker ∙ h.numbered j model (here j z.0))
        (λ (z : (j ≢ k) × (slice_get s.workers j ≡ Some f)). h.numbered j f z.1)
        (at-set s.workers k model' j f p);
    sides = set-size s.workers k model' ∙ h.sides;
    seated = h.seated;
    up_steps = λ j f lane p q. ⊎_elim
        (λ (z : (j ≡ k) × (f ≡ model')). subst (λ (x : WorkerModel C J). IsInStep x.outlet lane.up) (sym z.1) (lane-goes lane (sym (ap (slice_get s.carrier.lanes) z.0) ∙ q)).0)
        (λ (z : (j ≢ k) × (slice_get s.workers j ≡ Some f)). h.up_steps j f lane z.1 q)
        (at-set s.workers k model' j f p);
    down_steps = λ j f lane p q. (down j f lane p q).0;
    unfinished = h.unfinished;
    within = fits.within;
    to_worker = λ j f lane p q. (down j f lane p q).1;
    told = h.told;
    lanes = λ j f lane p q. ⊎_elim
        (λ (z : (j ≡ k) × (f ≡ model')).
        subst (λ (n : ℕ). ListShadow (record w { commands = commands'; ups = ups' }) n (ups_in f lane (slice_get s.carrier.pending_runs n))) (sym z.0)
        (subst (λ (x : WorkerModel C J). ListShadow (record w { commands = commands'; ups = ups' }) k (ups_in x lane (slice_get s.carrier.pending_runs k))) (sym z.1) (lane-goes lane (sym (ap (slice_get s.carrier.lanes) z.0) ∙ q)).1))
        (λ (z : (j ≢ k) × (slice_get s.workers j ≡ Some f)). lanes-stay j (ups_in f lane (slice_get s.carrier.pending_runs j)) z.0 (h.lanes j f lane z.1 q))
        (at-set s.workers k model' j f p);
    links = links-told s.nodes s.carrier s.closed s.opened w (record w { commands = commands'; ups = ups'; answers = answers'; moment = moment' }) refl parts h.links;
    clients = fits.clients;
    unseen = fits.unseen;
    downs = fits.once;
    awaited = fits.awaited;
    waiting = fits.waiting;
    asking = fits.asking;
    log = log;
  }
    where
      here : (j : ℕ) → j ≡ k → slice_get s.workers j ≡ Some model
      here j e = ap (slice_get s.workers) e ∙ at

      down : (j : ℕ) (f : WorkerModel C J) (lane : LaneEnds (Newcomer C J)) → slice_get (slice_set s.workers k model') j ≡ Some f → slice_get s.carrier.lanes j ≡ Some lane → DownFits j f lane
      down j f lane p q = ⊎_elim
          (λ (z : (j ≡ k) × (f ≡ model')).
          let was = down-fits s w h j model lane (here j z.0) q in
          subst (λ (i : Inlet Pair). ((o : Outlet Pair) → lane.down ≡ Some o → IsInStep o i) × All (λ (pair : Pair). pair.0.worker ≡ j) (down_in lane.down i) × IsSome lane.down) (sym (ap (λ (x : WorkerModel C J). x.inlet) z.1 ∙ inlet)) was)
          (λ (z : (j ≢ k) × (slice_get s.workers j ≡ Some f)). down-fits s w h j f lane z.1 q)
          (at-set s.workers k model' j f p)

      same : downs_of (record s { workers = slice_set s.workers k model'; log = log' }) ≡ downs_of s
      same = ap (λ ps. ps ++ refusals s.carrier.pending_runs ++ debts s.carrier.backends) (rings-same s.workers s.carrier.lanes k model model' at (λ o. ap (down_in o) inlet))

      fits : Fitting (slice_set s.workers k model') (length s.carrier.lanes) w.workers (downs_of (record s { workers = slice_set s.workers k model'; log = log' })) commands'
      fits = subst (λ ps. Fitting (slice_set s.workers k model') (length s.carrier.lanes) w.workers ps commands') (sym same) fit
