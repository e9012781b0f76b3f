-- What a worker does that the machine does not see.
use Rattle.std.proofs.Common.{◌≡◌, ◌≢◌, ◌⊎◌, inl, inr, ⊎_elim, ℕ, zero, suc, ◌+◌, ◌-◌, ◌<◌, ◌≤◌, ◌==◌, Bool, true, false, List, [], ◌∷◌, ◌++◌, Some, None, Result, Ok, Err, refl, sym, ap, ◌∙◌, subst, arith, length}
use Rattle.std.specs.Prelude.{slice_get, slice_set, Option, map, drop, All, cond}
use Rattle.std.proofs.lemmas.List.{append-nil}
use Rattle.std.specs.FinMap.{FinMap, get, insert, remove, get-insert, get-remove}
use Rattle.std.proofs.lemmas.Bool.Decides.{eqb_tells}
use Rattle.std.specs.Ordering.{nat_cmp, eq_by_cmp}
use Rattle.std.specs.Cmp.{nat_cmp_total}
use Rattle.key_split.specs.Runs.{RunModel}
use Rattle.key_split.specs.declared.travel.Ticket.{Ticket}
use Rattle.key_split.specs.declared.travel.Ended.{Ended}
use Rattle.command_future.specs.CommandModel.{CommandModel}
use Rattle.command_future.specs.declared.stage.Stage.TheVariants.{Over}
use Rattle.session_order.specs.declared.queue.PartStage.{PartStage}
use Rattle.session_order.specs.declared.queue.PartStage.TheVariants.{Waiting, Out, Done}
use Rattle.proxy_lanes.specs.declared.ends.lane_ends.LaneEnds.{LaneEnds}
use Rattle.proxy_lanes.specs.declared.ring.Outlet.{Outlet}
use Rattle.proxy_lanes.specs.declared.ring.Inlet.{Inlet}
use Rattle.proxy_lanes.specs.declared.ring.Numbered.{Numbered}
use Rattle.proxy_lanes.specs.Lane.{posted, taken}
use Rattle.proxy_turns.specs.declared.newcomer.Newcomer.{Newcomer}
use Rattle.proxy_turns.specs.declared.pending_run.PendingRun.{PendingRun}
use Rattle.proxy_turns.specs.Commands.{CommandsModel}
use Rattle.proxy_turns.specs.ClientModel.{ClientModel}
use Rattle.session_order.specs.SessionModel.{SessionModel}
use Rattle.session_order.specs.RequestReaderModel.{RequestReaderModel}
use Rattle.session_order.specs.Replies.{parts_of}
use Rattle.session_order.specs.Steps.{IsHandedOut, FeedOutcome, IsNotFaulted, with_incoming, fed}
use Rattle.session_order.specs.declared.closing.Closing.{Closing}
use Rattle.session_order.specs.declared.closing.Closing.TheVariants.{Open, Quit}
use Rattle.session_order.specs.declared.fault.SessionFault.{SessionFault}
use Rattle.session_order.specs.declared.fault.SessionFault.TheVariants as fault
use Rattle.proxy_turns.specs.ClientTurn.{ClientContext, ClientEvent, Pulled, Fed, Looked, CameBack, Pushed, Tried}
use Rattle.proxy_turns.specs.WorkerModel.{WorkerModel, WorkerEvent, IsAbove, Did, FoundNone, TurnedAway, FoundNobody}
use Rattle.world_laws.specs.State.{WorldModel}
use Rattle.world_laws.specs.declared.state.Arrival.{Arrival}
use Rattle.world_laws.specs.Places.{total, is}
use Rattle.world_laws.proofs.Nodes.{set-size}
use Rattle.world_laws.proofs.Recorded.{at-set, set-same, set-other}
use Rattle.turn_laws.specs.System.{System, IsInStep, seat_of}
use Rattle.turn_laws.specs.Shadow.{IsShadow, ClientShadow, KeptShadow, IsLetGo, StageShadow, HasCommand, ToldFrom, ListShadow}
use Rattle.turn_laws.specs.Underway.{HasPosted, Holds, DownInStep, downs_of, downs_in, down_in, ups_in, run_in}
use Rattle.turn_laws.specs.Steps.{WorkerStep}
use Rattle.turn_laws.proofs.Tables.{nat_eq_by}
use Rattle.turn_laws.proofs.Downs.{Pair}
use Rattle.turn_laws.proofs.Bags.{refusals, debts}
use Rattle.turn_laws.proofs.Elements.{nothing-there}
use Rattle.turn_laws.proofs.Standing.{order-on}

-- the same parts, as far and with the same commands
pub record Alike {C : Type 0} (old new : ClientModel C) : Type 0 where
  pub client : new.session.client ≡ old.session.client
  pub worker : new.session.worker ≡ old.session.worker
  pub first : new.session.first ≡ old.session.first
  pub stages : new.session.stages ≡ old.session.stages
  pub ends : new.session.ends ≡ old.session.ends
  pub owed : parts_of new.session.requests ≡ parts_of old.session.requests
  pub commands : new.commands ≡ old.commands
  pub gone : new.gone ≡ old.gone
  pub quit : old.session.closing ≡ Quit → new.session.closing ≡ Quit

stage-alike : (downs : List Pair) (gone gone' : Bool) (commands commands' : CommandsModel) → gone' ≡ gone → commands' ≡ commands
    → (stage : PartStage) (end : Ended) (c : Arrival) → StageShadow downs gone commands stage end c → StageShadow downs gone' commands' stage end c
stage-alike downs gone gone' commands commands' g e (Waiting part) end c h = h
stage-alike downs gone gone' commands commands' g e (Out slot) end c h = (
  h.0,
  ⊎_elim
      (λ (x : (d : CommandModel) × HasCommand commands c.command.ticket.part d × ToldFrom downs d c.command). inl (x.0, subst (λ (cs : CommandsModel). HasCommand cs c.command.ticket.part x.0) (sym e) x.1, x.2))
      (λ x. inr (g ∙ x.0, x.1, ap (λ (cs : CommandsModel). get cs.posted c.command.ticket.part) e ∙ x.2))
      h.1,
)
stage-alike downs gone gone' commands commands' g e Done end c h = h

kept-alike : {C : Type 0} (downs : List Pair) (old new : ClientModel C) → Alike old new → (c : Arrival) → KeptShadow downs old c → KeptShadow downs new c
kept-alike {C} downs old new a c h = ⊎_elim
    (λ (x : (c.command.ticket.part < old.session.first) × (c.answered ≡ true) × ((ended : Ended) × (c.command.stage ≡ Over ended))).
    inl (subst (λ n. c.command.ticket.part < n) (sym a.first) x.0, x.1, x.2))
    (λ (x : (old.session.first ≤ c.command.ticket.part) × (c.answered ≡ false) × ((stage : PartStage) × (end : Ended)
    × (slice_get old.session.stages (c.command.ticket.part - old.session.first) ≡ Some stage)
    × (slice_get old.session.ends (c.command.ticket.part - old.session.first) ≡ Some end)
    × StageShadow downs old.gone old.commands stage end c)).
    inr (
      subst (λ n. n ≤ c.command.ticket.part) (sym a.first) x.0,
      x.1,
      (
        x.2.0,
        x.2.1,
        (λ i. slice_get (a.stages i) (c.command.ticket.part - a.first i)) ∙ x.2.2,
        (λ i. slice_get (a.ends i) (c.command.ticket.part - a.first i)) ∙ x.2.3,
        stage-alike downs old.gone new.gone old.commands new.commands a.gone a.commands x.2.0 x.2.1 c x.2.4,
      ),
    ))
    h

-- a part that was handed out still is
out-alike : {C : Type 0} (old new : ClientModel C) → Alike old new → (t : Ticket) → IsHandedOut old.session t → IsHandedOut new.session t
out-alike {C} old new a t x = (
  x.0,
  subst (λ n. n ≤ t.part) (sym a.first) x.1,
  (λ i. slice_get (a.stages i) (t.part - a.first i)) ∙ x.2,
  x.3 ∙ sym a.worker,
  x.4 ∙ sym a.client,
)

-- and what was not handed out was not
in-alike : {C : Type 0} (old new : ClientModel C) → Alike old new → (t : Ticket) → IsHandedOut new.session t → IsHandedOut old.session t
in-alike {C} old new a t x = (
  x.0,
  subst (λ n. n ≤ t.part) a.first x.1,
  (λ i. slice_get (sym a.stages i) (t.part - sym a.first i)) ∙ x.2,
  x.3 ∙ a.worker,
  x.4 ∙ a.client,
)

pub client-alike : {C : Type 0} (downs : List Pair) (worker number : ℕ) (old new : ClientModel C) (arrivals : List Arrival) → Alike old new
    → ClientShadow downs worker number old arrivals → ClientShadow downs worker number new arrivals
client-alike {C} downs worker number old new arrivals a h = record {
  numbered = a.client ∙ h.numbered;
  housed = a.worker ∙ h.housed;
  all = λ here. h.all (sym a.gone ∙ here) ∙ (λ i. sym a.first i + length (sym a.stages i));
  read = λ here part lt.
      let x = h.read (sym a.gone ∙ here) part (subst (λ n. part < n) (λ i. a.first i + length (a.stages i)) lt) in
      (x.0, x.1, x.2, x.3 ∙ (λ i. record { worker = sym a.worker i; client = sym a.client i; part = part }));
  stands = λ t out. let was = h.stands t (in-alike old new a t out) in (was.0, order-on old.session new.session arrivals (λ j d e o. inr (out-alike old new a d.command.ticket o)) t was.1);
  homes = h.homes;
  parts = λ j c e n. ⊎_elim
      (λ (x : KeptShadow downs old c). inl (kept-alike downs old new a c x))
      (λ (x : IsLetGo old c.command.ticket). inr (a.gone ∙ x.0, λ out. x.1 (in-alike old new a c.command.ticket out)))
      (h.parts j c e n);
  commands = record {
    posted = λ n c e.
        let x = (h.commands).posted n c ((λ i. get (sym a.commands i).posted n) ∙ e) in
        (x.0, out-alike old new a c.ticket x.1);
    fresh = λ c e.
        let x = (h.commands).fresh c (e.0, (λ i. slice_get (sym a.commands i).fresh e.0) ∙ e.1) in
        (out-alike old new a c.ticket x.0, x.1, (λ i. get (a.commands i).posted c.ticket.part) ∙ x.2);
    apart = λ i j c d p q. (h.commands).apart i j c d ((λ n. slice_get (sym a.commands n).fresh i) ∙ p) ((λ n. slice_get (sym a.commands n).fresh j) ∙ q);
  };
  owed = a.owed ∙ h.owed ∙ (λ i. length (sym a.stages i));
  ends = ap length a.ends ∙ h.ends ∙ (λ i. length (sym a.stages i));
  quit = λ gone. a.quit (h.quit (sym a.gone ∙ gone));
}

pub still-there : {C : Type 0} (m : FinMap nat_cmp (ClientModel C)) (k q : ℕ) (t : ClientModel C) → get (remove m k) q ≡ Some t → get m q ≡ Some t
still-there {C} m k q t e = go (eq_by_cmp nat_cmp q k) (sym (get-remove nat_cmp_total m k q) ∙ e)
  where
    go : (b : Bool) → cond b None (get m q) ≡ Some t → get m q ≡ Some t
    go true x = absurd (cc)
    go false x = x

pub alike-itself : {C : Type 0} (client : ClientModel C) → Alike client client
alike-itself client = record { client = refl; worker = refl; first = refl; stages = refl; ends = refl; owed = refl; commands = refl; gone = refl; quit = λ e. e }

-- the clients with one in its place
pub put-cases : {C : Type 0} (m : FinMap nat_cmp (ClientModel C)) (k : ℕ) (x : ClientModel C) (q : ℕ) (t : ClientModel C) → get (insert m k x) q ≡ Some t → ((q ≡ k) × (t ≡ x)) ⊎ (get m q ≡ Some t)
put-cases {C} m k x q t e = go (eq_by_cmp nat_cmp q k) refl (sym (get-insert nat_cmp_total m k x q) ∙ e)
  where
    go : (b : Bool) → eq_by_cmp nat_cmp q k ≡ b → cond b (Some x) (get m q) ≡ Some t → ((q ≡ k) × (t ≡ x)) ⊎ (get m q ≡ Some t)
    go true same e = inl (nat_eq_by q k same, (let back : x ≡ t = cc in sym back))
    go false same e = inr e

by-client : {C : Type 0} (old new : ClientModel C) → new.session ≡ old.session → new.commands ≡ old.commands → new.gone ≡ old.gone → Alike old new
by-client old new session commands gone = record {
  client = ap (λ (x : SessionModel). x.client) session;
  worker = ap (λ (x : SessionModel). x.worker) session;
  first = ap (λ (x : SessionModel). x.first) session;
  stages = ap (λ (x : SessionModel). x.stages) session;
  ends = ap (λ (x : SessionModel). x.ends) session;
  owed = ap (λ (x : SessionModel). parts_of x.requests) session;
  commands = commands;
  gone = gone;
  quit = λ e. ap (λ (x : SessionModel). x.closing) session ∙ e;
}

-- the session's parts are as they were
abbrev pub KeepsParts : SessionModel → SessionModel → Type 0
KeepsParts old new =
    (new.client ≡ old.client) × (new.worker ≡ old.worker) × (new.first ≡ old.first) × (new.stages ≡ old.stages) × (new.ends ≡ old.ends)
    × (parts_of new.requests ≡ parts_of old.requests) × (old.closing ≡ Quit → new.closing ≡ Quit)

pub keeps-same : (old new : SessionModel) → new ≡ old → KeepsParts old new
keeps-same old new e = (ap (λ (x : SessionModel). x.client) e, ap (λ (x : SessionModel). x.worker) e, ap (λ (x : SessionModel). x.first) e, ap (λ (x : SessionModel). x.stages) e, ap (λ (x : SessionModel). x.ends) e, ap (λ (x : SessionModel). parts_of x.requests) e, λ q. ap (λ (x : SessionModel). x.closing) e ∙ q)

pub keeps-incoming : (old new : SessionModel) (incoming : RequestReaderModel) (closing : Closing) → (old.closing ≡ Quit → closing ≡ Quit) → new ≡ record old { incoming = incoming; closing = closing } → KeepsParts old new
keeps-incoming old new incoming closing quit e = (
  ap (λ (x : SessionModel). x.client) e,
  ap (λ (x : SessionModel). x.worker) e,
  ap (λ (x : SessionModel). x.first) e,
  ap (λ (x : SessionModel). x.stages) e,
  ap (λ (x : SessionModel). x.ends) e,
  ap (λ (x : SessionModel). parts_of x.requests) e,
  λ q. ap (λ (x : SessionModel). x.closing) e ∙ quit q,
)

feed-keeps : (old new : SessionModel) (piece : List ℕ) (result : Result ℕ SessionFault) → FeedOutcome old piece result new → KeepsParts old new
feed-keeps old new piece (Ok n) h = ⊎_elim
    (λ (x : (length old.requests ≡ 1024) × (n ≡ 0) × (new ≡ old) × IsNotFaulted old.closing). keeps-same old new x.2)
    (λ (x : (length old.requests < 1024) × (n ≡ length piece) × (((old.closing ≡ Open) × (new ≡ with_incoming old (fed old.incoming piece))) ⊎ ((old.closing ≡ Quit) × (new ≡ old)))).
    ⊎_elim (λ (y : (old.closing ≡ Open) × (new ≡ with_incoming old (fed old.incoming piece))). keeps-incoming old new (fed old.incoming piece) old.closing (λ q. q) y.1)
    (λ (y : (old.closing ≡ Quit) × (new ≡ old)). keeps-same old new y.1) x.2)
    h
feed-keeps old new piece (Err fault.NoMemory) h = keeps-same old new h.1
feed-keeps old new piece (Err (fault.Wire why)) h = keeps-same old new h.1
feed-keeps old new piece (Err fault.NotRequest) h = keeps-same old new h.1

pub by-parts : {C : Type 0} (old new : ClientModel C) → KeepsParts old.session new.session → new.commands ≡ old.commands → new.gone ≡ old.gone → Alike old new
by-parts {C} old new k commands gone = record { client = k.0; worker = k.1; first = k.2; stages = k.3; ends = k.4; owed = k.5; commands = commands; gone = gone; quit = k.6 }

no-client : {X : Type 0} (o : Option X) → ((x : X) → o ≡ Some x → ⊥) → o ≡ None
no-client None none = refl
no-client (Some x) none = absurd (none x refl)

one-none : {X : Type 0} (o : Option X) (x : X) → o ≡ None → o ≡ Some x → ⊥
one-none o x p q = cc

-- what a lane holds does not ask how it was posted
down-same : (o : Option (Outlet Pair)) (old new : Inlet Pair) → taken new ≡ taken old → down_in o new ≡ down_in o old
down-same None old new e = refl
down-same (Some outlet) old new e = ap (λ xs. map (λ (x : Numbered Pair). x.item) (drop (length xs) (posted outlet))) e

module _ {C J : Type 0} where
  pub rings-same : (workers : List (WorkerModel C J)) (lanes : List (LaneEnds (Newcomer C J))) (k : ℕ) (model model' : WorkerModel C J) → slice_get workers k ≡ Some model
      → ((o : Option (Outlet Pair)) → down_in o model'.inlet ≡ down_in o model.inlet) → downs_in (slice_set workers k model') lanes ≡ downs_in workers lanes
  rings-same [] lanes k model model' at e = absurd (nothing-there k model at)
  rings-same (z ∷ workers) [] zero model model' at e = refl
  rings-same (z ∷ workers) [] (suc k) model model' at e = refl
  rings-same (z ∷ workers) (l ∷ lanes) zero model model' at e = head z at
    where
      head : (z : WorkerModel C J) → Some z ≡ Some model → down_in l.down model'.inlet ++ downs_in workers lanes ≡ down_in l.down z.inlet ++ downs_in workers lanes
      head z at = let same : z ≡ model = cc in ap (λ ps. ps ++ downs_in workers lanes) (e l.down ∙ ap (λ (f : WorkerModel C J). down_in l.down f.inlet) (sym same))
  rings-same (z ∷ workers) (l ∷ lanes) (suc k) model model' at e = ap (λ ps. down_in l.down z.inlet ++ ps) (rings-same workers lanes k model model' at e)

  pub ups-out : (model model' : WorkerModel C J) (lane : LaneEnds (Newcomer C J)) → posted model'.outlet ≡ posted model.outlet → (pending_run : Option PendingRun) → ups_in model' lane pending_run ≡ ups_in model lane pending_run
  ups-out model model' lane e None = ap (λ xs. map (λ (x : Numbered RunModel). x.item) (drop (length (taken lane.up)) xs)) e
  ups-out model model' lane e (Some pending_run) = ap (λ xs. run_in pending_run.run ++ map (λ (x : Numbered RunModel). x.item) (drop (length (taken lane.up)) xs)) e

  -- nothing that the machine sees changed
  pub record IsQuiet (old new : WorkerModel C J) : Type 0 where
    pub worker : seat_of new ≡ seat_of old
    pub newest : new.newest ≡ old.newest
    pub posts : posted new.outlet ≡ posted old.outlet
    pub takes : taken new.inlet ≡ taken old.inlet
    pub clients : (number : ℕ) (client : ClientModel C) → get new.clients number ≡ Some client → (was : ClientModel C) × (get old.clients number ≡ Some was) × Alike was client
    pub keeps : (t : Ticket) (c : CommandModel) → HasPosted old t c → HasPosted new t c

  module _ (s : System C J) (w : WorldModel) (h : IsShadow s w) (k : ℕ) (model model' : WorkerModel C J) (at : slice_get s.workers k ≡ Some model) (quiet : IsQuiet model model') where
    here : (j : ℕ) → j ≡ k → slice_get s.workers j ≡ Some model
    here j e = ap (slice_get s.workers) e ∙ at

    downs : downs_in (slice_set s.workers k model') s.carrier.lanes ++ refusals s.carrier.pending_runs ++ debts s.carrier.backends ≡ downs_of s
    downs = ap (λ ps. ps ++ refusals s.carrier.pending_runs ++ debts s.carrier.backends) (rings-same s.workers s.carrier.lanes k model model' at (λ o. down-same o model.inlet model'.inlet quiet.takes))

    quiet-client : (worker number : ℕ) (client : ClientModel C) → ClientShadow (downs_of s) worker number client w.commands
        → ClientShadow (downs_in (slice_set s.workers k model') s.carrier.lanes ++ refusals s.carrier.pending_runs ++ debts s.carrier.backends) worker number client w.commands
    quiet-client worker number client t = subst (λ ps. ClientShadow ps worker number client w.commands) (sym downs) t

    counts : (t : Ticket) → total (λ (p : Pair). is t p.0) (downs_in (slice_set s.workers k model') s.carrier.lanes ++ refusals s.carrier.pending_runs ++ debts s.carrier.backends) ≡ total (λ (p : Pair). is t p.0) (downs_of s)
    counts t = ap (total (λ (p : Pair). is t p.0)) downs

    held : (t : Ticket) (c : CommandModel) → Holds s.workers t c → Holds (slice_set s.workers k model') t c
    held t c x = ⊎_elim
        (λ (z : ((x.0 == k) ≡ true) × (x.0 ≡ k)).
        let one : Some x.1 ≡ Some model = sym x.2 ∙ here x.0 z.1 in
        let same : x.1 ≡ model = cc in
        (k, model', set-same s.workers k model model' at, quiet.keeps t c (subst (λ (m : WorkerModel C J). HasPosted m t c) same x.3)))
        (λ (z : ((x.0 == k) ≡ false) × (x.0 ≢ k)). (x.0, x.1, set-other s.workers k model' x.0 x.1 z.1 x.2, x.3))
        (eqb_tells x.0 k)

    pub quiet-shadow : IsShadow (record s { workers = slice_set s.workers k model' }) w
    quiet-shadow = record {
      workers = set-size s.workers k model' ∙ h.workers;
      limit = h.limit;
      cluster = h.cluster;
      initial = h.initial;
      apart = h.apart;
      room = h.room;
      table = h.table;
      listed = h.listed;
      numbered = λ j f p. ⊎_elim
          (λ (z : (j ≡ k) × (f ≡ model')). ap seat_of z.1 ∙ quiet.worker ∙ h.numbered j model (here j z.0))
          (λ (z : (j ≢ k) × (slice_get s.workers j ≡ Some f)). h.numbered j f z.1)
          (at-set s.workers k model' j f p);
      sides = set-size s.workers k model' ∙ h.sides;
      seated = h.seated;
      up_steps = λ j f lane p q. ⊎_elim
          (λ (z : (j ≡ k) × (f ≡ model')). let step : IsInStep model.outlet lane.up = h.up_steps j model lane (here j z.0) q in
          subst (λ (x : WorkerModel C J). IsInStep x.outlet lane.up) (sym z.1) (step.0, step.1 ∙ sym quiet.posts))
          (λ (z : (j ≢ k) × (slice_get s.workers j ≡ Some f)). h.up_steps j f lane z.1 q)
          (at-set s.workers k model' j f p);
      down_steps = λ j f lane p q. ⊎_elim
          (λ (z : (j ≡ k) × (f ≡ model')). subst (DownInStep lane) (sym z.1) (λ outlet e. let step : IsInStep outlet model.inlet = h.down_steps j model lane (here j z.0) q outlet e in
          (step.0, ap (λ xs. xs ++ step.0) quiet.takes ∙ step.1)))
          (λ (z : (j ≢ k) × (slice_get s.workers j ≡ Some f)). h.down_steps j f lane z.1 q)
          (at-set s.workers k model' j f p);
      unfinished = h.unfinished;
      within = λ i pair e. h.within i pair (sym (ap (λ ps. slice_get ps i) downs) ∙ e);
      to_worker = λ j f lane p q. ⊎_elim
          (λ (z : (j ≡ k) × (f ≡ model')). subst (All (λ (pair : Pair). pair.0.worker ≡ j))
          (sym (ap (λ (x : WorkerModel C J). down_in lane.down x.inlet) z.1 ∙ down-same lane.down model.inlet model'.inlet quiet.takes)) (h.to_worker j model lane (here j z.0) q))
          (λ (z : (j ≢ k) × (slice_get s.workers j ≡ Some f)). h.to_worker j f lane z.1 q)
          (at-set s.workers k model' j f p);
      told = h.told;
      lanes = λ j f lane p q. ⊎_elim
          (λ (z : (j ≡ k) × (f ≡ model')).
          let was : ListShadow w j (ups_in model lane (slice_get s.carrier.pending_runs j)) = h.lanes j model lane (here j z.0) q in
          let now : ListShadow w j (ups_in f lane (slice_get s.carrier.pending_runs j)) = subst (ListShadow w j) (sym (ap (λ (x : WorkerModel C J). ups_in x lane (slice_get s.carrier.pending_runs j)) z.1 ∙ ups-out model model' lane quiet.posts (slice_get s.carrier.pending_runs j))) was in now)
          (λ (z : (j ≢ k) × (slice_get s.workers j ≡ Some f)). h.lanes j f lane z.1 q)
          (at-set s.workers k model' j f p);
      links = h.links;
      clients = λ j f number client p q. ⊎_elim
          (λ (z : (j ≡ k) × (f ≡ model')).
          let was = quiet.clients number client (ap (λ (x : WorkerModel C J). get x.clients number) (sym z.1) ∙ q) in
          let t = h.clients j model number was.0 (here j z.0) was.1 in
          (t.0, quiet-client j number client (client-alike (downs_of s) j number was.0 client w.commands was.2 t.1)))
          (λ (z : (j ≢ k) × (slice_get s.workers j ≡ Some f)). let t = h.clients j f number client z.1 q in (t.0, quiet-client j number client t.1))
          (at-set s.workers k model' j f p);
      unseen = λ j f number p e above. ⊎_elim
          (λ (z : (j ≡ k) × (f ≡ model')).
          let none = h.unseen j model number (here j z.0) e (subst (λ o. IsAbove o number) (ap (λ (x : WorkerModel C J). x.newest) z.1 ∙ quiet.newest) above) in
          (none.0, ap (λ (x : WorkerModel C J). get x.clients number) z.1 ∙ no-client (get model'.clients number) (λ client at'. let was = quiet.clients number client at' in one-none (get model.clients number) was.0 none.1 was.1)))
          (λ (z : (j ≢ k) × (slice_get s.workers j ≡ Some f)). h.unseen j f number z.1 e above)
          (at-set s.workers k model' j f p);
      downs = λ t. omega (arith, counts t, h.downs t);
      awaited = λ i pair e. let a = h.awaited i pair (sym (ap (λ ps. slice_get ps i) downs) ∙ e) in (a.0, held pair.0 a.0 a.1, a.2);
      waiting = λ j c e awaits. held c.command.ticket c.command (h.waiting j c e awaits);
      asking = λ j c node e wants. let a = h.asking j c node e wants in (a.0, held c.command.ticket a.0 a.1);
      log = h.log;
    }

  -- a step of a worker that nobody sees
  pub worker-stutter : (k : ℕ) (event : WorkerEvent) (s s' : System C J) (w : WorldModel) → IsShadow s w → (on : WorkerStep s k event s')
      → on.marks ≡ [] → IsQuiet on.old on.new → IsShadow s' w
  worker-stutter k event s s' w h on silent quiet =
      let same : s.log ++ on.marks ≡ s.log = ap (λ ms. s.log ++ ms) silent ∙ append-nil s.log in
      let e : s' ≡ record s { workers = slice_set s.workers k on.new } = on.leaves ∙ (λ i. record s { workers = slice_set s.workers k on.new; log = same i }) in
      subst (λ x. IsShadow x w) (sym e) (quiet-shadow s w h k on.old on.new on.at quiet)

  -- a client in its place keeps the commands that were posted
  pub put-keeps : (old new : WorkerModel C J) (number : ℕ) (client client' : ClientModel C) → get old.clients number ≡ Some client → client'.commands ≡ client.commands
      → new.clients ≡ insert old.clients number client' → (t : Ticket) (c : CommandModel) → HasPosted old t c → HasPosted new t c
  put-keeps old new number client client' at commands clients t c x = go (eq_by_cmp nat_cmp t.client number) refl
    where
      there : get new.clients t.client ≡ cond (eq_by_cmp nat_cmp t.client number) (Some client') (get old.clients t.client)
      there = ap (λ m. get m t.client) clients ∙ get-insert nat_cmp_total old.clients number client' t.client

      go : (b : Bool) → eq_by_cmp nat_cmp t.client number ≡ b → HasPosted new t c
      go true e =
          let one : Some x.0 ≡ Some client = sym x.1 ∙ ap (get old.clients) (nat_eq_by t.client number e) ∙ at in
          let same : x.0 ≡ client = cc in
          (client', there ∙ ap (λ b. cond b (Some client') (get old.clients t.client)) e, (λ i. get (commands i).posted t.part) ∙ ap (λ (y : ClientModel C). get y.commands.posted t.part) (sym same) ∙ x.2, x.3)
      go false e = (x.0, there ∙ ap (λ b. cond b (Some client') (get old.clients t.client)) e ∙ x.1, x.2, x.3)

  quiet-one : (old new : WorkerModel C J) (number : ℕ) (client client' : ClientModel C) → get old.clients number ≡ Some client → Alike client client' → seat_of new ≡ seat_of old → new.newest ≡ old.newest
      → posted new.outlet ≡ posted old.outlet → new.inlet ≡ old.inlet → new.clients ≡ insert old.clients number client' → IsQuiet old new
  quiet-one old new number client client' at a worker newest posts inlet clients = record {
    worker = worker;
    newest = newest;
    posts = posts;
    takes = ap taken inlet;
    clients = λ q t e. ⊎_elim
        (λ (z : (q ≡ number) × (t ≡ client')). (client, ap (get old.clients) z.0 ∙ at, subst (Alike client) (sym z.1) a))
        (λ (z : get old.clients q ≡ Some t). (t, z, alike-itself t))
        (put-cases old.clients number client' q t (ap (λ m. get m q) (sym clients) ∙ e));
    keeps = put-keeps old new number client client' at a.commands clients;
  }

  quiet-none : (old new : WorkerModel C J) → seat_of new ≡ seat_of old → new.newest ≡ old.newest → new.outlet ≡ old.outlet → taken new.inlet ≡ taken old.inlet → new.clients ≡ old.clients → IsQuiet old new
  quiet-none old new worker newest outlet takes clients = record {
    worker = worker;
    newest = newest;
    posts = ap posted outlet;
    takes = takes;
    clients = λ q t e. (t, ap (λ m. get m q) (sym clients) ∙ e, alike-itself t);
    keeps = λ t c x. (x.0, ap (λ m. get m t.client) clients ∙ x.1, x.2, x.3);
  }

  pub found-none : (k : ℕ) (s s' : System C J) (w : WorldModel) → IsShadow s w → WorkerStep s k FoundNone s' → IsShadow s' w
  found-none k s s' w h on =
      worker-stutter k FoundNone s s' w h on on.seen
      (quiet-none on.old on.new (ap seat_of on.does.1) (ap (λ (x : WorkerModel C J). x.newest) on.does.1) (ap (λ (x : WorkerModel C J). x.outlet) on.does.1) on.does.0.3 (ap (λ (x : WorkerModel C J). x.clients) on.does.1))

  pub found-nobody : (k : ℕ) (s s' : System C J) (w : WorldModel) → IsShadow s w → WorkerStep s k FoundNobody s' → IsShadow s' w
  found-nobody k s s' w h on =
      worker-stutter k FoundNobody s s' w h on on.seen
      (quiet-none on.old on.new (ap seat_of on.does.1) (ap (λ (x : WorkerModel C J). x.newest) on.does.1) (ap (λ (x : WorkerModel C J). x.outlet) on.does.1) (ap (λ (x : WorkerModel C J). taken x.inlet) on.does.1) (ap (λ (x : WorkerModel C J). x.clients) on.does.1))

  pub turned-away : (k number : ℕ) (s s' : System C J) (w : WorldModel) → IsShadow s w → WorkerStep s k (TurnedAway number) s' → IsShadow s' w
  turned-away k number s s' w h on =
      let e = on.does.8 in
      worker-stutter k (TurnedAway number) s s' w h on on.seen
      (quiet-none on.old on.new (ap seat_of e) (ap (λ (x : WorkerModel C J). x.newest) e) (ap (λ (x : WorkerModel C J). x.outlet) e) (ap (λ (x : WorkerModel C J). taken x.inlet) e) (ap (λ (x : WorkerModel C J). x.clients) e))

  -- What one client does that leaves its parts, its commands and the lane as they were.
  did : (k number : ℕ) (event : ClientEvent) (s s' : System C J) (w : WorldModel) → IsShadow s w → (on : WorkerStep s k (Did number event) s')
      → on.marks ≡ [] → posted on.new.outlet ≡ posted on.old.outlet → Alike on.does.0 on.does.1 → IsShadow s' w
  did k number event s s' w h on silent posts alike =
      let e = on.does.4 in
      worker-stutter k (Did number event) s s' w h on silent
      (quiet-one on.old on.new number on.does.0 on.does.1 on.does.2 alike (ap seat_of e) (ap (λ (x : WorkerModel C J). x.newest) e) posts (ap (λ (x : WorkerModel C J). x.inlet) e) (ap (λ (x : WorkerModel C J). x.clients) e))

  pub pulled : (k number : ℕ) (bytes : List ℕ) (s s' : System C J) (w : WorldModel) → IsShadow s w → WorkerStep s k (Did number (Pulled bytes)) s' → IsShadow s' w
  pulled k number bytes s s' w h on =
      let e = on.does.3.1 in
      did k number (Pulled bytes) s s' w h on on.seen.4 (ap (λ (x : ClientContext C). posted x.outlet) e)
      (by-client on.does.0 on.does.1 (ap (λ (x : ClientContext C). x.client.session) e) (ap (λ (x : ClientContext C). x.client.commands) e) (ap (λ (x : ClientContext C). x.client.gone) e))

  pub looked : (k number slot : ℕ) (s s' : System C J) (w : WorldModel) → IsShadow s w → WorkerStep s k (Did number (Looked slot)) s' → IsShadow s' w
  looked k number slot s s' w h on =
      let e = on.does.3.1 in
      did k number (Looked slot) s s' w h on on.seen.4 (ap (λ (x : ClientContext C). posted x.outlet) e)
      (by-client on.does.0 on.does.1 (ap (λ (x : ClientContext C). x.client.session) e) (ap (λ (x : ClientContext C). x.client.commands) e) (ap (λ (x : ClientContext C). x.client.gone) e))

  pub came-back : (k number : ℕ) (run : RunModel) (s s' : System C J) (w : WorldModel) → IsShadow s w → WorkerStep s k (Did number (CameBack run)) s' → IsShadow s' w
  came-back k number run s s' w h on =
      let e = on.does.3.1 in
      did k number (CameBack run) s s' w h on on.seen.4 on.does.3.0.2
      (by-client on.does.0 on.does.1 (ap (λ (x : ClientContext C). x.client.session) e) (ap (λ (x : ClientContext C). x.client.commands) e) (ap (λ (x : ClientContext C). x.client.gone) e))

  pub pushed : (k number : ℕ) (bytes : List ℕ) (s s' : System C J) (w : WorldModel) → IsShadow s w → WorkerStep s k (Did number (Pushed bytes)) s' → IsShadow s' w
  pushed k number bytes s s' w h on =
      let e = on.does.3.2 in
      did k number (Pushed bytes) s s' w h on on.seen.4 (ap (λ (x : ClientContext C). posted x.outlet) e)
      (by-client on.does.0 on.does.1 (ap (λ (x : ClientContext C). x.client.session) e) (ap (λ (x : ClientContext C). x.client.commands) e) (ap (λ (x : ClientContext C). x.client.gone) e))

  pub tried : (k number : ℕ) (s s' : System C J) (w : WorldModel) → IsShadow s w → WorkerStep s k (Did number Tried) s' → IsShadow s' w
  tried k number s s' w h on =
      let e = on.does.3.1 in
      did k number Tried s s' w h on on.seen.4 (ap (λ (x : ClientContext C). posted x.outlet) e)
      (by-client on.does.0 on.does.1 (ap (λ (x : ClientContext C). x.client.session) e) (ap (λ (x : ClientContext C). x.client.commands) e) (ap (λ (x : ClientContext C). x.client.gone) e))

  pub fed-in : (k number : ℕ) (result : Result ℕ SessionFault) (s s' : System C J) (w : WorldModel) → IsShadow s w → WorkerStep s k (Did number (Fed result)) s' → IsShadow s' w
  fed-in k number result s s' w h on =
      let e = on.does.3.1 in
      did k number (Fed result) s s' w h on on.seen.4 (ap (λ (x : ClientContext C). posted x.outlet) e)
      (by-parts on.does.0 on.does.1 (feed-keeps (on.does.0).session (on.does.1).session (on.does.0).unfed result on.does.3.0)
      (ap (λ (x : ClientContext C). x.client.commands) e) (ap (λ (x : ClientContext C). x.client.gone) e))
