-- The step of a worker by which the commands of a run are posted.
use Rattle.std.proofs.Common.{◌≡◌, ◌≢◌, ◌⊎◌, inl, inr, ⊎_elim, ℕ, zero, suc, ◌+◌, ◌<◌, ◌≤◌, ◌==◌, Bool, true, false, List, [], ◌∷◌, ◌++◌, Some, None, refl, sym, ap, ◌∙◌, subst, arith, length}
use Rattle.std.specs.Prelude.{slice_get, slice_set, Option, All, cond, filter, map}
use Rattle.std.specs.FinMap.{get, insert}
use Rattle.std.proofs.lemmas.Bool.{false≢true}
use Rattle.std.proofs.lemmas.Bool.Decides.{nat_tests}
use Rattle.std.proofs.lemmas.List.{append_assoc, append-nil, map-append}
use Rattle.std.proofs.lemmas.List.Elements.{All-append, All-cons, All-nil, filter-append}
use Rattle.slot_hash.specs.Slot.{slot_of}
use Rattle.key_split.specs.Runs.{RunModel, batches_in, count_in}
use Rattle.key_split.specs.declared.travel.Batch.{Batch}
use Rattle.key_split.specs.declared.travel.Ticket.{Ticket}
use Rattle.key_split.specs.declared.travel.Told.{Told}
use Rattle.command_future.specs.CommandModel.{CommandModel, IsFresh, MayPostTo, asks_at, batch_of}
use Rattle.command_future.specs.declared.stage.Stage.TheVariants.{Awaits}
use Rattle.session_order.specs.Behind.{IsOutBehind, IsOfSession}
use Rattle.session_order.specs.Steps.{IsHandedOut, IsOut}
use Rattle.proxy_lanes.specs.declared.ends.lane_ends.LaneEnds.{LaneEnds}
use Rattle.proxy_turns.specs.declared.newcomer.Newcomer.{Newcomer}
use Rattle.proxy_turns.specs.declared.pending_run.PendingRun.{PendingRun}
use Rattle.proxy_turns.specs.Commands.{CommandsModel, most_together, with_run}
use Rattle.proxy_turns.specs.ClientModel.{ClientModel, GoBehind}
use Rattle.proxy_turns.specs.ClientTurn.{ClientContext, Posted}
use Rattle.proxy_turns.specs.WorkerModel.{WorkerModel, Did}
use Rattle.world_laws.specs.State.{WorldModel}
use Rattle.world_laws.specs.declared.state.Arrival.{Arrival}
use Rattle.world_laws.specs.declared.state.Posted.{Posted as Run}
use Rattle.world_laws.specs.World.{WorldDoes, Way, IsAmong, MayRun, lies_in}
use Rattle.world_laws.specs.declared.event.Event.{Event}
use Rattle.world_laws.specs.declared.event.Event.TheVariants.{Post}
use Rattle.world_laws.proofs.Recorded.{set-same}
use Rattle.world_laws.proofs.Placed.{Standing}
use Rattle.turn_laws.specs.Walks.{ticked, Walk}
use Rattle.turn_laws.specs.System.{System, between, IsInStep, seat_of}
use Rattle.turn_laws.specs.Shadow.{IsShadow, ClientShadow, HasPart, IsUnderWay, RunShadow, lying, ListShadow}
use Rattle.turn_laws.specs.Underway.{downs_of, ups_in, run_in}
use Rattle.turn_laws.specs.Steps.{AtWorker, WorkerStep}
use Rattle.turn_laws.specs.PortsMay.{any_moves}
use Rattle.turn_laws.specs.Refines.{SimulatesNaming}
use Rattle.turn_laws.proofs.Tables.{put-same, same_number}
use Rattle.turn_laws.proofs.Downs.{Pair}
use Rattle.turn_laws.proofs.Ending.{none-some, told-awaits}
use Rattle.turn_laws.proofs.Lanes.{between-post, post-steps}
use Rattle.turn_laws.proofs.Onward.{AwaitsStill, fitting-on, worker-goes}
use Rattle.turn_laws.proofs.Posting.{Takes, takes-has, may-post, same, its-slot, stood}
use Rattle.turn_laws.proofs.PostsEach.{PostsAll, tickets_of, out-first, wants-post, posts-fresh, posts-none, next, arrivals2, then-posts, shadow-next, own-next}
use Rattle.turn_laws.proofs.Rising.{Rising, walked-rising}
use Rattle.turn_laws.proofs.Settled.{log-on}
use Rattle.turn_laws.proofs.Told.{Fitting, fitting, lists-still}
use Rattle.turn_laws.proofs.RunsLead.{posts-there}
use Rattle.turn_laws.proofs.Walks.{walked-stands}

not-empty : (t : Ticket) (ts : List Ticket) → t ∷ ts ≢ []
not-empty t ts e = cc

pub not-same : (a b : ℕ) → a ≢ b → (a == b) ≡ false
not-same a b ne = grind (arith, nat_tests)

-- the tickets of a run of these
later-tickets : (node : ℕ) (cs : List CommandModel) → map (λ (batch : Batch). batch.ticket) (map (λ (c : CommandModel). batch_of c node) cs) ≡ tickets_of cs
later-tickets node [] = refl
later-tickets node (c ∷ cs) = ap (λ ts. c.ticket ∷ ts) (later-tickets node cs)

as-many : (node : ℕ) (cs : List CommandModel) → length (map (λ (c : CommandModel). batch_of c node) cs) ≡ length (tickets_of cs)
as-many node [] = refl
as-many node (c ∷ cs) = ap suc (as-many node cs)

-- what is so of each command is so of each batch
each-batch : (commands : List Arrival) (k node : ℕ) (cs : List CommandModel) → All (λ (c : CommandModel). HasPart commands c.ticket c.part × (c.ticket.worker ≡ k)) cs
    → All (IsUnderWay commands k) (map (λ (c : CommandModel). batch_of c node) cs)
each-batch commands k node [] all = All-nil (IsUnderWay commands k)
each-batch commands k node (c ∷ cs) all =
    All-cons (IsUnderWay commands k) (batch_of c node) (map (λ (c : CommandModel). batch_of c node) cs) (all 0 c (omega arith)) (each-batch commands k node cs (λ n d lt. all (suc n) d (omega (arith, lt))))

-- a ticket of these is of one of these commands
of-command : (cs : List CommandModel) (i : ℕ) (t : Ticket) → slice_get (tickets_of cs) i ≡ Some t → (c : CommandModel) × (slice_get cs i ≡ Some c) × (c.ticket ≡ t)
of-command [] i t e = absurd (none-some None t refl e)
of-command (c ∷ cs) zero t e = let one : Some c.ticket ≡ Some t = e in (c, refl, (let same : c.ticket ≡ t = cc in same))
of-command (c ∷ cs) (suc i) t e = of-command cs i t e

-- what is so at each place is so of all
all-from : {X : Type 0} (P : X → Type 0) (xs : List X) → ((i : ℕ) (x : X) → slice_get xs i ≡ Some x → P x) → All P xs
all-from P [] h k d lt = absurd (omega (arith, lt))
all-from P (x ∷ xs) h zero d lt = h 0 x refl
all-from P (x ∷ xs) h (suc k) d lt = all-from P xs (λ i y e. h (suc i) y e) k d (omega (arith, lt))

at-place : {X : Type 0} (P : X → Type 0) (xs : List X) (i : ℕ) (x : X) → All P xs → slice_get xs i ≡ Some x → P x
at-place P [] i x all e = absurd (none-some None x refl e)
at-place P (y ∷ xs) zero x all e = let same : y ≡ x = cc in subst P same (all 0 y (omega arith))
at-place P (y ∷ xs) (suc i) x all e = at-place P xs i x (λ n z lt. all (suc n) z (omega (arith, lt))) e

module _ {C J : Type 0} (k number : ℕ) (run : RunModel) (s s' : System C J) (w : WorldModel) (h : IsShadow s w) (stands : Standing w) (rising : Rising w.commands) (on : WorkerStep s k (Did number (Posted run)) s') (there : run.first.node < length s.cluster.stores) where
  abbrev holder : ClientModel C
  holder = on.does.0

  abbrev holder' : ClientModel C
  holder' = on.does.1

  abbrev first : CommandModel
  first = on.does.3.0

  abbrev later : List CommandModel
  later = on.does.3.1

  abbrev rest : CommandsModel
  rest = on.does.3.2

  abbrev all : List CommandModel
  all = first ∷ later

  abbrev node : ℕ
  node = run.first.node

  abbrev downs : List Pair
  downs = downs_of s

  fits : Fitting s.workers (length s.carrier.lanes) w.workers downs w.commands
  fits = fitting s w stands h

  shadow : ClientShadow downs k number holder w.commands
  shadow = (h.clients k on.old number holder on.at on.does.2).1

  abbrev is-out : IsOut holder.session first.ticket
  is-out = on.does.3.5

  abbrev out : IsHandedOut holder.session first.ticket
  out = (is-out.0, is-out.1, is-out.2, is-out.3, is-out.4)

  may-go : MayPostTo first.stage node
  may-go = may-post first.stage (slot_of first.part.key) node (on.old).view (on.new).view on.does.3.7

  told-here : (t : Ticket) (i : ℕ) (told : Told) → slice_get downs i ≡ Some (t, told) → t.client ≡ number → (d : CommandModel) × (get holder.commands.posted t.part ≡ Some d) × (d.stage ≡ Awaits)
  told-here = told-awaits s.workers (length s.carrier.lanes) w.workers downs w.commands fits k number on.old holder on.at on.does.2

  abbrev way : Way
  way = record { client = number; slot = slot_of first.part.key; asking = asks_at first.stage }

  -- what the commands are in the machine after this
  abbrev Done : Type 0
  Done = (commands' : List Arrival) × PostsAll downs k number way node holder (record holder { commands = with_run rest first later }) w.commands commands' [] all

  abbrev Follow : Type 0
  Follow = (length (tickets_of all) ≡ 1) ⊎ All (λ (c : Arrival). IsAmong (tickets_of all) c.command.ticket → c.command.followed ≡ 0) w.commands

  none-before : All (IsOfSession holder.session) []
  none-before i t lt = absurd (omega (arith, lt))

  -- the slot of the first is that for which it is out
  first-behind : (later' : List CommandModel) → Takes holder.commands first later' → IsOutBehind holder.session (slot_of first.part.key) [] first.ticket
  first-behind later' takes =
      let has = takes-has holder.commands first later' takes in
      let at = stood downs k number holder w.commands shadow told-here first has on.does.3.4 out node may-go in
      out-first holder.session first.ticket (slot_of first.part.key) is-out (its-slot downs k number holder w.commands shadow told-here first has on.does.3.4 out node may-go at.0 at.1 at.2 at.3)

  -- all that were not posted yet
  module _ (has : holder.commands.fresh ≡ all) (fresh : All IsFresh all) (left : rest ≡ record (holder.commands) { fresh = [] }) where
    here : holder.gone ≡ false
    here = go holder.gone refl
      where
        go : (b : Bool) → holder.gone ≡ b → holder.gone ≡ false
        go true e = absurd (none-some (get holder.commands.posted first.ticket.part) first ((shadow.commands).fresh first (0, ap (λ cs. slice_get cs 0) has)).2 (on.does.3.4 e))
        go false e = e

    begins : GoBehind holder.session way.slot [] all
    begins = (refl, first-behind later (inl has), on.does.3.6)

    pub done-fresh : Done
    done-fresh =
        let r = posts-fresh downs k number way node all holder w.commands shadow fits.own told-here rising has here fresh [] none-before begins refl (ap (λ (d : CommandModel). asks_at d.stage) (fresh 0 first (omega arith))) in
        (r.0, subst (λ (m : CommandsModel). PostsAll downs k number way node holder (record holder { commands = with_run m first later }) w.commands r.0 [] all) (sym left) r.1)

    -- none was refused before
    pub follow-fresh : Follow
    follow-fresh = inr (all-from (λ (c : Arrival). IsAmong (tickets_of all) c.command.ticket → c.command.followed ≡ 0) w.commands (λ i c at among.
        let f = of-command all among.0 c.command.ticket among.1 in
        let new : IsFresh f.0 = at-place IsFresh all among.0 f.0 fresh f.1 in
        let there : slice_get holder.commands.fresh among.0 ≡ Some f.0 = ap (λ cs. slice_get cs among.0) has ∙ f.1 in
        let handed : IsHandedOut holder.session (f.0).ticket = ((shadow.commands).fresh f.0 (among.0, there)).0 in
        let is : c.command ≡ f.0 = same downs k number holder w.commands shadow told-here f.0 (inl ((among.0, there), refl)) (λ g. absurd (false≢true (sym here ∙ g))) handed node (wants-post node f.0 new) i c at (sym f.2) in
        ap (λ (d : CommandModel). d.followed) (is ∙ new)))

  -- one that was posted before
  module _ (has : get holder.commands.posted first.ticket.part ≡ Some first) (alone : later ≡ []) (left : rest ≡ holder.commands) where
    pub done-again : Done
    done-again =
        let takes : Takes holder.commands first holder.commands.fresh = inr (has, refl) in
        let stands-behind : IsOutBehind holder.session (slot_of first.part.key) [] first.ticket = first-behind holder.commands.fresh takes in
        let commands' : List Arrival = arrivals2 downs k number way node holder w.commands shadow fits.own told-here rising first holder.commands.fresh takes on.does.3.4 [] none-before stands-behind may-go refl refl refl in
        let client1 : ClientModel C = next downs k number way node holder w.commands shadow fits.own told-here rising first holder.commands.fresh takes on.does.3.4 [] none-before stands-behind may-go refl refl refl in
        let one : PostsAll downs k number way node holder client1 w.commands commands' [] (first ∷ []) =
        then-posts downs k number way node holder w.commands shadow fits.own told-here rising first holder.commands.fresh takes on.does.3.4 [] none-before stands-behind may-go refl refl refl client1 commands' []
        (posts-none downs k number way node client1 commands' (first.ticket ∷ [])
        (shadow-next downs k number way node holder w.commands shadow fits.own told-here rising first holder.commands.fresh takes on.does.3.4 [] none-before stands-behind may-go refl refl refl)
        (own-next downs k number way node holder w.commands shadow fits.own told-here rising first holder.commands.fresh takes on.does.3.4 [] none-before stands-behind may-go refl refl refl)) in (
          commands',
          subst (λ (m : CommandsModel). PostsAll downs k number way node holder (record holder { commands = with_run m first later }) w.commands commands' [] all) (sym left)
              (subst (λ (cs : List CommandModel). PostsAll downs k number way node holder (record holder { commands = with_run holder.commands first cs }) w.commands commands' [] (first ∷ cs)) (sym alone) one),
        )

    pub follow-again : Follow
    follow-again = inl (ap (λ cs. length (tickets_of (first ∷ cs))) alone)

  -- ---- the step

  done : Done
  done = ⊎_elim
      (λ (x : (holder.commands.fresh ≡ all) × All IsFresh all × (rest ≡ record (holder.commands) { fresh = [] })). done-fresh x.0 x.1 x.2)
      (λ (x : (get holder.commands.posted first.ticket.part ≡ Some first) × (later ≡ []) × (rest ≡ holder.commands)). done-again x.0 x.1 x.2)
      on.does.3.3

  follow : Follow
  follow = ⊎_elim
      (λ (x : (holder.commands.fresh ≡ all) × All IsFresh all × (rest ≡ record (holder.commands) { fresh = [] })). follow-fresh x.0 x.1 x.2)
      (λ (x : (get holder.commands.posted first.ticket.part ≡ Some first) × (later ≡ []) × (rest ≡ holder.commands)). follow-again x.0 x.1 x.2)
      on.does.3.3

  abbrev commands' : List Arrival
  commands' = done.0

  goes : PostsAll downs k number way node holder (record holder { commands = with_run rest first later }) w.commands commands' [] all
  goes = done.1

  abbrev tickets : List Ticket
  tickets = tickets_of all

  abbrev posted-run : Run
  posted-run = record { tickets = tickets; node = node; asking = way.asking }

  abbrev w' : WorldModel
  w' = record w { commands = commands'; ups = w.ups ++ posted-run ∷ []; answers = w.answers; moment = w.moment + 1 }

  short-enough : length tickets ≤ w.run_limit
  short-enough =
      let many : count_in run ≤ most_together = on.does.3.10 in
      let count : count_in run ≡ length (map (λ (c : CommandModel). batch_of c node) later) + 1 = ap count_in on.does.3.8 in
      omega (arith, many, count, as-many node later, h.limit)

  may-run : MayRun (ticked w) tickets
  may-run = (not-empty first.ticket (tickets_of later), short-enough, follow)

  does : WorldDoes (ticked w) (Post tickets node) w'
  does = (way, commands', may-run, subst (λ (n : ℕ). node < n) (ap (λ m. length m.stores) (sym h.cluster)) there, goes.goes, refl)

  now : holder' ≡ record holder { commands = with_run rest first later }
  now = ap (λ (z : ClientContext C). z.client) on.does.3.12

  put : (on.new).clients ≡ insert (on.old).clients number holder'
  put = ap (λ (z : WorkerModel C J). z.clients) on.does.4

  lying-is : lying run ≡ posted-run
  lying-is = ap lying on.does.3.8 ∙ (λ i. record { tickets = first.ticket ∷ later-tickets node later i; node = node; asking = asks_at first.stage })

  at-home : first.ticket.worker ≡ k
  at-home = out.3 ∙ shadow.housed

  in-lane : filter (lies_in k) (posted-run ∷ []) ≡ posted-run ∷ []
  in-lane = let mine' : (first.ticket.worker == k) ≡ true = ap (λ n. n == k) at-home ∙ same_number k in ap (λ b. cond b (posted-run ∷ []) []) mine'

  not-in : (i : ℕ) → i ≢ k → filter (lies_in i) (posted-run ∷ []) ≡ []
  not-in i ne = let other : (first.ticket.worker == i) ≡ false = not-same first.ticket.worker i (λ e. ne (sym e ∙ at-home)) in ap (λ b. cond b (posted-run ∷ []) []) other

  ups-more : (lane : LaneEnds (Newcomer C J)) → IsInStep (on.old).outlet lane.up → (o : Option PendingRun) → ups_in on.new lane o ≡ ups_in on.old lane o ++ run ∷ []
  ups-more lane step None = between-post (on.old).outlet (on.new).outlet lane.up run step on.does.3.11
  ups-more lane step (Some b) = ap (λ bs. run_in b.run ++ bs) (between-post (on.old).outlet (on.new).outlet lane.up run step on.does.3.11) ∙ sym (append_assoc (run_in b.run) (between (on.old).outlet lane.up) (run ∷ []))

  its-shadow : RunShadow commands' k run
  its-shadow = (on.does.3.9, subst (λ (r : RunModel). All (IsUnderWay commands' k) (batches_in r)) (sym on.does.3.8) (each-batch commands' k node all goes.under))

  own-lane : (lane : LaneEnds (Newcomer C J)) → slice_get s.carrier.lanes k ≡ Some lane → IsInStep (on.new).outlet lane.up × ListShadow (record w { commands = commands'; ups = w.ups ++ posted-run ∷ [] }) k (ups_in on.new lane (slice_get s.carrier.pending_runs k))
  own-lane lane q =
      let step : IsInStep (on.old).outlet lane.up = h.up_steps k on.old lane on.at q in
      let held : List RunModel = ups_in on.old lane (slice_get s.carrier.pending_runs k) in
      let was : ListShadow w k held = h.lanes k on.old lane on.at q in (
        post-steps (on.old).outlet (on.new).outlet lane.up run step on.does.3.11,
        subst (ListShadow (record w { commands = commands'; ups = w.ups ++ posted-run ∷ [] }) k) (sym (ups-more lane step (slice_get s.carrier.pending_runs k))) (
          filter-append (lies_in k) w.ups (posted-run ∷ []) ∙ (λ i. was.0 i ++ in-lane i) ∙ (λ i. map lying held ++ sym lying-is i ∷ []) ∙ sym (map-append lying held (run ∷ [])),
          All-append (RunShadow commands' k) held (run ∷ []) (lists-still w.commands commands' (goes.parts).parts k held was.1) (All-cons (RunShadow commands' k) run [] its-shadow (All-nil (RunShadow commands' k))),
        ),
      )

  other-lanes : (i : ℕ) (runs : List RunModel) → i ≢ k → ListShadow w i runs → ListShadow (record w { commands = commands'; ups = w.ups ++ posted-run ∷ [] }) i runs
  other-lanes i runs ne was = (
    filter-append (lies_in i) w.ups (posted-run ∷ []) ∙ ap (λ rs. filter (lies_in i) w.ups ++ rs) (not-in i ne) ∙ append-nil (filter (lies_in i) w.ups) ∙ was.0,
    lists-still w.commands commands' (goes.parts).parts i runs was.1,
  )

  still-awaits : AwaitsStill (slice_set s.workers k on.new) w.commands commands'
  still-awaits i a e awaits' = ⊎_elim
      (λ (z : (j : ℕ) × (d : Arrival) × (slice_get w.commands j ≡ Some d) × (d.command ≡ a.command)). inl z)
      (λ (z : (a.command.ticket.client ≡ number) × (get (with_run rest first later).posted a.command.ticket.part ≡ Some a.command)). inr (
        k,
        on.new,
        set-same s.workers k on.old on.new on.at,
        (
          holder',
          ap (λ m. get m a.command.ticket.client) put ∙ ap (get (insert (on.old).clients number holder')) z.0 ∙ put-same (on.old).clients number holder',
          ap (λ (u : ClientModel C). get u.commands.posted a.command.ticket.part) now ∙ z.1,
          refl,
        ),
      ))
      (goes.waits i a e awaits')

  fits' : Fitting (slice_set s.workers k on.new) (length s.carrier.lanes) w.workers downs commands'
  fits' = fitting-on s.workers (length s.carrier.lanes) w.workers downs w.commands commands' fits k number on.old on.new holder holder' on.at on.does.2 put (ap (λ (z : WorkerModel C J). z.newest) on.does.4)
      goes.own
      goes.others
      (subst (λ (c : ClientModel C). ClientShadow downs k number c commands') (sym now) goes.shadow)
      (λ n ne. goes.counts n)
      (λ part d e still. ap (λ (u : ClientModel C). get u.commands.posted part) now ∙ goes.keeps part d e still)
      still-awaits
      (λ part d e. let r = goes.stays part d e in inl (r.0, ap (λ (u : ClientModel C). get u.commands.posted part) now ∙ r.1, r.2))
      goes.asks_still

  pub posts : (events : List Event) × (v : WorldModel) × Walk w events v × IsShadow s' v
  posts =
      let same-log : s.log ++ on.marks ≡ s.log = ap (λ ms. s.log ++ ms) on.seen.4 ∙ append-nil s.log in
      let e : s' ≡ record s { workers = slice_set s.workers k on.new; log = s.log } = on.leaves ∙ (λ i. record s { workers = slice_set s.workers k on.new; log = same-log i }) in (
        Post tickets node ∷ [],
        w',
        (w', does, refl),
        subst (λ z. IsShadow z w') (sym e)
            (worker-goes s w h k on.old on.new on.at s.log commands' (w.ups ++ posted-run ∷ []) w.answers (w.moment + 1) (ap seat_of on.does.4) (ap (λ (z : WorkerModel C J). z.inlet) on.does.4)
            own-lane other-lanes (goes.parts).parts fits' (log-on s.log w w' goes.parts refl refl (omega arith) h.log)),
      )

module _ (C J : Type 0) where
  pub posted : (k number : ℕ) (run : RunModel) → SimulatesNaming C J (AtWorker k (Did number (Posted run)))
  posted k number run s s' w h names walked on =
      let there : run.first.node < length s.nodes =
      posts-there any_moves (length s.nodes) number run on.old on.new s.carrier.published names.seed names.published on.shown (λ n client e part c f. names.posted k on.old n client part c on.at e f) on.does in
      posts k number run s s' w h (walked-stands w walked) (walked-rising w walked) on (omega (arith, there, names.each))
