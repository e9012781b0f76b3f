-- Each client is written a front of the output of its requests and of the answers that the log shows.
use Rattle.std.proofs.Common.{◌≡◌, ◌≢◌, ◌⊎◌, inl, inr, ⊎_elim, ◌++◌, ◌∷◌, [], ◌+◌, ◌-◌, ◌<◌, ◌≤◌, List, ℕ, zero, suc, refl, ap, sym, subst, ◌∙◌, Some, None, Result, Ok, Err, Bool, true, false, cond, append_assoc, arith, take, length, map}
use Rattle.std.specs.Prelude.{nat_eq, slice_get, slice_set}
use Rattle.std.specs.List.{FoldsTo, flat_map}
use Rattle.std.specs.FinMap.{FinMap, get, insert, get-empty}
use Rattle.std.specs.Ordering.{nat_cmp}
use Rattle.std.proofs.lemmas.Bool.{false≢true}
use Rattle.std.proofs.lemmas.Bool.Decides.{eqb_tells}
use Rattle.std.proofs.lemmas.Grind.{flat_map-append}
use Rattle.std.proofs.lemmas.List.{append-nil}
use Rattle.resp_wire.specs.Laws.{FrontIsFaulty, FrontIsWhole}
use Rattle.key_split.specs.Laws.{PlansArePlain}
use Rattle.key_split.specs.declared.travel.Ticket.{Ticket}
use Rattle.key_split.specs.declared.travel.Ended.{Ended}
use Rattle.session_order.specs.SessionModel.{SessionModel}
use Rattle.session_order.specs.PendingReply.{plan_for}
use Rattle.session_order.specs.declared.queue.PartStage.{PartStage}
use Rattle.session_order.specs.declared.fault.SessionFault.{SessionFault}
use Rattle.session_order.specs.declared.fault.SessionFault.TheVariants as session_fault
use Rattle.session_order.specs.declared.fault.SessionFault.TheVariants.{Wire, NotRequest}
use Rattle.session_order.specs.Steps.{FeedOutcome, ReadOutcome, with_incoming}
use Rattle.session_order.specs.Replies.{parts_of}
use Rattle.session_order.specs.Output.{end_of, output_of}
use Rattle.session_order.specs.Life.{DrainsOutput}
use Rattle.session_order.proofs.Fewer.{parts_split}
use Rattle.session_order.proofs.Keeping.{added_grows}
use Rattle.session_order.proofs.Told.{Tables}
use Rattle.key_split.specs.PartModel.{PartModel}
use Rattle.turn_laws.specs.Wire.{Execution}
use Rattle.turn_laws.specs.System.{System, Mark, Arrived, Executed, Answered}
use Rattle.resp_wire.specs.LimitsModel.{full}
use Rattle.proxy_turns.specs.ClientModel.{ClientModel, new_client}
use Rattle.proxy_turns.specs.ClientTurn.{ClientContext, ClientEvent, Pulled, Fed, Read, HandedOut, Followed, Looked, CameBack, Posted, Drained, Pushed, Tried, Parted, Dropped, ClientDoes}
use Rattle.proxy_turns.specs.WorkerModel.{WorkerModel, WorkerEvent, Did, Finished, Took, FoundNone, Came, TurnedAway, FoundNobody, Left, WorkerDoes, Tells}
use Rattle.turn_laws.specs.Refines.{IsStart}
use Rattle.turn_laws.specs.Sharing.{SharedEvent, SharedSystemStep}
use Rattle.turn_laws.specs.Steps.{AtWorker, AtCarrier, Handed, AtNode, AtBroken, Thrown, Moved, WorkerStep, answers, log_of, ticket_at}
use Rattle.turn_laws.specs.PortsMay.{any_moves}
use Rattle.turn_laws.proofs.Addresses.{led-frame}
use Rattle.turn_laws.proofs.Tables.{put-apart, put-same}
use Rattle.world_laws.proofs.Recorded.{set-same}
use Rattle.turn_laws.proofs.AnswersTold.{lived-at, lives-at, marks-drained, shared-answers-were-told, whose}
use Rattle.turn_laws.proofs.OwnEvents.{ours, same-events}
use Rattle.turn_laws.proofs.CommandsOut.{still-there}
use Rattle.turn_laws.specs.LogOutput.{LogIsWritten, SharedLogIsWritten, answers_to}
use Rattle.turn_laws.specs.ClientSees.{bytes_from, bytes_to, ends_for, if_own}
use Rattle.turn_laws.specs.Arrivals.{own_events_at}
use Rattle.turn_laws.proofs.OutputFronts.{IsFront, written-on}
use Rattle.turn_laws.proofs.SessionLives.{flat-push, folds-push, other-front}
use Rattle.turn_laws.proofs.ClientLives.{LivesOn, front-none}
use Rattle.turn_laws.proofs.Elements.{nothing-there}
use Rattle.turn_laws.proofs.Ending.{none-some, one-of}
use Rattle.turn_laws.proofs.ClientSees.{own, not-own}
use Rattle.turn_laws.proofs.WrittenClients.{other-place, workers-stay}

-- ---- a session's first part

feed-first : (old : SessionModel) (piece : List ℕ) (result : Result ℕ SessionFault) (new : SessionModel) → FeedOutcome old piece result new → new.first ≡ old.first
feed-first old piece (Ok n) new (inl (full-up, none, is, opened)) = ap (λ (s : SessionModel). s.first) is
feed-first old piece (Ok n) new (inr (few, all, inl (opened, is))) = ap (λ (s : SessionModel). s.first) is
feed-first old piece (Ok n) new (inr (few, all, inr (quit, is))) = ap (λ (s : SessionModel). s.first) is
feed-first old piece (Err session_fault.NoMemory) new (may, is) = ap (λ (s : SessionModel). s.first) is
feed-first old piece (Err (Wire fault)) new (was, is) = ap (λ (s : SessionModel). s.first) is
feed-first old piece (Err NotRequest) new (was, is) = ap (λ (s : SessionModel). s.first) is

read-first : (old : SessionModel) (result : Result Bool SessionFault) (new : SessionModel) → ReadOutcome old result new → new.first ≡ old.first
read-first old (Ok true) new (may, inl (words, rest, (next, is))) = (added_grows (with_incoming old rest) (plan_for words) new is).first
read-first old (Ok true) new (may, inr (takes, is)) = ap (λ (s : SessionModel). s.first) is
read-first old (Ok false) new (is, why) = ap (λ (s : SessionModel). s.first) is
read-first old (Err session_fault.NoMemory) new (may, keeps, is) = ap (λ (s : SessionModel). s.first) is
read-first old (Err (Wire fault)) new (inl (was, is)) = ap (λ (s : SessionModel). s.first) is
read-first old (Err (Wire fault)) new (inr (may, garbled, is)) = ap (λ (s : SessionModel). s.first) is
read-first old (Err NotRequest) new (inl (was, is)) = ap (λ (s : SessionModel). s.first) is
read-first old (Err NotRequest) new (inr (inl (may, takes, is))) = ap (λ (s : SessionModel). s.first) is
read-first old (Err NotRequest) new (inr (inr (may, words, rest, refused, is))) = ap (λ (s : SessionModel). s.first) is

-- ---- answers in a log

-- the log shows an answer to this part of this client of this worker
abbrev pub IsShown : List Mark → ℕ → ℕ → ℕ → Type 0
IsShown log k number part =
    (i : ℕ) × (ticket : Ticket) × (end : Ended) × (slice_get log i ≡ Some (Answered ticket end)) × (ticket.part ≡ part) × (ticket.worker ≡ k) × (ticket.client ≡ number)

in-left : {X : Type 0} (xs ys : List X) (i : ℕ) (x : X) → slice_get xs i ≡ Some x → slice_get (xs ++ ys) i ≡ Some x
in-left [] ys i x at = absurd (nothing-there i x at)
in-left (y ∷ xs) ys zero x at = at
in-left (y ∷ xs) ys (suc i) x at = in-left xs ys i x at

in-right : {X : Type 0} (xs ys : List X) (i : ℕ) (x : X) → slice_get ys i ≡ Some x → (j : ℕ) × (slice_get (xs ++ ys) j ≡ Some x)
in-right [] ys i x at = (i, at)
in-right (y ∷ xs) ys i x at = let r = in-right xs ys i x at in (suc r.0, r.1)

shown-more : (log more : List Mark) (k number part : ℕ) → IsShown log k number part → IsShown (log ++ more) k number part
shown-more log more k number part s = (s.0, s.1, s.2, in-left log more s.0 (Answered s.1 s.2) s.3, s.4, s.5, s.6)

-- the first `m` parts that leave are shown
marks-have : (told : List (Ticket × Ended)) (held : SessionModel) (n m : ℕ) (stages : List PartStage) (ends : List Ended) → Tables told n stages ends → m ≤ length stages → (part : ℕ) → n ≤ part → part < n + m
    → (i : ℕ) × (end : Ended) × (slice_get (answers held n (take m ends)) i ≡ Some (Answered (ticket_at held part) end))
marks-have told held n zero stages ends tables few part low less = absurd (omega (arith, low, less))
marks-have told held n (suc m) [] ends tables few part low less = absurd (omega (arith, few))
marks-have told held n (suc m) (s ∷ stages) [] tables few part low less = absurd tables
marks-have told held n (suc m) (s ∷ stages) (e ∷ ends) tables few part low less =
    ⊎_elim (λ (same : part ≡ n). (0, e, ap (λ p. Some (Answered (ticket_at held p) e)) (sym same)))
    (λ (later : suc n ≤ part). let r = marks-have told held (suc n) m stages ends tables.1 (omega (arith, few)) part later (omega (arith, less)) in (suc r.0, r.1, r.2))
    (first-or n part low)
  where
    first-or : (n part : ℕ) → n ≤ part → (part ≡ n) ⊎ (suc n ≤ part)
    first-or n part low = grind arith

same-answer : (t u : Ticket) (e f : Ended) → Answered t e ≡ Answered u f → t ≡ u
same-answer t u e f is = cc

-- the first mark is an answer
at-answer : (told others : List (Ticket × Ended)) (k number part : ℕ) (t u : Ticket) (e f : Ended) → (t.worker ≡ k → t.client ≡ number → end_of told t.part ≡ Some e)
    → u.part ≡ part → u.worker ≡ k → u.client ≡ number → ((Answered t e ≡ Answered u f → ⊥) → end_of others part ≡ end_of told part)
    → end_of (if_own k t.worker (if_own number t.client ((t, e) ∷ [])) ++ others) part ≡ end_of told part
at-answer told others k number part t u e f its p w c later = ⊎_elim
    (λ (z : (nat_eq t.worker k ≡ true) × (t.worker ≡ k)). ⊎_elim
    (λ (y : (nat_eq t.client number ≡ true) × (t.client ≡ number)).
    let ours : if_own k t.worker (if_own number t.client ((t, e) ∷ [])) ≡ (t, e) ∷ [] = own k t.worker (if_own number t.client ((t, e) ∷ [])) z.0 ∙ own number t.client ((t, e) ∷ []) y.0 in
    ap (λ ends. end_of (ends ++ others) part) ours
    ∙ ⊎_elim (λ (x : (nat_eq t.part part ≡ true) × (t.part ≡ part)).
    ap (λ b. cond b (Some e) (end_of others part)) x.0 ∙ sym (its z.1 y.1) ∙ ap (end_of told) x.1)
    (λ (x : (nat_eq t.part part ≡ false) × (t.part ≢ part)).
    ap (λ b. cond b (Some e) (end_of others part)) x.0
    ∙ later (λ at. x.1 (ap (λ (v : Ticket). v.part) (same-answer t u e f at) ∙ p)))
    (eqb_tells t.part part))
    (λ (y : (nat_eq t.client number ≡ false) × (t.client ≢ number)).
    ap (λ ends. end_of (ends ++ others) part) (own k t.worker (if_own number t.client ((t, e) ∷ [])) z.0 ∙ not-own number t.client ((t, e) ∷ []) y.0)
    ∙ later (λ at. y.1 (ap (λ (v : Ticket). v.client) (same-answer t u e f at) ∙ c)))
    (eqb_tells t.client number))
    (λ (z : (nat_eq t.worker k ≡ false) × (t.worker ≢ k)).
    ap (λ ends. end_of (ends ++ others) part) (not-own k t.worker (if_own number t.client ((t, e) ∷ [])) z.0)
    ∙ later (λ at. z.1 (ap (λ (v : Ticket). v.worker) (same-answer t u e f at) ∙ w)))
    (eqb_tells t.worker k)

-- what stands behind the first mark
behind : (mark : Mark) (log : List Mark) (k number part : ℕ) (s : IsShown (mark ∷ log) k number part) → (mark ≡ Answered s.1 s.2 → ⊥) → IsShown log k number part
behind mark log k number part (i, ticket, end, at, p, w, c) other = by i at
  where
    by : (i : ℕ) → slice_get (mark ∷ log) i ≡ Some (Answered ticket end) → IsShown log k number part
    by zero at = absurd (other (one-of (Some mark) mark (Answered ticket end) refl at))
    by (suc i) at = (i, ticket, end, at, p, w, c)

not-arrived : (t u : Ticket) (p : PartModel) (e : Ended) → Arrived t p ≡ Answered u e → ⊥
not-arrived t u p e is = absurd (cc)

not-executed : (done : List Execution) (u : Ticket) (e : Ended) → Executed done ≡ Answered u e → ⊥
not-executed done u e is = absurd (cc)

-- where each answer to a client was told, and one to this part is shown, the log says of the part what was told
log-tells : (told : List (Ticket × Ended)) (k number part : ℕ) (log : List Mark)
    → ((i : ℕ) (ticket : Ticket) (end : Ended) → slice_get log i ≡ Some (Answered ticket end) → ticket.worker ≡ k → ticket.client ≡ number → end_of told ticket.part ≡ Some end)
    → IsShown log k number part → end_of (flat_map (answers_to k number) log) part ≡ end_of told part
log-tells told k number part [] all s = absurd (nothing-there s.0 (Answered s.1 s.2) s.3)
log-tells told k number part (Arrived ticket p ∷ log) all s = log-tells told k number part log (λ i. all (suc i)) (behind (Arrived ticket p) log k number part s (not-arrived ticket s.1 p s.2))
log-tells told k number part (Executed done ∷ log) all s = log-tells told k number part log (λ i. all (suc i)) (behind (Executed done) log k number part s (not-executed done s.1 s.2))
log-tells told k number part (Answered t e ∷ log) all s =
    at-answer told (flat_map (answers_to k number) log) k number part t s.1 e s.2 (all 0 t e refl) s.4 s.5 s.6
    (λ other. log-tells told k number part log (λ i. all (suc i)) (behind (Answered t e) log k number part s other))

-- ---- a client before an event

-- replies are drained
abbrev IsDrain : ClientEvent → Type 0
IsDrain (Drained n) = Unit {0}
IsDrain event = ⊥

-- those of this client
abbrev IsDrainOf : ℕ → WorkerEvent → Type 0
IsDrainOf number (Did other event) = IsDrain event × (other ≡ number)
IsDrainOf number event = ⊥

module _ {C : Type 0} (old new : ClientContext C) where
  -- it was there, and drained replies if a part left
  abbrev GoesOn : ClientEvent → Type 0
  GoesOn event = ((old.client).gone ≡ false) × (((new.client).session.first ≡ (old.client).session.first) ⊎ IsDrain event)

  client-before : (event : ClientEvent) → ClientDoes any_moves old event new → (new.client).gone ≡ false → GoesOn event
  client-before (Pulled bytes) does here = (sym (ap (λ (x : ClientContext C). x.client.gone) does.1) ∙ here, inl (ap (λ (x : ClientContext C). x.client.session.first) does.1))
  client-before (Fed result) does here = (sym (ap (λ (x : ClientContext C). x.client.gone) does.1) ∙ here, inl (feed-first _ _ result _ does.0))
  client-before (Read result) does here = (sym (ap (λ (x : ClientContext C). x.client.gone) does.1) ∙ here, inl (read-first _ result _ does.0))
  client-before (HandedOut ticket part) does here = (does.0, inl (ap (λ (s : SessionModel). s.first) does.2.3))
  client-before (Followed ticket part) does here = (does.0, inl (ap (λ (s : SessionModel). s.first) does.1.3.3))
  client-before (Looked slot) does here = (sym (ap (λ (x : ClientContext C). x.client.gone) does.1) ∙ here, inl (ap (λ (x : ClientContext C). x.client.session.first) does.1))
  client-before (CameBack run) does here = (sym (ap (λ (x : ClientContext C). x.client.gone) does.1) ∙ here, inl (ap (λ (x : ClientContext C). x.client.session.first) does.1))
  client-before (Posted run) does here = (sym (ap (λ (x : ClientContext C). x.client.gone) does.12) ∙ here, inl (ap (λ (x : ClientContext C). x.client.session.first) does.12))
  client-before (Drained n) does here = (does.0, inr tt)
  client-before (Pushed bytes) does here = (sym (ap (λ (x : ClientContext C). x.client.gone) does.2) ∙ here, inl (ap (λ (x : ClientContext C). x.client.session.first) does.2))
  client-before Tried does here = (sym (ap (λ (x : ClientContext C). x.client.gone) does.1) ∙ here, inl (ap (λ (x : ClientContext C). x.client.session.first) does.1))
  client-before Parted does here = absurd (false≢true (sym here ∙ ap (λ (x : ClientContext C). x.client.gone) does.3))
  client-before (Dropped tickets) does here = absurd (false≢true (sym here ∙ ap (λ (x : ClientContext C). x.client.gone) does.3 ∙ does.0))

module _ {C J : Type 0} (number : ℕ) (client' : ClientModel C) (old new : WorkerModel C J) where
  -- the client is new, or was there
  abbrev WasBefore : WorkerEvent → Type 0
  WasBefore event = (client'.session.first ≡ 0) ⊎ ((client : ClientModel C) × (get old.clients number ≡ Some client) × (client.gone ≡ false) × ((client'.session.first ≡ client.session.first) ⊎ IsDrainOf number event))

  same-before : (event : WorkerEvent) → new.clients ≡ old.clients → get new.clients number ≡ Some client' → client'.gone ≡ false → WasBefore event
  same-before event same got here = inr (client', ap (λ (m : FinMap nat_cmp (ClientModel C)). get m number) (sym same) ∙ got, here, inl refl)

  put-before : (event : WorkerEvent) (other : ℕ) (c c' : ClientModel C) → get old.clients other ≡ Some c → new.clients ≡ insert old.clients other c' → get new.clients number ≡ Some client' → client'.gone ≡ false
      → (other ≡ number → c'.gone ≡ false → (c.gone ≡ false) × ((c'.session.first ≡ c.session.first) ⊎ IsDrainOf number event)) → WasBefore event
  put-before event other c c' at is got here on = ⊎_elim
      (λ (z : (number ≡ other) × (client' ≡ c')).
      let r = on (sym z.0) (ap (λ (x : ClientModel C). x.gone) (sym z.1) ∙ here) in
      inr (c, ap (get old.clients) z.0 ∙ at, r.0, ⊎_elim (λ (e : c'.session.first ≡ c.session.first). inl (ap (λ (x : ClientModel C). x.session.first) z.1 ∙ e)) (λ (e : IsDrainOf number event). inr e) r.1))
      (λ (z : (number ≢ other) × (get old.clients number ≡ Some client')). inr (client', z.1, here, inl refl))
      (put-apart old.clients other c' number client' (ap (λ (m : FinMap nat_cmp (ClientModel C)). get m number) (sym is) ∙ got))

  worker-before : (event : WorkerEvent) → WorkerDoes any_moves old event new → get new.clients number ≡ Some client' → client'.gone ≡ false → WasBefore event
  worker-before (Did other event) d got here =
      put-before (Did other event) other d.0 d.1 d.2 (ap (λ (x : WorkerModel C J). x.clients) d.4) got here (λ same still.
      let r = client-before (record { client = d.0; outlet = old.outlet; view = old.view }) (record { client = d.1; outlet = new.outlet; view = new.view }) event d.3 still in
      (r.0, ⊎_elim (λ (e : (d.1).session.first ≡ (d.0).session.first). inl e) (λ (e : IsDrain event). inr (e, same)) r.1))
  worker-before (Finished other ticket end) d got here =
      put-before (Finished other ticket end) other d.0 d.1 d.2 (ap (λ (x : WorkerModel C J). x.clients) d.4) got here (λ same still.
      (sym (ap (λ (x : ClientModel C). x.gone) d.3.3) ∙ still, inl (ap (λ (s : SessionModel). s.first) d.3.2)))
  worker-before (Took ticket told) d got here = took-before d.1.0 d.1.1
    where
      took-before : (heard : Bool) → Tells old.clients ticket told heard new.clients → WasBefore (Took ticket told)
      took-before true t = put-before (Took ticket told) ticket.client t.0 t.1 t.2 t.5 got here (λ same still.
          (sym (ap (λ (x : ClientModel C). x.gone) t.4) ∙ still, inl (ap (λ (x : ClientModel C). x.session.first) t.4)))
      took-before false t = same-before (Took ticket told) t.1 got here
  worker-before FoundNone d got here = same-before FoundNone (ap (λ (x : WorkerModel C J). x.clients) d.1) got here
  worker-before (Came other) d got here = ⊎_elim
      (λ (z : (number ≡ other) × (client' ≡ new_client old.worker other full (d.0).port)). inl (ap (λ (x : ClientModel C). x.session.first) z.1))
      (λ (z : (number ≢ other) × (get old.clients number ≡ Some client')). inr (client', z.1, here, inl refl))
      (put-apart old.clients other (new_client old.worker other full (d.0).port) number client' (ap (λ (x : WorkerModel C J). get x.clients number) (sym d.6) ∙ got))
  worker-before (TurnedAway other) d got here = same-before (TurnedAway other) (ap (λ (x : WorkerModel C J). x.clients) d.8) got here
  worker-before FoundNobody d got here = same-before FoundNobody (ap (λ (x : WorkerModel C J). x.clients) d.1) got here
  worker-before (Left other) d got here =
      inr (client', (still-there old.clients other number client' (ap (λ (m : FinMap nat_cmp (ClientModel C)). get m number) (sym d.2.4) ∙ got)).0, here, inl refl)

-- ---- a system

-- an event of a worker of ours
abbrev of_worker : ℕ → WorkerEvent → SharedEvent
of_worker k event = SharedEvent.Ours (AtWorker k event)

module _ {C J : Type 0} where
  -- a client of worker k that is there
  abbrev Here : System C J → ℕ → ℕ → ClientModel C → Type 0
  Here s k number client = (model : WorkerModel C J) × (slice_get s.workers k ≡ Some model) × (get model.clients number ≡ Some client) × (client.gone ≡ false)

  -- the log shows an answer to each part that left
  abbrev AllShown : System C J → Type 0
  AllShown s = (k number : ℕ) (client : ClientModel C) → Here s k number client → (part : ℕ) → part < client.session.first → IsShown s.log k number part

  log-more : (event : SharedEvent) (s s' : System C J) → SharedSystemStep s event s' → (more : List Mark) × (s'.log ≡ s.log ++ more)
  log-more (SharedEvent.Ours (AtWorker k event)) s s' step = (step.marks, ap (λ (x : System C J). x.log) step.leaves)
  log-more (SharedEvent.Ours (AtCarrier event)) s s' step = ([], ap (λ (x : System C J). x.log) step.leaves ∙ sym (append-nil s.log))
  log-more (SharedEvent.Ours (Handed k number)) s s' step = ([], ap (λ (x : System C J). x.log) step.4 ∙ sym (append-nil s.log))
  log-more (SharedEvent.Ours (AtNode k verdict)) s s' step = (log_of step.4, ap (λ (x : System C J). x.log) step.10)
  log-more (SharedEvent.Ours (AtBroken j verdict)) s s' step = (log_of step.3, ap (λ (x : System C J). x.log) step.7)
  log-more (SharedEvent.Ours (Thrown j)) s s' step = ([], ap (λ (x : System C J). x.log) step.2 ∙ sym (append-nil s.log))
  log-more (SharedEvent.Ours (Moved event)) s s' step = ([], ap (λ (x : System C J). x.log) step.1 ∙ sym (append-nil s.log))
  log-more (SharedEvent.Led event) s s' step = let frame = led-frame event s s' step in (log_of frame.done, frame.log)
  log-more (SharedEvent.Theirs node asking theirs) s s' step = (log_of theirs, ap (λ (x : System C J). x.log) step.1)

  still-shown : (event : SharedEvent) (s s' : System C J) → SharedSystemStep s event s' → (k number part : ℕ) → IsShown s.log k number part → IsShown s'.log k number part
  still-shown event s s' step k number part shown =
      let more = log-more event s s' step in subst (λ log. IsShown log k number part) (sym more.1) (shown-more s.log more.0 k number part shown)

  workers-same : (event : SharedEvent) (s s' : System C J) → SharedSystemStep s event s' → AllShown s → s'.workers ≡ s.workers → AllShown s'
  workers-same event s s' step shown same k number client here part less =
      still-shown event s s' step k number part (shown k number client (here.0, ap (λ (ws : List (WorkerModel C J)). slice_get ws k) (sym same) ∙ here.1, here.2, here.3) part less)

module _ (C J : Type 0) (law : DrainsOutput) (whole : FrontIsWhole) (faulty : FrontIsFaulty) (plain : PlansArePlain) (s0 : System C J) (start : IsStart s0) where
  module _ (done : List SharedEvent) (s s' : System C J) (steps : FoldsTo SharedSystemStep s0 done s) (shown : AllShown s) where
    drained-shown : (k number n : ℕ) (step : WorkerStep s k (Did number (Drained n)) s') (client' : ClientModel C) → get (step.new).clients number ≡ Some client' → (part : ℕ) → part < client'.session.first → IsShown s'.log k number part
    drained-shown k number n step client' got part less =
        let d = step.does in
        let client : ClientModel C = d.0 in
        let held : SessionModel = client.session in
        let same : d.1 ≡ client' = one-of (get (step.new).clients number) d.1 client' (ap (λ (x : WorkerModel C J). get x.clients number) d.4 ∙ put-same (step.old).clients number d.1) got in
        let lived = lived-at C J law whole faulty plain s0 start done s steps k number step.old client step.at d.2 d.3.0 in
        let of = whose C J law whole faulty plain s0 start done s steps k number step.old client step.at d.2 in
        let drains = d.3.1.3 in
        let m : ℕ = parts_of (take drains.count held.requests) in
        let now : (d.1).session.first ≡ held.first + m = ap (λ (x : SessionModel). x.first) drains.left in
        let fits : m ≤ length held.stages = omega (arith, parts_split drains.count held.requests, lived.counted.1) in
        let many : (d.1).session.first - held.first ≡ m = omega (arith, now) in
        let last : client'.session.first ≡ held.first + m = ap (λ (x : ClientModel C). x.session.first) (sym same) ∙ now in
        let marks : step.marks ≡ answers held held.first (take m held.ends) = marks-drained C J law whole faulty plain s0 start s s' k number n step ∙ ap (λ j. answers held held.first (take j held.ends)) many in
        ⊎_elim (λ (z : part < held.first). still-shown (of_worker k (Did number (Drained n))) s s' step k number part (shown k number client (step.old, step.at, d.2, d.3.0) part z))
        (λ (z : held.first ≤ part).
        let mark = marks-have _ held held.first m held.stages held.ends lived.held.0 fits part z (omega (arith, less, last)) in
        let place = in-right s.log step.marks mark.0 (Answered (ticket_at held part) mark.1) (ap (λ ms. slice_get ms mark.0) marks ∙ mark.2) in
        (place.0, ticket_at held part, mark.1, ap (λ (x : System C J). slice_get x.log place.0) step.leaves ∙ place.1, refl, of.0, of.1))
        (below-or part held.first)
      where
        below-or : (n m : ℕ) → (n < m) ⊎ (m ≤ n)
        below-or n m = grind arith

    drain-shown : (k number : ℕ) (event : WorkerEvent) → IsDrainOf number event → (step : WorkerStep s k event s') (client' : ClientModel C) → get (step.new).clients number ≡ Some client' → (part : ℕ) → part < client'.session.first
        → IsShown s'.log k number part
    drain-shown k number (Did other (Drained n)) of step client' got part less =
        subst (λ q. IsShown s'.log k q part) of.1 (drained-shown k other n step client' (ap (get (step.new).clients) of.1 ∙ got) part less)
    drain-shown k number (Did other (Pulled bytes)) of step client' got part less = absurd of.0
    drain-shown k number (Did other (Fed result)) of step client' got part less = absurd of.0
    drain-shown k number (Did other (Read result)) of step client' got part less = absurd of.0
    drain-shown k number (Did other (HandedOut ticket p)) of step client' got part less = absurd of.0
    drain-shown k number (Did other (Followed ticket p)) of step client' got part less = absurd of.0
    drain-shown k number (Did other (Looked slot)) of step client' got part less = absurd of.0
    drain-shown k number (Did other (CameBack run)) of step client' got part less = absurd of.0
    drain-shown k number (Did other (Posted run)) of step client' got part less = absurd of.0
    drain-shown k number (Did other (Pushed bytes)) of step client' got part less = absurd of.0
    drain-shown k number (Did other Tried) of step client' got part less = absurd of.0
    drain-shown k number (Did other Parted) of step client' got part less = absurd of.0
    drain-shown k number (Did other (Dropped tickets)) of step client' got part less = absurd of.0
    drain-shown k number (Finished other ticket end) of step client' got part less = absurd of
    drain-shown k number (Took ticket told) of step client' got part less = absurd of
    drain-shown k number FoundNone of step client' got part less = absurd of
    drain-shown k number (Came other) of step client' got part less = absurd of
    drain-shown k number (TurnedAway other) of step client' got part less = absurd of
    drain-shown k number FoundNobody of step client' got part less = absurd of
    drain-shown k number (Left other) of step client' got part less = absurd of

    worker-shown : (j : ℕ) (event : WorkerEvent) → WorkerStep s j event s' → AllShown s'
    worker-shown j event step k number client' here part less = ⊎_elim
        (λ (z : (nat_eq j k ≡ true) × (j ≡ k)).
        let now : slice_get s'.workers k ≡ Some step.new = ap (λ (x : System C J). slice_get x.workers k) step.leaves ∙ ap (slice_get (slice_set s.workers j step.new)) (sym z.1) ∙ set-same s.workers j step.old step.new step.at in
        let model : here.0 ≡ step.new = one-of (slice_get s'.workers k) here.0 step.new here.1 now in
        let got : get (step.new).clients number ≡ Some client' = ap (λ (x : WorkerModel C J). get x.clients number) (sym model) ∙ here.2 in
        ⊎_elim (λ (y : client'.session.first ≡ 0). absurd (omega (arith, less, y)))
        (λ (y : (client : ClientModel C) × (get (step.old).clients number ≡ Some client) × (client.gone ≡ false) × ((client'.session.first ≡ client.session.first) ⊎ IsDrainOf number event)).
        ⊎_elim (λ (x : client'.session.first ≡ (y.0).session.first).
        still-shown (of_worker j event) s s' step k number part (shown k number y.0 (step.old, ap (slice_get s.workers) (sym z.1) ∙ step.at, y.1, y.2) part (omega (arith, less, x))))
        (λ (x : IsDrainOf number event). subst (λ q. IsShown s'.log q number part) z.1 (drain-shown j number event x step client' got part less))
        y.3)
        (worker-before number client' step.old step.new event step.does got here.3))
        (λ (z : (nat_eq j k ≡ false) × (j ≢ k)).
        let same : slice_get s'.workers k ≡ slice_get s.workers k = ap (λ (x : System C J). slice_get x.workers k) step.leaves ∙ other-place s.workers j k step.new z.1 in
        still-shown (of_worker j event) s s' step k number part (shown k number client' (here.0, sym same ∙ here.1, here.2, here.3) part less))
        (eqb_tells j k)

    step-shown : (event : SharedEvent) → SharedSystemStep s event s' → AllShown s'
    step-shown (SharedEvent.Ours (AtWorker j event)) step = worker-shown j event step
    step-shown (SharedEvent.Ours (AtCarrier event)) step = workers-same (SharedEvent.Ours (AtCarrier event)) s s' step shown (workers-stay (AtCarrier event) s s' tt step)
    step-shown (SharedEvent.Ours (Handed k number)) step = workers-same (SharedEvent.Ours (Handed k number)) s s' step shown (workers-stay (Handed k number) s s' tt step)
    step-shown (SharedEvent.Ours (AtNode k verdict)) step = workers-same (SharedEvent.Ours (AtNode k verdict)) s s' step shown (workers-stay (AtNode k verdict) s s' tt step)
    step-shown (SharedEvent.Ours (AtBroken j verdict)) step = workers-same (SharedEvent.Ours (AtBroken j verdict)) s s' step shown (workers-stay (AtBroken j verdict) s s' tt step)
    step-shown (SharedEvent.Ours (Thrown j)) step = workers-same (SharedEvent.Ours (Thrown j)) s s' step shown (workers-stay (Thrown j) s s' tt step)
    step-shown (SharedEvent.Ours (Moved event)) step = workers-same (SharedEvent.Ours (Moved event)) s s' step shown (workers-stay (Moved event) s s' tt step)
    step-shown (SharedEvent.Led event) step = workers-same (SharedEvent.Led event) s s' step shown (led-frame event s s' step).workers
    step-shown (SharedEvent.Theirs node asking theirs) step = workers-same (SharedEvent.Theirs node asking theirs) s s' step shown (ap (λ (x : System C J). x.workers) step.1)

-- ---- what went is a front

own-none : (number other : ℕ) → if_own {X = ℕ} number other [] ≡ []
own-none number other = either-none (nat_eq other number)
  where
    either-none : (b : Bool) → cond {A = List ℕ} b [] [] ≡ []
    either-none true = refl
    either-none false = refl

-- an event of a worker that pushes nothing to this client
pushes-none : (k j number : ℕ) (event : WorkerEvent) → bytes_to number event ≡ [] → flat_map (bytes_to number) (own_events_at k (of_worker j event)) ≡ []
pushes-none k j number event none = ⊎_elim
    (λ (z : (nat_eq j k ≡ true) × (j ≡ k)). ap (flat_map (bytes_to number)) (own k j (event ∷ []) z.0) ∙ ap (λ bytes. bytes ++ []) none)
    (λ (z : (nat_eq j k ≡ false) × (j ≢ k)). ap (flat_map (bytes_to number)) (not-own k j (event ∷ []) z.0))
    (eqb_tells j k)

-- one more step, by what is seen of it
flat-step : {X : Type 0} (f : WorkerEvent → List X) (k : ℕ) (done : List SharedEvent) (event : SharedEvent)
    → flat_map f (flat_map (own_events_at k) (done ++ event ∷ [])) ≡ flat_map f (flat_map (own_events_at k) done) ++ flat_map f (own_events_at k event)
flat-step f k done event = ap (flat_map f) (flat-push (own_events_at k) done event) ∙ flat_map-append f (flat_map (own_events_at k) done) (own_events_at k event)

none-unpushed : {C : Type 0} (came : List ℕ) (ends : List (Ticket × Ended)) (went : List ℕ) (client : ClientModel C) → client.gone ≡ true → LivesOn came ends went client → client.unpushed ≡ []
none-unpushed came ends went client gone (inl (here, lived, out)) = absurd (false≢true (sym here ∙ gone))
none-unpushed came ends went client gone (inr (still, none, front)) = none

none-front : (came : List ℕ) (ends : List (Ticket × Ended)) → IsFront came ends []
none-front came ends = (record { values = []; text = []; rest = came; spelled = refl; are = refl; faulted = false; fault = λ met. absurd (false≢true met) }, (output_of [] ends false, refl))

module _ (C J : Type 0) (law : DrainsOutput) (whole : FrontIsWhole) (faulty : FrontIsFaulty) (plain : PlansArePlain) (s0 : System C J) (start : IsStart s0) where
  -- what went to this client is a front of the output by the answers in the log
  abbrev Front : List SharedEvent → System C J → ℕ → ℕ → Type 0
  Front done s k number = IsFront (flat_map (bytes_from number) (flat_map (own_events_at k) done)) (flat_map (answers_to k number) s.log) (flat_map (bytes_to number) (flat_map (own_events_at k) done))

  -- of a client that is there
  front-here : (done : List SharedEvent) (s : System C J) → FoldsTo SharedSystemStep s0 done s → AllShown s → (k number : ℕ) (client : ClientModel C) → Here s k number client → Front done s k number
  front-here done s steps shown k number client here =
      let told : List (Ticket × Ended) = flat_map (ends_for number) (flat_map (own_events_at k) done) in
      other-front law (flat_map (answers_to k number) s.log) _ told _ client.session client.unfed client.unpushed
      (λ part less. log-tells told k number part s.log
      (λ i ticket end at w c. ap (λ ends. end_of ends ticket.part) (λ j. flat_map (ends_for (sym c j)) (flat_map (own_events_at (sym w j)) done)) ∙ shared-answers-were-told C J law whole faulty plain s0 s done start steps i ticket end at)
      (shown k number client here part less))
      (lived-at C J law whole faulty plain s0 start done s steps k number here.0 client here.1 here.2 here.3)

  module _ (done : List SharedEvent) (s s' : System C J) (steps : FoldsTo SharedSystemStep s0 done s) (shown : AllShown s) where
    -- nothing goes to this client
    quiet : ((k number : ℕ) → Front done s k number) → (k number : ℕ) (event : SharedEvent) → SharedSystemStep s event s' → flat_map (bytes_to number) (own_events_at k event) ≡ [] → Front (done ++ event ∷ []) s' k number
    quiet before k number event step none =
        let more = log-more event s s' step in
        let came = flat-step (bytes_from number) k done event in
        let went : flat_map (bytes_to number) (flat_map (own_events_at k) (done ++ event ∷ [])) ≡ flat_map (bytes_to number) (flat_map (own_events_at k) done) =
        flat-step (bytes_to number) k done event ∙ ap (λ bytes. flat_map (bytes_to number) (flat_map (own_events_at k) done) ++ bytes) none ∙ append-nil (flat_map (bytes_to number) (flat_map (own_events_at k) done)) in
        let log : flat_map (answers_to k number) s'.log ≡ flat_map (answers_to k number) s.log ++ flat_map (answers_to k number) more.0 =
        ap (flat_map (answers_to k number)) more.1 ∙ flat_map-append (answers_to k number) s.log more.0 in
        subst (λ bytes. IsFront bytes (flat_map (answers_to k number) s'.log) (flat_map (bytes_to number) (flat_map (own_events_at k) (done ++ event ∷ [])))) (sym came)
        (subst (λ ends. IsFront (flat_map (bytes_from number) (flat_map (own_events_at k) done) ++ flat_map (bytes_from number) (own_events_at k event)) ends (flat_map (bytes_to number) (flat_map (own_events_at k) (done ++ event ∷ [])))) (sym log)
        (subst (λ bytes. IsFront (flat_map (bytes_from number) (flat_map (own_events_at k) done) ++ flat_map (bytes_from number) (own_events_at k event)) (flat_map (answers_to k number) s.log ++ flat_map (answers_to k number) more.0) bytes) (sym went)
        (written-on _ _ _ (flat_map (bytes_from number) (own_events_at k event)) (flat_map (answers_to k number) more.0) (before k number))))

    pushed-front : ((k number : ℕ) → Front done s k number) → (number j : ℕ) (bytes : List ℕ) (step : WorkerStep s j (Did number (Pushed bytes)) s') (b : Bool) → ((step.does).0).gone ≡ b
        → Front (done ++ of_worker j (Did number (Pushed bytes)) ∷ []) s' j number
    pushed-front before number j bytes step false e =
        let d = step.does in
        let event : SharedEvent = of_worker j (Did number (Pushed bytes)) in
        let now : slice_get s'.workers j ≡ Some step.new = ap (λ (x : System C J). slice_get x.workers j) step.leaves ∙ set-same s.workers j step.old step.new step.at in
        let got : get (step.new).clients number ≡ Some d.1 = ap (λ (x : WorkerModel C J). get x.clients number) d.4 ∙ put-same (step.old).clients number d.1 in
        front-here (done ++ event ∷ []) s' (folds-push SharedSystemStep done event s0 s s' steps step) (step-shown C J law whole faulty plain s0 start done s s' steps shown event step) j number d.1
        (step.new, now, got, ap (λ (x : ClientContext C). x.client.gone) d.3.2 ∙ e)
    pushed-front before number j bytes step true e =
        let d = step.does in
        let none : (d.0).unpushed ≡ [] = none-unpushed _ _ _ d.0 e (lives-at C J law whole faulty plain s0 start done s steps j number step.old d.0 step.at d.2) in
        let nothing = front-none bytes (d.1).unpushed (sym none ∙ d.3.1) in
        quiet before j number (of_worker j (Did number (Pushed bytes))) step (pushes-none j j number (Did number (Pushed bytes)) (ap (if_own number number) nothing.0 ∙ own-none number number))

    worker-front : ((k number : ℕ) → Front done s k number) → (number j : ℕ) (event : WorkerEvent) (step : WorkerStep s j event s') → Front (done ++ of_worker j event ∷ []) s' j number
    worker-front before number j (Did other (Pushed bytes)) step = ⊎_elim
        (λ (z : (nat_eq other number ≡ true) × (other ≡ number)).
        subst (λ q. Front (done ++ of_worker j (Did other (Pushed bytes)) ∷ []) s' j q) z.1 (pushed-front before other j bytes step ((step.does).0).gone refl))
        (λ (z : (nat_eq other number ≡ false) × (other ≢ number)).
        quiet before j number (of_worker j (Did other (Pushed bytes))) step (pushes-none j j number (Did other (Pushed bytes)) (not-own number other bytes z.0)))
        (eqb_tells other number)
    worker-front before number j (Did other (Pulled bytes)) step = quiet before j number (of_worker j (Did other (Pulled bytes))) step (pushes-none j j number (Did other (Pulled bytes)) (own-none number other))
    worker-front before number j (Did other (Fed result)) step = quiet before j number (of_worker j (Did other (Fed result))) step (pushes-none j j number (Did other (Fed result)) (own-none number other))
    worker-front before number j (Did other (Read result)) step = quiet before j number (of_worker j (Did other (Read result))) step (pushes-none j j number (Did other (Read result)) (own-none number other))
    worker-front before number j (Did other (HandedOut ticket part)) step = quiet before j number (of_worker j (Did other (HandedOut ticket part))) step (pushes-none j j number (Did other (HandedOut ticket part)) (own-none number other))
    worker-front before number j (Did other (Followed ticket part)) step = quiet before j number (of_worker j (Did other (Followed ticket part))) step (pushes-none j j number (Did other (Followed ticket part)) (own-none number other))
    worker-front before number j (Did other (Looked slot)) step = quiet before j number (of_worker j (Did other (Looked slot))) step (pushes-none j j number (Did other (Looked slot)) (own-none number other))
    worker-front before number j (Did other (CameBack run)) step = quiet before j number (of_worker j (Did other (CameBack run))) step (pushes-none j j number (Did other (CameBack run)) (own-none number other))
    worker-front before number j (Did other (Posted run)) step = quiet before j number (of_worker j (Did other (Posted run))) step (pushes-none j j number (Did other (Posted run)) (own-none number other))
    worker-front before number j (Did other (Drained n)) step = quiet before j number (of_worker j (Did other (Drained n))) step (pushes-none j j number (Did other (Drained n)) (own-none number other))
    worker-front before number j (Did other Tried) step = quiet before j number (of_worker j (Did other Tried)) step (pushes-none j j number (Did other Tried) (own-none number other))
    worker-front before number j (Did other Parted) step = quiet before j number (of_worker j (Did other Parted)) step (pushes-none j j number (Did other Parted) (own-none number other))
    worker-front before number j (Did other (Dropped tickets)) step = quiet before j number (of_worker j (Did other (Dropped tickets))) step (pushes-none j j number (Did other (Dropped tickets)) (own-none number other))
    worker-front before number j (Finished other ticket end) step = quiet before j number (of_worker j (Finished other ticket end)) step (pushes-none j j number (Finished other ticket end) refl)
    worker-front before number j (Took ticket told) step = quiet before j number (of_worker j (Took ticket told)) step (pushes-none j j number (Took ticket told) refl)
    worker-front before number j FoundNone step = quiet before j number (of_worker j FoundNone) step (pushes-none j j number FoundNone refl)
    worker-front before number j (Came other) step = quiet before j number (of_worker j (Came other)) step (pushes-none j j number (Came other) refl)
    worker-front before number j (TurnedAway other) step = quiet before j number (of_worker j (TurnedAway other)) step (pushes-none j j number (TurnedAway other) refl)
    worker-front before number j FoundNobody step = quiet before j number (of_worker j FoundNobody) step (pushes-none j j number FoundNobody refl)
    worker-front before number j (Left other) step = quiet before j number (of_worker j (Left other)) step (pushes-none j j number (Left other) refl)

    step-front : ((k number : ℕ) → Front done s k number) → (event : SharedEvent) → SharedSystemStep s event s' → (k number : ℕ) → Front (done ++ event ∷ []) s' k number
    step-front before (SharedEvent.Ours (AtWorker j event)) step k number = ⊎_elim
        (λ (z : (nat_eq j k ≡ true) × (j ≡ k)). subst (λ q. Front (done ++ of_worker j event ∷ []) s' q number) z.1 (worker-front before number j event step))
        (λ (z : (nat_eq j k ≡ false) × (j ≢ k)). quiet before k number (of_worker j event) step (ap (flat_map (bytes_to number)) (not-own k j (event ∷ []) z.0)))
        (eqb_tells j k)
    step-front before (SharedEvent.Ours (AtCarrier event)) step k number = quiet before k number (SharedEvent.Ours (AtCarrier event)) step refl
    step-front before (SharedEvent.Ours (Handed j other)) step k number = quiet before k number (SharedEvent.Ours (Handed j other)) step refl
    step-front before (SharedEvent.Ours (AtNode j verdict)) step k number = quiet before k number (SharedEvent.Ours (AtNode j verdict)) step refl
    step-front before (SharedEvent.Ours (AtBroken j verdict)) step k number = quiet before k number (SharedEvent.Ours (AtBroken j verdict)) step refl
    step-front before (SharedEvent.Ours (Thrown j)) step k number = quiet before k number (SharedEvent.Ours (Thrown j)) step refl
    step-front before (SharedEvent.Ours (Moved event)) step k number = quiet before k number (SharedEvent.Ours (Moved event)) step refl
    step-front before (SharedEvent.Led event) step k number = quiet before k number (SharedEvent.Led event) step refl
    step-front before (SharedEvent.Theirs node asking theirs) step k number = quiet before k number (SharedEvent.Theirs node asking theirs) step refl

  every-front : (events done : List SharedEvent) (s s' : System C J) → FoldsTo SharedSystemStep s0 done s → FoldsTo SharedSystemStep s events s' → AllShown s → ((k number : ℕ) → Front done s k number)
      → (k number : ℕ) → Front (done ++ events) s' k number
  every-front [] done s s' steps same shown before k number =
      subst (λ es. Front es s' k number) (sym (append-nil done)) (subst (λ (x : System C J). Front done x k number) same (before k number))
  every-front (event ∷ events) done s s' steps (mid, step, more) shown before k number =
      subst (λ es. Front es s' k number) (append_assoc done (event ∷ []) events)
      (every-front events (done ++ event ∷ []) mid s' (folds-push SharedSystemStep done event s0 s mid steps step) more (step-shown C J law whole faulty plain s0 start done s mid steps shown event step)
      (step-front done s mid steps shown before event step) k number)

  none-there : AllShown s0
  none-there k number client here part less =
      let none : get (here.0).clients number ≡ None = ap (λ (m : FinMap nat_cmp (ClientModel C)). get m number) (start.idle k here.0 here.1).1 ∙ get-empty nat_cmp number in
      absurd (none-some (get (here.0).clients number) client none here.2)

module _ (C J : Type 0) (law : DrainsOutput) (whole : FrontIsWhole) (faulty : FrontIsFaulty) (plain : PlansArePlain) where
  pub shared-log-is-written : SharedLogIsWritten C J
  shared-log-is-written s s' events start steps k number =
      every-front C J law whole faulty plain s start events [] s s' refl steps (none-there C J law whole faulty plain s start) (λ j q. none-front [] (flat_map (answers_to j q) s.log)) k number

  pub log-is-written : LogIsWritten C J
  log-is-written s s' events start steps k number =
      subst (λ es. IsFront (flat_map (bytes_from number) es) (flat_map (answers_to k number) s'.log) (flat_map (bytes_to number) es)) (same-events k events)
      (shared-log-is-written s s' (map SharedEvent.Ours events) start (ours events s s' steps) k number)
