-- What the log says was answered is what the client was told.
use Rattle.std.proofs.Common.{◌≡◌, ◌⊎◌, inl, inr, ⊎_elim, ◌++◌, ◌∷◌, [], ◌+◌, ◌-◌, ◌&&◌, List, ℕ, zero, suc, refl, ap, sym, subst, ◌∙◌, Option, Some, None, Ok, Bool, true, false, cond, append_assoc, arith, take, drop, length, map}
use Rattle.std.specs.Prelude.{nat_eq, slice_get}
use Rattle.std.specs.List.{FoldsTo, flat_map, list_all}
use Rattle.std.specs.FinMap.{FinMap, get, get-empty}
use Rattle.std.specs.Ordering.{nat_cmp}
use Rattle.std.proofs.lemmas.Bool.{false≢true}
use Rattle.std.proofs.lemmas.Grind.{flat_map-append}
use Rattle.std.proofs.lemmas.List.{append-nil}
use Rattle.resp_wire.specs.Laws.{FrontIsFaulty, FrontIsWhole}
use Rattle.key_split.specs.Laws.{PlansArePlain}
use Rattle.key_split.specs.declared.travel.Ticket.{Ticket}
use Rattle.key_split.specs.declared.travel.Ended.{Ended}
use Rattle.session_order.specs.SessionModel.{SessionModel}
use Rattle.session_order.specs.declared.queue.PartStage.{PartStage}
use Rattle.session_order.specs.declared.queue.PartStage.TheVariants.{Waiting, Out, Done}
use Rattle.session_order.specs.Turn.{is_done}
use Rattle.session_order.specs.Replies.{DrainOutcome, parts_of}
use Rattle.session_order.specs.Output.{end_of}
use Rattle.session_order.specs.Life.{DrainsOutput}
use Rattle.session_order.proofs.Fewer.{first_done}
use Rattle.session_order.proofs.Told.{Tables}
use Rattle.proxy_turns.specs.ClientModel.{ClientModel}
use Rattle.proxy_turns.specs.ClientTurn.{Pulled, Fed, Read, HandedOut, Followed, Looked, CameBack, Posted, Drained, Pushed, Tried, Parted, Dropped, most_drained}
use Rattle.proxy_turns.specs.WorkerModel.{WorkerModel, WorkerEvent, Did, Finished, Took, FoundNone, Came, TurnedAway, FoundNobody, Left}
use Rattle.turn_laws.specs.Wire.{Execution}
use Rattle.turn_laws.specs.System.{System, Mark, Answered}
use Rattle.turn_laws.specs.Sharing.{SharedEvent, SharedSystemStep}
use Rattle.turn_laws.specs.Steps.{AtWorker, AtCarrier, Handed, AtNode, AtBroken, Thrown, Moved, WorkerStep, answers, arrivals, log_of, ticket_at}
use Rattle.turn_laws.specs.PortsMay.{any_moves}
use Rattle.turn_laws.specs.Refines.{IsStart}
use Rattle.turn_laws.specs.LogOutput.{AnswersWereTold, SharedAnswersWereTold}
use Rattle.turn_laws.specs.ClientSees.{bytes_from, bytes_to, ends_for}
use Rattle.turn_laws.specs.Arrivals.{own_events_at}
use Rattle.turn_laws.proofs.Addresses.{led-frame}
use Rattle.turn_laws.proofs.Elements.{nothing-there}
use Rattle.turn_laws.proofs.Tables.{put-same}
use Rattle.turn_laws.proofs.Ending.{one-of}
use Rattle.turn_laws.proofs.OwnEvents.{ours, same-events}
use Rattle.turn_laws.proofs.Sharing.{shared-refines}
use Rattle.turn_laws.proofs.SessionLives.{Lived, flat-push, folds-push}
use Rattle.turn_laws.proofs.SessionTells.{HasTold}
use Rattle.turn_laws.proofs.ClientLives.{LivesOn}
use Rattle.turn_laws.proofs.WrittenClients.{all-events, here-is, shared-steps}

-- an end that was told stays
pick : (b : Bool) (x e : Ended) (r r' : Option Ended) → (r ≡ Some e → r' ≡ Some e) → cond b (Some x) r ≡ Some e → cond b (Some x) r' ≡ Some e
pick true x e r r' h is = is
pick false x e r r' h is = h is

end-more : (told more : List (Ticket × Ended)) (number : ℕ) (end : Ended) → end_of told number ≡ Some end → end_of (told ++ more) number ≡ Some end
end-more [] more number end is = absurd (cc)
end-more (t ∷ told) more number end is = pick (nat_eq t.0.part number) t.1 end (end_of told number) (end_of (told ++ more) number) (end-more told more number end) is

-- an item of two lists is of one of them
pub either : {X : Type 0} (xs ys : List X) (i : ℕ) (x : X) → slice_get (xs ++ ys) i ≡ Some x → (slice_get xs i ≡ Some x) ⊎ ((j : ℕ) × (slice_get ys j ≡ Some x))
either [] ys i x at = inr (i, at)
either (y ∷ xs) ys zero x at = inl at
either (y ∷ xs) ys (suc i) x at = either xs ys i x at

-- ---- what one event shows

-- each answer among these marks is of this session, and was told
abbrev AreTold : List (Ticket × Ended) → SessionModel → List Mark → Type 0
AreTold told held marks = (i : ℕ) (ticket : Ticket) (end : Ended) → slice_get marks i ≡ Some (Answered ticket end)
    → (end_of told ticket.part ≡ Some end) × (ticket.worker ≡ held.worker) × (ticket.client ≡ held.client)

none-answered : (told : List (Ticket × Ended)) (held : SessionModel) → AreTold told held []
none-answered told held i ticket end at = absurd (nothing-there i (Answered ticket end) at)

arrivals-told : (told : List (Ticket × Ended)) (own held : SessionModel) (n : ℕ) (stages : List PartStage) → AreTold told own (arrivals held n stages)
arrivals-told told own held n [] i ticket end at = none-answered told own i ticket end at
arrivals-told told own held n (Waiting part ∷ stages) zero ticket end at = absurd (cc)
arrivals-told told own held n (Waiting part ∷ stages) (suc i) ticket end at = arrivals-told told own held (suc n) stages i ticket end at
arrivals-told told own held n (Out slot ∷ stages) i ticket end at = arrivals-told told own held (suc n) stages i ticket end at
arrivals-told told own held n (Done ∷ stages) i ticket end at = arrivals-told told own held (suc n) stages i ticket end at

both : (a b : Bool) → (a && b) ≡ true → (a ≡ true) × (b ≡ true)
both true b e = (refl, e)
both false b e = absurd (cc)

same-ticket : (t u : Ticket) (e f : Ended) → Answered t e ≡ Answered u f → t ≡ u
same-ticket t u e f is = cc

same-end : (t u : Ticket) (e f : Ended) → Answered t e ≡ Answered u f → e ≡ f
same-end t u e f is = cc

first-told : (told : List (Ticket × Ended)) (held : SessionModel) (n : ℕ) (stage : PartStage) (end : Ended) → end_of told n ≡ cond (is_done stage) (Some end) None → is_done stage ≡ true
    → (ticket : Ticket) (other : Ended) → Answered (ticket_at held n) end ≡ Answered ticket other → (end_of told ticket.part ≡ Some other) × (ticket.worker ≡ held.worker) × (ticket.client ≡ held.client)
first-told told held n stage end is done ticket other same =
    let its : ticket_at held n ≡ ticket = same-ticket (ticket_at held n) ticket end other same in (
      ap (λ (t : Ticket). end_of told t.part) (sym its) ∙ is ∙ ap (λ b. cond b (Some end) None) done ∙ ap Some (same-end (ticket_at held n) ticket end other same),
      ap (λ (t : Ticket). t.worker) (sym its),
      ap (λ (t : Ticket). t.client) (sym its),
    )

-- the ends of the first parts, which are done
answers-told : (told : List (Ticket × Ended)) (held : SessionModel) (n m : ℕ) (stages : List PartStage) (ends : List Ended) → Tables told n stages ends → list_all is_done (take m stages) ≡ true
    → AreTold told held (answers held n (take m ends))
answers-told told held n zero stages ends tables done i ticket end at = none-answered told held i ticket end at
answers-told told held n (suc m) [] [] tables done i ticket end at = none-answered told held i ticket end at
answers-told told held n (suc m) [] (e ∷ ends) tables done i ticket end at = absurd tables
answers-told told held n (suc m) (s ∷ stages) [] tables done i ticket end at = absurd tables
answers-told told held n (suc m) (s ∷ stages) (e ∷ ends) tables done zero ticket end at =
    let same : Answered (ticket_at held n) e ≡ Answered ticket end = one-of (Some (Answered (ticket_at held n) e)) (Answered (ticket_at held n) e) (Answered ticket end) refl at in
    first-told told held n s e tables.0 (both (is_done s) (list_all is_done (take m stages)) done).0 ticket end same
answers-told told held n (suc m) (s ∷ stages) (e ∷ ends) tables done (suc i) ticket end at =
    answers-told told held (suc n) m stages ends tables.1 (both (is_done s) (list_all is_done (take m stages)) done).1 i ticket end at

drained-told : (told : List (Ticket × Ended)) (n : ℕ) (old new : SessionModel) (before after : List ℕ) → HasTold told old → DrainOutcome most_drained old before (Ok n) new after
    → AreTold told old (answers old old.first (take (new.first - old.first) old.ends))
drained-told told n old new before after held (bytes, grown, count, drains) =
    let m : ℕ = parts_of (take drains.count old.requests) in
    let many : new.first - old.first ≡ m = ap (λ (x : SessionModel). x.first - old.first) drains.left ∙ (let a : old.first + m - old.first ≡ m = omega arith in a) in
    subst (λ j. AreTold told old (answers old old.first (take j old.ends))) (sym many)
    (answers-told told old old.first m old.stages old.ends held.0 (first_done drains.count old.requests old.stages old.ends drains.written.in_order))

there-lived : {C : Type 0} (came : List ℕ) (ends : List (Ticket × Ended)) (went : List ℕ) (client : ClientModel C) → client.gone ≡ false → LivesOn came ends went client
    → Lived came ends went client.session client.unfed client.unpushed
there-lived came ends went client here (inl (still, lived, out)) = lived
there-lived came ends went client here (inr (gone, none, front)) = absurd (false≢true (sym here ∙ gone))

-- ---- the log

-- the ends that the client of this ticket was told so far
abbrev so_far : List SharedEvent → Ticket → List (Ticket × Ended)
so_far done ticket = flat_map (ends_for ticket.client) (flat_map (own_events_at ticket.worker) done)

-- each answer among these marks was told
abbrev WereTold : List SharedEvent → List Mark → Type 0
WereTold done marks = (i : ℕ) (ticket : Ticket) (end : Ended) → slice_get marks i ≡ Some (Answered ticket end) → end_of (so_far done ticket) ticket.part ≡ Some end

none-told : (done : List SharedEvent) → WereTold done []
none-told done i ticket end at = absurd (nothing-there i (Answered ticket end) at)

-- nodes do not answer
executed-told : (done : List SharedEvent) (all : List Execution) → WereTold done (log_of all)
executed-told done [] i ticket end at = absurd (nothing-there i (Answered ticket end) at)
executed-told done (one ∷ all) zero ticket end at = absurd (cc)
executed-told done (one ∷ all) (suc i) ticket end at = absurd (nothing-there i (Answered ticket end) at)

-- one more step, and what it shows
then-told : (done : List SharedEvent) (event : SharedEvent) (log marks : List Mark) → WereTold done log → WereTold done marks → WereTold (done ++ event ∷ []) (log ++ marks)
then-told done event log marks before now i ticket end at =
    let was : end_of (so_far done ticket) ticket.part ≡ Some end = ⊎_elim
    (λ (z : slice_get log i ≡ Some (Answered ticket end)). before i ticket end z)
    (λ (z : (j : ℕ) × (slice_get marks j ≡ Some (Answered ticket end))). now z.0 ticket end z.1)
    (either log marks i (Answered ticket end) at) in
    let more : so_far (done ++ event ∷ []) ticket ≡ so_far done ticket ++ flat_map (ends_for ticket.client) (own_events_at ticket.worker event) =
    ap (flat_map (ends_for ticket.client)) (flat-push (own_events_at ticket.worker) done event) ∙ flat_map-append (ends_for ticket.client) (flat_map (own_events_at ticket.worker) done) (own_events_at ticket.worker event) in
    ap (λ ends. end_of ends ticket.part) more ∙ end-more (so_far done ticket) (flat_map (ends_for ticket.client) (own_events_at ticket.worker event)) ticket.part end was

same-log : (done : List SharedEvent) (event : SharedEvent) (log : List Mark) → WereTold done log → WereTold (done ++ event ∷ []) log
same-log done event log before = subst (WereTold (done ++ event ∷ [])) (append-nil log) (then-told done event log [] before (none-told done))

-- the log of a system
abbrev log_in : {C J : Type 0} → System C J → List Mark
log_in s = s.log

module _ (C J : Type 0) (law : DrainsOutput) (whole : FrontIsWhole) (faulty : FrontIsFaulty) (plain : PlansArePlain) (s0 : System C J) (start : IsStart s0) where
  pub lives-at : (done : List SharedEvent) (s : System C J) → FoldsTo SharedSystemStep s0 done s → (k number : ℕ) (model : WorkerModel C J) (client : ClientModel C) → slice_get s.workers k ≡ Some model
      → get model.clients number ≡ Some client
      → LivesOn (flat_map (bytes_from number) (flat_map (own_events_at k) done)) (flat_map (ends_for number) (flat_map (own_events_at k) done)) (flat_map (bytes_to number) (flat_map (own_events_at k) done)) client
  lives-at done s steps k number model client at got =
      let (old, was, does) = shared-steps k model done s0 s steps at in
      let stands = all-events number any_moves law whole faulty (flat_map (own_events_at k) done) [] [] [] old model does
      (inl (ap (λ (m : FinMap nat_cmp (ClientModel C)). get m number) (start.idle k old was).1 ∙ get-empty nat_cmp number, refl, refl, refl)) in
      (here-is number _ _ _ model client got stands).1

  -- the life of a client that is there
  pub lived-at : (done : List SharedEvent) (s : System C J) → FoldsTo SharedSystemStep s0 done s → (k number : ℕ) (model : WorkerModel C J) (client : ClientModel C) → slice_get s.workers k ≡ Some model
      → get model.clients number ≡ Some client → client.gone ≡ false
      → Lived (flat_map (bytes_from number) (flat_map (own_events_at k) done)) (flat_map (ends_for number) (flat_map (own_events_at k) done)) (flat_map (bytes_to number) (flat_map (own_events_at k) done))
      client.session client.unfed client.unpushed
  lived-at done s steps k number model client at got here = there-lived _ _ _ client here (lives-at done s steps k number model client at got)

  pub whose : (done : List SharedEvent) (s : System C J) → FoldsTo SharedSystemStep s0 done s → (k number : ℕ) (model : WorkerModel C J) (client : ClientModel C) → slice_get s.workers k ≡ Some model
      → get model.clients number ≡ Some client → (client.session.worker ≡ k) × (client.session.client ≡ number)
  whose done s steps k number model client at got = let shadow = ((shared-refines C J plain s0 s done start steps).2.clients k model number client at got).1 in (shadow.housed, shadow.numbered)

  -- the marks of a drain
  pub marks-drained : (s s' : System C J) (k number n : ℕ) (step : WorkerStep s k (Did number (Drained n)) s') → let d = step.does in
      step.marks ≡ answers (d.0).session (d.0).session.first (take ((d.1).session.first - (d.0).session.first) (d.0).session.ends)
  marks-drained s s' k number n step =
      let d = step.does in
      let was : step.seen.0 ≡ d.0 = one-of (get (step.old).clients number) step.seen.0 d.0 step.seen.2 d.2 in
      let becomes : step.seen.1 ≡ d.1 = one-of (get (step.new).clients number) step.seen.1 d.1 step.seen.3 (ap (λ (x : WorkerModel C J). get x.clients number) d.4 ∙ put-same (step.old).clients number d.1) in
      step.seen.4 ∙ (λ i. answers (was i).session (was i).session.first (take ((becomes i).session.first - (was i).session.first) (was i).session.ends))

  -- what a worker's event shows
  drained-marks : (done : List SharedEvent) (s s' : System C J) → FoldsTo SharedSystemStep s0 done s → (k number n : ℕ) (step : WorkerStep s k (Did number (Drained n)) s') → WereTold done step.marks
  drained-marks done s s' steps k number n step =
      let d = step.does in
      let client : ClientModel C = d.0 in
      let client' : ClientModel C = d.1 in
      let told = (lived-at done s steps k number step.old client step.at d.2 d.3.0).held in
      let of = whose done s steps k number step.old client step.at d.2 in
      subst (WereTold done) (sym (marks-drained s s' k number n step)) (λ i ticket end at.
      let t = drained-told (flat_map (ends_for number) (flat_map (own_events_at k) done)) n client.session client'.session client.unpushed client'.unpushed told d.3.1 i ticket end at in
      let worker : ticket.worker ≡ k = t.1 ∙ of.0 in
      let own : ticket.client ≡ number = t.2 ∙ of.1 in
      ap (λ ends. end_of ends ticket.part) (λ j. flat_map (ends_for (own j)) (flat_map (own_events_at (worker j)) done)) ∙ t.0)

  worker-marks : (done : List SharedEvent) (s s' : System C J) → FoldsTo SharedSystemStep s0 done s → (k : ℕ) (event : WorkerEvent) (step : WorkerStep s k event s') → WereTold done step.marks
  worker-marks done s s' steps k (Did number (Drained n)) step = drained-marks done s s' steps k number n step
  worker-marks done s s' steps k (Did number (Read result)) step =
      subst (WereTold done) (sym step.seen.4) (λ i ticket end at.
      let old : SessionModel = (step.seen.0).session in
      let new : SessionModel = (step.seen.1).session in
      (arrivals-told (so_far done ticket) old old (old.first + length old.stages) (drop (length old.stages) new.stages) i ticket end at).0)
  worker-marks done s s' steps k (Did number (Pulled bytes)) step = subst (WereTold done) (sym step.seen.4) (none-told done)
  worker-marks done s s' steps k (Did number (Fed result)) step = subst (WereTold done) (sym step.seen.4) (none-told done)
  worker-marks done s s' steps k (Did number (HandedOut ticket part)) step = subst (WereTold done) (sym step.seen.4) (none-told done)
  worker-marks done s s' steps k (Did number (Followed ticket part)) step = subst (WereTold done) (sym step.seen.4) (none-told done)
  worker-marks done s s' steps k (Did number (Looked slot)) step = subst (WereTold done) (sym step.seen.4) (none-told done)
  worker-marks done s s' steps k (Did number (CameBack run)) step = subst (WereTold done) (sym step.seen.4) (none-told done)
  worker-marks done s s' steps k (Did number (Posted run)) step = subst (WereTold done) (sym step.seen.4) (none-told done)
  worker-marks done s s' steps k (Did number (Pushed bytes)) step = subst (WereTold done) (sym step.seen.4) (none-told done)
  worker-marks done s s' steps k (Did number Tried) step = subst (WereTold done) (sym step.seen.4) (none-told done)
  worker-marks done s s' steps k (Did number Parted) step = subst (WereTold done) (sym step.seen.4) (none-told done)
  worker-marks done s s' steps k (Did number (Dropped tickets)) step = subst (WereTold done) (sym step.seen.4) (none-told done)
  worker-marks done s s' steps k (Finished number ticket end) step = subst (WereTold done) (sym step.seen) (none-told done)
  worker-marks done s s' steps k (Took ticket told) step = subst (WereTold done) (sym step.seen) (none-told done)
  worker-marks done s s' steps k FoundNone step = subst (WereTold done) (sym step.seen) (none-told done)
  worker-marks done s s' steps k (Came number) step = subst (WereTold done) (sym step.seen) (none-told done)
  worker-marks done s s' steps k (TurnedAway number) step = subst (WereTold done) (sym step.seen) (none-told done)
  worker-marks done s s' steps k FoundNobody step = subst (WereTold done) (sym step.seen) (none-told done)
  worker-marks done s s' steps k (Left number) step = subst (WereTold done) (sym step.seen) (none-told done)

  one-step : (done : List SharedEvent) (s s' : System C J) → FoldsTo SharedSystemStep s0 done s → (event : SharedEvent) → SharedSystemStep s event s' → WereTold done s.log → WereTold (done ++ event ∷ []) s'.log
  one-step done s s' steps (SharedEvent.Ours (AtWorker k event)) step before =
      subst (WereTold (done ++ SharedEvent.Ours (AtWorker k event) ∷ [])) (sym (ap log_in step.leaves)) (then-told done (SharedEvent.Ours (AtWorker k event)) s.log step.marks before (worker-marks done s s' steps k event step))
  one-step done s s' steps (SharedEvent.Ours (AtCarrier event)) step before = subst (WereTold (done ++ SharedEvent.Ours (AtCarrier event) ∷ [])) (sym (ap log_in step.leaves)) (same-log done (SharedEvent.Ours (AtCarrier event)) s.log before)
  one-step done s s' steps (SharedEvent.Ours (Handed k number)) step before = subst (WereTold (done ++ SharedEvent.Ours (Handed k number) ∷ [])) (sym (ap log_in step.4)) (same-log done (SharedEvent.Ours (Handed k number)) s.log before)
  one-step done s s' steps (SharedEvent.Ours (AtNode k verdict)) step before =
      subst (WereTold (done ++ SharedEvent.Ours (AtNode k verdict) ∷ [])) (sym (ap log_in step.10)) (then-told done (SharedEvent.Ours (AtNode k verdict)) s.log (log_of step.4) before (executed-told done step.4))
  one-step done s s' steps (SharedEvent.Ours (AtBroken j verdict)) step before =
      subst (WereTold (done ++ SharedEvent.Ours (AtBroken j verdict) ∷ [])) (sym (ap log_in step.7)) (then-told done (SharedEvent.Ours (AtBroken j verdict)) s.log (log_of step.3) before (executed-told done step.3))
  one-step done s s' steps (SharedEvent.Ours (Thrown j)) step before = subst (WereTold (done ++ SharedEvent.Ours (Thrown j) ∷ [])) (sym (ap log_in step.2)) (same-log done (SharedEvent.Ours (Thrown j)) s.log before)
  one-step done s s' steps (SharedEvent.Ours (Moved event)) step before = subst (WereTold (done ++ SharedEvent.Ours (Moved event) ∷ [])) (sym (ap log_in step.1)) (same-log done (SharedEvent.Ours (Moved event)) s.log before)
  one-step done s s' steps (SharedEvent.Led event) step before =
      let frame = led-frame event s s' step in
      subst (WereTold (done ++ SharedEvent.Led event ∷ [])) (sym frame.log) (then-told done (SharedEvent.Led event) s.log (log_of frame.done) before (executed-told done frame.done))
  one-step done s s' steps (SharedEvent.Theirs node asking theirs) step before =
      subst (WereTold (done ++ SharedEvent.Theirs node asking theirs ∷ [])) (sym (ap log_in step.1)) (then-told done (SharedEvent.Theirs node asking theirs) s.log (log_of theirs) before (executed-told done theirs))

  every-step : (events done : List SharedEvent) (s s' : System C J) → FoldsTo SharedSystemStep s0 done s → FoldsTo SharedSystemStep s events s' → WereTold done s.log → WereTold (done ++ events) s'.log
  every-step [] done s s' steps same before = subst (λ es. WereTold es s'.log) (sym (append-nil done)) (subst (λ (x : System C J). WereTold done x.log) same before)
  every-step (event ∷ events) done s s' steps (mid, step, more) before =
      subst (λ es. WereTold es s'.log) (append_assoc done (event ∷ []) events)
      (every-step events (done ++ event ∷ []) mid s' (folds-push SharedSystemStep done event s0 s mid steps step) more (one-step done s mid steps event step before))

module _ (C J : Type 0) (law : DrainsOutput) (whole : FrontIsWhole) (faulty : FrontIsFaulty) (plain : PlansArePlain) where
  pub shared-answers-were-told : SharedAnswersWereTold C J
  shared-answers-were-told s s' events start steps =
      every-step C J law whole faulty plain s start events [] s s' refl steps (subst (WereTold []) (sym start.log) (none-told []))

  pub answers-were-told : AnswersWereTold C J
  answers-were-told s s' events start steps i ticket end at =
      subst (λ es. end_of (flat_map (ends_for ticket.client) es) ticket.part ≡ Some end) (same-events ticket.worker events)
      (shared-answers-were-told s s' (map SharedEvent.Ours events) start (ours events s s' steps) i ticket end at)
