-- One part is read: an event of the machine.
use Rattle.std.proofs.Common.{◌≡◌, ◌≢◌, inl, ⊎_elim, ℕ, ◌+◌, ◌==◌, ◌%◌, false, List, [], ◌∷◌, ◌++◌, Some, None, refl, sym, ap, ◌∙◌, arith, length}
use Rattle.std.specs.Prelude.{slice_get, slice_set, cond, map}
use Rattle.std.specs.FinMap.{get, insert}
use Rattle.std.proofs.lemmas.List.{append-nil}
use Rattle.key_split.specs.PartModel.{PartModel, HasOneSlot}
use Rattle.key_split.specs.Runs.{RunModel}
use Rattle.key_split.specs.declared.travel.Ticket.{Ticket}
use Rattle.proxy_lanes.specs.declared.ends.lane_ends.LaneEnds.{LaneEnds}
use Rattle.proxy_turns.specs.declared.newcomer.Newcomer.{Newcomer}
use Rattle.proxy_turns.specs.ClientModel.{ClientModel}
use Rattle.proxy_turns.specs.WorkerModel.{WorkerModel}
use Rattle.world_laws.specs.State.{WorldModel}
use Rattle.world_laws.specs.declared.state.Arrival.{Arrival}
use Rattle.world_laws.specs.World.{WorldDoes, arrival}
use Rattle.world_laws.specs.declared.event.Event.TheVariants.{Arrive}
use Rattle.world_laws.proofs.Recorded.{at-last, before-last}
use Rattle.turn_laws.specs.Walks.{ticked, IsSharedWalked}
use Rattle.turn_laws.specs.System.{System, Mark, Arrived, IsInStep}
use Rattle.turn_laws.specs.Shadow.{IsShadow, ClientShadow, LogShadow, ticket_at, ListShadow}
use Rattle.turn_laws.specs.Underway.{downs_of, ups_in}
use Rattle.turn_laws.proofs.Downs.{Pair}
use Rattle.turn_laws.proofs.Leading.{Leads}
use Rattle.turn_laws.proofs.Logs.{log-one, arrivals_of}
use Rattle.turn_laws.proofs.Onward.{AwaitsStill, fitting-on, worker-goes}
use Rattle.turn_laws.proofs.Posted.{not-same}
use Rattle.turn_laws.proofs.Pushing.{pushed, next_of, count-more, pushed-shadow, others-more}
use Rattle.turn_laws.proofs.Rising.{above-all, map-more}
use Rattle.turn_laws.proofs.Telling.{wants-no}
use Rattle.turn_laws.proofs.Told.{Fitting, AreOwn, PartsStay, fitting, lists-still}
use Rattle.turn_laws.proofs.Walks.{walked-on, walked-stands}
use Rattle.turn_laws.proofs.Holding.{plain-asks}

module _ {C J : Type 0} (s : System C J) (w : WorldModel) (h : IsShadow s w) (walked : IsSharedWalked w) (k number : ℕ) (model : WorkerModel C J) (client : ClientModel C)
    (at : slice_get s.workers k ≡ Some model) (got : get model.clients number ≡ Some client) (here : client.gone ≡ false) (part : PartModel) (one-slot : HasOneSlot part) where
  abbrev downs : List Pair
  downs = downs_of s

  fits : Fitting s.workers (length s.carrier.lanes) w.workers downs w.commands
  fits = fitting s w (walked-stands w walked) h

  shadow : ClientShadow downs k number client w.commands
  shadow = (h.clients k model number client at got).1

  home : number % w.workers ≡ k
  home = (h.clients k model number client at got).0

  abbrev y : Arrival
  y = arrival (ticked w) number part

  ticketed : y.command.ticket ≡ ticket_at client.session (next_of client.session)
  ticketed = λ i. record { worker = (home ∙ sym shadow.housed) i; client = sym shadow.numbered i; part = shadow.all here i }

  abbrev commands' : List Arrival
  commands' = w.commands ++ y ∷ []

  abbrev w' : WorldModel
  w' = record w { commands = commands'; ups = w.ups; answers = w.answers; moment = w.moment + 1 }

  does : WorldDoes (ticked w) (Arrive number part) w'
  does = (one-slot, refl)

  abbrev client2 : ClientModel C
  client2 = record client { session = pushed client.session part }

  abbrev model2 : WorkerModel C J
  model2 = record model { clients = insert model.clients number client2 }

  abbrev mark : Mark
  mark = Arrived (ticket_at client.session (next_of client.session)) part

  abbrev s2 : System C J
  s2 = record s { workers = slice_set s.workers k model2; log = s.log ++ mark ∷ [] }

  parts : PartsStay w.commands commands'
  parts t p x = (x.0, x.1, before-last w.commands (y ∷ []) x.0 x.1 x.2, x.3, x.4)

  own : AreOwn commands'
  own i j a b p q e = ⊎_elim
      (λ (u : slice_get w.commands i ≡ Some a). ⊎_elim
      (λ (v : slice_get w.commands j ≡ Some b). fits.own i j a b u v e)
      (λ (v : (j ≡ length w.commands) × (b ≡ y)). absurd (beyond i a u (e ∙ ap (λ (c : Arrival). c.command.ticket) v.1)))
      (at-last w.commands y j b q))
      (λ (u : (i ≡ length w.commands) × (a ≡ y)). ⊎_elim
      (λ (v : slice_get w.commands j ≡ Some b). absurd (beyond j b v (sym e ∙ ap (λ (c : Arrival). c.command.ticket) u.1)))
      (λ (v : (j ≡ length w.commands) × (b ≡ y)). u.0 ∙ sym v.0)
      (at-last w.commands y j b q))
      (at-last w.commands y i a p)
    where
      beyond : (i : ℕ) (a : Arrival) → slice_get w.commands i ≡ Some a → a.command.ticket ≡ y.command.ticket → ⊥
      beyond i a u e = let lt = above-all w (walked-stands w walked) number i a u (ap (λ (t : Ticket). t.client) e) in omega (arith, lt, ap (λ (t : Ticket). t.part) e)

  client-now : ClientShadow downs k number client2 commands'
  client-now = pushed-shadow downs k number client w.commands shadow here part y refl ticketed refl

  still-awaits : AwaitsStill (slice_set s.workers k model2) w.commands commands'
  still-awaits i a e awaits' = ⊎_elim
      (λ (z : slice_get w.commands i ≡ Some a). inl (i, a, z, refl))
      (λ (z : (i ≡ length w.commands) × (a ≡ y)). absurd (wants-no None (ap (λ (u : Arrival). u.command.stage) (sym z.1) ∙ awaits')))
      (at-last w.commands y i a e)

  fits' : Fitting (slice_set s.workers k model2) (length s.carrier.lanes) w.workers downs commands'
  fits' = fitting-on s.workers (length s.carrier.lanes) w.workers downs w.commands commands' fits k number model model2 client client2 at got refl refl
      own
      (λ n m c ne sh. others-more downs m n c w.commands y (λ e. ne (sym e)) (not-same number n (λ e. ne (sym e))) sh)
      client-now
      (λ n ne. count-more (λ (c : Arrival). c.command.ticket.client == n) w.commands y 0 (ap (λ b. cond {A = ℕ} b 1 0) (not-same number n (λ e. ne (sym e)))) ∙ omega arith)
      (λ p c e awaits'. e)
      still-awaits
      (λ p c e. inl (c, e, refl))
      (λ i a node e wants. ⊎_elim
      (λ (z : slice_get w.commands i ≡ Some a). (i, a, z, refl))
      (λ (z : (i ≡ length w.commands) × (a ≡ y)). absurd (plain-asks node (ap (λ (u : Arrival). u.command.stage) (sym z.1) ∙ wants)))
      (at-last w.commands y i a e))

  own-lane : (lane : LaneEnds (Newcomer C J)) → slice_get s.carrier.lanes k ≡ Some lane → IsInStep model2.outlet lane.up × ListShadow (record w { commands = commands'; ups = w.ups }) k (ups_in model2 lane (slice_get s.carrier.pending_runs k))
  own-lane lane q =
      let was : ListShadow w k (ups_in model lane (slice_get s.carrier.pending_runs k)) = h.lanes k model lane at q in
      (h.up_steps k model lane at q, same-ups (slice_get s.carrier.pending_runs k) (was.0, lists-still w.commands commands' parts k (ups_in model lane (slice_get s.carrier.pending_runs k)) was.1))
    where
      same-ups : (o : _) → ListShadow (record w { commands = commands'; ups = w.ups }) k (ups_in model lane o) → ListShadow (record w { commands = commands'; ups = w.ups }) k (ups_in model2 lane o)
      same-ups None x = x
      same-ups (Some b) x = x

  other-lanes : (i : ℕ) (runs : List RunModel) → i ≢ k → ListShadow w i runs → ListShadow (record w { commands = commands'; ups = w.ups }) i runs
  other-lanes i runs ne was = (was.0, lists-still w.commands commands' parts i runs was.1)

  logged : LogShadow (s.log ++ mark ∷ []) w'
  logged = log-one s.log w w' mark (w.moment + 1) h.log (omega arith) (omega arith)
      (map-more (λ (c : Arrival). (c.command.ticket, c.command.part, c.arrived)) w.commands y ∙ (λ i. arrivals_of w.commands ++ (ticketed i, part, w.moment + 1) ∷ []))
      (sym (append-nil w.history))
      (sym (append-nil (map _ w.answers)))

  arrived-one : IsShadow s2 w'
  arrived-one = worker-goes s w h k model model2 at (s.log ++ mark ∷ []) commands' w.ups w.answers (w.moment + 1) refl refl own-lane other-lanes parts fits' logged

  pub one-arrived : Leads s w k model2 (mark ∷ [])
  one-arrived = (Arrive number part ∷ [], w', (w', does, refl), walked-on w w' (Arrive number part ∷ []) walked (w', does, refl), arrived-one)
