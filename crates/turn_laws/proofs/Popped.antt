-- The reply to one part is drained: an event of the machine.
use Rattle.std.proofs.Common.{◌≡◌, ◌≢◌, inl, ⊎_elim, ℕ, ◌+◌, ◌==◌, true, false, List, [], ◌∷◌, ◌++◌, Some, None, refl, sym, ap, ◌∙◌, arith, length}
use Rattle.std.specs.Prelude.{slice_get, slice_set, map}
use Rattle.std.specs.FinMap.{get, insert}
use Rattle.std.proofs.lemmas.List.{append-nil, map-append}
use Rattle.key_split.specs.Runs.{RunModel}
use Rattle.key_split.specs.declared.travel.Ticket.{Ticket}
use Rattle.key_split.specs.declared.travel.Ended.{Ended}
use Rattle.command_future.specs.declared.stage.Stage.TheVariants.{Over}
use Rattle.session_order.specs.declared.queue.PartStage.TheVariants.{Done}
use Rattle.proxy_lanes.specs.declared.ends.lane_ends.LaneEnds.{LaneEnds}
use Rattle.proxy_turns.specs.declared.newcomer.Newcomer.{Newcomer}
use Rattle.proxy_turns.specs.ClientModel.{ClientModel}
use Rattle.proxy_turns.specs.WorkerModel.{WorkerModel}
use Rattle.world_laws.specs.State.{WorldModel}
use Rattle.world_laws.specs.declared.history.Answer.{Answer}
use Rattle.world_laws.specs.declared.state.Arrival.{Arrival}
use Rattle.world_laws.specs.World.{WorldDoes}
use Rattle.world_laws.specs.declared.event.Event.TheVariants as ev
use Rattle.world_laws.proofs.Recorded.{at-set}
use Rattle.turn_laws.specs.Walks.{ticked, IsSharedWalked}
use Rattle.turn_laws.specs.System.{System, Mark, Answered, IsInStep}
use Rattle.turn_laws.specs.Shadow.{IsShadow, ClientShadow, LogShadow, StandsAt, ticket_at, ListShadow}
use Rattle.turn_laws.specs.Underway.{downs_of, ups_in}
use Rattle.turn_laws.proofs.Downs.{Pair}
use Rattle.turn_laws.proofs.Leading.{Leads}
use Rattle.turn_laws.proofs.Logs.{log-one, answers_of}
use Rattle.turn_laws.proofs.Onward.{AwaitsStill, fitting-on, others-set, worker-goes}
use Rattle.turn_laws.proofs.Popping.{popped, first-stands, waits, before, popped-shadow}
use Rattle.turn_laws.proofs.Posting.{all-before}
use Rattle.turn_laws.proofs.Rising.{walked-rising}
use Rattle.turn_laws.proofs.Telling.{count-set}
use Rattle.turn_laws.proofs.Told.{Fitting, fitting, own-set, SameParts, parts-set, lists-still}
use Rattle.turn_laws.proofs.Walks.{walked-on, walked-stands}

-- ---- one part

module _ {C J : Type 0} (s : System C J) (w : WorldModel) (h : IsShadow s w) (walked : IsSharedWalked w) (k number : ℕ) (model : WorkerModel C J) (client : ClientModel C)
    (at : slice_get s.workers k ≡ Some model) (got : get model.clients number ≡ Some client) (here : client.gone ≡ false)
    (end : Ended) (is-done : slice_get client.session.stages 0 ≡ Some Done) (has-end : slice_get client.session.ends 0 ≡ Some end) where
  abbrev downs : List Pair
  downs = downs_of s

  fits : Fitting s.workers (length s.carrier.lanes) w.workers downs w.commands
  fits = fitting s w (walked-stands w walked) h

  shadow : ClientShadow downs k number client w.commands
  shadow = (h.clients k model number client at got).1

  stands : StandsAt w.commands (ticket_at client.session client.session.first)
  stands = first-stands downs k number client w.commands shadow fits.own (walked-rising w walked) here end is-done has-end

  abbrev j : ℕ
  j = stands.0

  abbrev x : Arrival
  x = stands.1

  open-end : (x.answered ≡ false) × (x.command.stage ≡ Over end)
  open-end = waits downs k number client w.commands shadow fits.own (walked-rising w walked) here end is-done has-end j x stands.2 stands.3

  theirs : x.command.ticket.client ≡ number
  theirs = ap (λ (t : Ticket). t.client) stands.3 ∙ shadow.numbered

  abbrev y' : Arrival
  y' = record x { answered = true }

  abbrev commands' : List Arrival
  commands' = slice_set w.commands j y'

  abbrev answer : Answer
  answer = record { ticket = x.command.ticket; ended = end; arrived = x.arrived; answered = w.moment + 1 }

  abbrev w' : WorldModel
  w' = record w { commands = commands'; ups = w.ups; answers = w.answers ++ answer ∷ []; moment = w.moment + 1 }

  does : WorldDoes (ticked w) (ev.Answer number) w'
  does = (
    j,
    x,
    end,
    stands.2,
    theirs,
    open-end.0,
    open-end.1,
    all-before (λ (d : Arrival). d.command.ticket.client ≡ number → d.answered ≡ true) w.commands j
        (λ i d lt e n. before downs k number client w.commands shadow fits.own (walked-rising w walked) here end is-done has-end j x stands.2 stands.3 i d lt e n),
    refl,
  )

  abbrev client2 : ClientModel C
  client2 = record client { session = popped client.session }

  abbrev model2 : WorkerModel C J
  model2 = record model { clients = insert model.clients number client2 }

  abbrev mark : Mark
  mark = Answered (ticket_at client.session client.session.first) end

  abbrev s2 : System C J
  s2 = record s { workers = slice_set s.workers k model2; log = s.log ++ mark ∷ [] }

  parts : SameParts w.commands commands'
  parts = parts-set w.commands j x y' stands.2 refl refl refl

  client-now : ClientShadow downs k number client2 commands'
  client-now = popped-shadow downs k number client w.commands shadow fits.own (walked-rising w walked) here end is-done has-end j x stands.2 stands.3

  still-awaits : AwaitsStill (slice_set s.workers k model2) w.commands commands'
  still-awaits i a e awaits' = ⊎_elim
      (λ (z : (i ≡ j) × (a ≡ y')). inl (j, x, stands.2, ap (λ (u : Arrival). u.command) (sym z.1)))
      (λ (z : (i ≢ j) × (slice_get w.commands i ≡ Some a)). inl (i, a, z.1, refl))
      (at-set w.commands j y' i a e)

  fits' : Fitting (slice_set s.workers k model2) (length s.carrier.lanes) w.workers downs commands'
  fits' = fitting-on s.workers (length s.carrier.lanes) w.workers downs w.commands commands' fits k number model model2 client client2 at got refl refl
      (own-set w.commands j x y' fits.own stands.2 refl)
      (λ n m c ne sh. others-set downs m n c w.commands j x y' stands.2 (refl, refl, λ e. e) (λ e. ne (e ∙ theirs)) sh)
      client-now
      (λ n ne. count-set (λ (c : Arrival). c.command.ticket.client == n) w.commands j x y' stands.2 refl)
      (λ part c e awaits'. e)
      still-awaits
      (λ part c e. inl (c, e, refl))
      (λ i a node e wants. ⊎_elim
      (λ (z : (i ≡ j) × (a ≡ y')). (j, x, stands.2, ap (λ (u : Arrival). u.command) (sym z.1)))
      (λ (z : (i ≢ j) × (slice_get w.commands i ≡ Some a)). (i, a, z.1, refl))
      (at-set w.commands j y' i a e))

  own-lane : (lane : LaneEnds (Newcomer C J)) → slice_get s.carrier.lanes k ≡ Some lane → IsInStep model2.outlet lane.up × ListShadow (record w { commands = commands'; ups = w.ups }) k (ups_in model2 lane (slice_get s.carrier.pending_runs k))
  own-lane lane q =
      let was : ListShadow w k (ups_in model lane (slice_get s.carrier.pending_runs k)) = h.lanes k model lane at q in
      (h.up_steps k model lane at q, same-ups (slice_get s.carrier.pending_runs k) (was.0, lists-still w.commands commands' parts.parts k (ups_in model lane (slice_get s.carrier.pending_runs k)) was.1))
    where
      same-ups : (o : _) → ListShadow (record w { commands = commands'; ups = w.ups }) k (ups_in model lane o) → ListShadow (record w { commands = commands'; ups = w.ups }) k (ups_in model2 lane o)
      same-ups None x = x
      same-ups (Some b) x = x

  other-lanes : (i : ℕ) (runs : List RunModel) → i ≢ k → ListShadow w i runs → ListShadow (record w { commands = commands'; ups = w.ups }) i runs
  other-lanes i runs ne was = (was.0, lists-still w.commands commands' parts.parts i runs was.1)

  logged : LogShadow (s.log ++ mark ∷ []) w'
  logged = log-one s.log w w' mark (w.moment + 1) h.log (omega arith) (omega arith)
      (parts.seen ∙ sym (append-nil (map _ w.commands)))
      (sym (append-nil w.history))
      (map-append (λ (a : Answer). (a.ticket, a.ended, a.answered)) w.answers (answer ∷ []) ∙ (λ i. answers_of w.answers ++ (stands.3 i, end, w.moment + 1) ∷ []))

  answered-one : IsShadow s2 w'
  answered-one = worker-goes s w h k model model2 at (s.log ++ mark ∷ []) commands' w.ups (w.answers ++ answer ∷ []) (w.moment + 1) refl refl own-lane other-lanes parts.parts fits' logged

  pub one-answered : Leads s w k model2 (mark ∷ [])
  one-answered = (ev.Answer number ∷ [], w', (w', does, refl), walked-on w w' (ev.Answer number ∷ []) walked (w', does, refl), answered-one)
