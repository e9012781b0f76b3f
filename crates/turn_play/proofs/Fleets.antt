-- A call of one play is steps of a fleet.
use Rattle.std.proofs.Common.{◌≡◌, ◌≢◌, ◌∙◌, inl, inr, ⊎_elim, ℕ, ◌==◌, Bool, true, false, List, [], ◌∷◌, ◌++◌, append_assoc, length, map, refl, sym, ap, subst}
use Rattle.std.specs.Prelude.{All, Result, if◌then◌else◌}
use Rattle.std.proofs.lemmas.Bool.Decides.{eqb_tells}
use Rattle.std.proofs.lemmas.List.{append-nil}
use Rattle.std.proofs.lemmas.List.Elements.{All-append, All-head, All-nil, All-tail, All-weaker}
use Rattle.node_model.specs.Nodes.{ClusterModel}
use Rattle.proxy_turns.specs.Port.{Moves}
use Rattle.world_laws.specs.declared.event.Event.{Event}
use Rattle.world_laws.specs.declared.event.Event.TheVariants as core
use Rattle.turn_laws.specs.System.{System, Mark}
use Rattle.turn_laws.specs.Asking.{NoneAsksIn}
use Rattle.turn_laws.specs.Steps.{SystemEvent, AtWorker, AtCarrier, Handed, AtNode, AtBroken, Thrown, Moved, SystemStep, log_of}
use Rattle.turn_laws.specs.Sharing.{SharedEvent}
use Rattle.turn_laws.specs.Fleet.{EveryFleet, Fleet, FleetEvent, FleetFollows, FleetRun, FleetStep, FleetsStand, IsFleetStart, IsSeenByOthers, foreign}
use Rattle.turn_laws.specs.Writing.{CanBeNamed, WrittenIsHeard}
use Rattle.turn_play.specs.declared.fault.PlayFault.{PlayFault}
use Rattle.turn_play.specs.declared.moves.Move.{Move}
use Rattle.turn_play.specs.declared.order.Order.{Order}
use Rattle.turn_play.specs.declared.order.Order.TheVariants as order
use Rattle.turn_play.specs.May.{HearsItsNodes, MayMoveNow, MayNow}
use Rattle.turn_play.specs.Moving.{event_of}
use Rattle.turn_play.specs.Beside.{AreGivenBeside, LeadsBeside, MayNowBeside, MayStepBeside, StepBeside}
use Rattle.turn_play.specs.Playing.{PlayModel, Shows}
use Rattle.turn_play.specs.Port.{IsEnd, IsFresh, longest_run, port_calls}
use Rattle.turn_play.specs.Turns.{EnginesPlay, IsTurns}
use Rattle.turn_play.specs.Obeying.{IsOurs}
use Rattle.turn_play.specs.Deeds.{AreDeeds, Deed, IsEventOf, left_by, steps_of}
use Rattle.turn_play.specs.Fleets.{FleetGoes, HandedInFleets, IsFleetReached, OthersWait, PlaysAreFleets, ShowsAll, after_call}
use Rattle.turn_play.proofs.ServedWires.{ByteLaws}
use Rattle.turn_play.proofs.Refining.{step-holds}
use Rattle.turn_play.proofs.Playing.{same-engine}
use Rattle.turn_play.proofs.Handed.{IsHanded, handed-beside, handed-given}
use Rattle.turn_play.proofs.Deeds.{did-all}

-- ---- which event is a step of a slot

abbrev is_moved : SystemEvent → Bool
is_moved (AtWorker k event) = false
is_moved (AtCarrier event) = false
is_moved (Handed k number) = false
is_moved (AtNode k verdict) = false
is_moved (AtBroken j verdict) = false
is_moved (Thrown j) = false
is_moved (Moved event) = true

no-move : (event : SystemEvent) (e : Event) → is_moved event ≡ false → event ≡ Moved e → ⊥
no-move event e still is = let it : true ≡ false = ap is_moved (sym is) ∙ still in absurd (cc)

turns-still : (event : SystemEvent) → IsTurns event → is_moved event ≡ false
turns-still (AtWorker j event) x = refl
turns-still (AtCarrier event) x = refl
turns-still (Handed j number) x = absurd x
turns-still (AtNode j verdict) x = absurd x
turns-still (AtBroken j verdict) x = absurd x
turns-still (Thrown j) x = absurd x
turns-still (Moved event) x = absurd x

abbrev moved_by : SystemEvent → Event → Event
moved_by (Moved event) other = event
moved_by (AtWorker k event) other = other
moved_by (AtCarrier event) other = other
moved_by (Handed k number) other = other
moved_by (AtNode k verdict) other = other
moved_by (AtBroken j verdict) other = other
moved_by (Thrown j) other = other

same-move : (a b : Event) → Moved a ≡ Moved b → a ≡ b
same-move a b e = ap (λ (event : SystemEvent). moved_by event a) e

module _ {C J : Type 0} where
  -- others wait for a step, which is the proxy's own
  abbrev WaitFor : Fleet C J → ℕ → SharedEvent → Type 0
  WaitFor f p (SharedEvent.Ours event) = (slot target : ℕ) → event ≡ Moved (core.Import slot target) → (q : ℕ) → q ≢ p → NoneAsksIn (f q) slot target
  WaitFor f p (SharedEvent.Led event) = ⊥
  WaitFor f p (SharedEvent.Theirs node asking done) = ⊥

  still-waits : (f : Fleet C J) (p : ℕ) (event : SystemEvent) → is_moved event ≡ false → WaitFor f p (SharedEvent.Ours event)
  still-waits f p event still slot target is = absurd (no-move event (core.Import slot target) still is)

  move-waits : (f : Fleet C J) (p : ℕ) (move : Move) (event : SystemEvent) → ((q : ℕ) → q ≢ p → MayMoveNow (f q) (event_of move)) → event ≡ Moved (event_of move) → WaitFor f p (SharedEvent.Ours event)
  move-waits f p move event waits is slot target imports q ne =
      subst (MayMoveNow (f q)) (same-move (event_of move) (core.Import slot target) (sym is ∙ imports)) (waits q ne)

  event-waits : (f : Fleet C J) (p : ℕ) (what : Order) (event : SharedEvent) → IsOurs what → OthersWait f p what → IsEventOf what event → WaitFor f p event
  event-waits f p order.Turn (SharedEvent.Ours event) ours waits is = still-waits f p event (turns-still event is)
  event-waits f p (order.Serve node verdict) (SharedEvent.Ours event) ours waits (inl is) = still-waits f p event (ap is_moved is)
  event-waits f p (order.Serve node verdict) (SharedEvent.Ours event) ours waits (inr is) = still-waits f p event (ap is_moved is)
  event-waits f p (order.Break node) (SharedEvent.Ours event) ours waits is = absurd is
  event-waits f p (order.Cut node most) (SharedEvent.Ours event) ours waits is = absurd is
  event-waits f p (order.Move move) (SharedEvent.Ours event) ours waits is = move-waits f p move event waits is
  event-waits f p (order.Others node asking parts) (SharedEvent.Ours event) ours waits is = absurd ours
  event-waits f p order.Turn (SharedEvent.Led event) ours waits is = absurd is
  event-waits f p (order.Serve node verdict) (SharedEvent.Led event) ours waits is = absurd is
  event-waits f p (order.Break node) (SharedEvent.Led event) ours waits is = absurd is
  event-waits f p (order.Cut node most) (SharedEvent.Led event) ours waits is = absurd is
  event-waits f p (order.Move move) (SharedEvent.Led event) ours waits is = absurd is
  event-waits f p (order.Others node asking parts) (SharedEvent.Led event) ours waits is = absurd ours
  event-waits f p order.Turn (SharedEvent.Theirs n a done) ours waits is = absurd is
  event-waits f p (order.Serve node verdict) (SharedEvent.Theirs n a done) ours waits is = absurd is
  event-waits f p (order.Break node) (SharedEvent.Theirs n a done) ours waits is = absurd is
  event-waits f p (order.Cut node most) (SharedEvent.Theirs n a done) ours waits is = absurd is
  event-waits f p (order.Move move) (SharedEvent.Theirs n a done) ours waits is = absurd is
  event-waits f p (order.Others node asking parts) (SharedEvent.Theirs n a done) ours waits is = absurd ours

  abbrev AllWait : Fleet C J → ℕ → List (StepBeside C J) → Type 0
  AllWait f p steps = All (λ (step : StepBeside C J). WaitFor f p step.event) steps

  steps-wait : (f : Fleet C J) (p : ℕ) (what : Order) → IsOurs what → OthersWait f p what → (steps : List (StepBeside C J)) → All (λ (step : StepBeside C J). IsEventOf what step.event) steps → AllWait f p steps
  steps-wait f p what ours waits steps all = All-weaker (λ (step : StepBeside C J). IsEventOf what step.event) (λ (step : StepBeside C J). WaitFor f p step.event) (λ step is. event-waits f p what step.event ours waits is) steps all

  module _ (f : Fleet C J) (p : ℕ) (moves : Moves C) (gives_none takes_none : C → Type 0) where
    deeds-wait : (orders : List Order) (old : PlayModel C J) (result : Result (Unit {0}) PlayFault) (new : PlayModel C J) (s : System C J) (deeds : List (Deed C J)) → AreDeeds moves gives_none takes_none s old orders result deeds new
        → All IsOurs orders → All (OthersWait f p) orders → AllWait f p (steps_of deeds)
    deeds-wait [] old result new s [] x ours waits = All-nil (λ (step : StepBeside C J). WaitFor f p step.event)
    deeds-wait [] old result new s (deed ∷ deeds) x ours waits = absurd x
    deeds-wait (what ∷ orders) old result new s [] x ours waits = absurd x
    deeds-wait (what ∷ orders) old result new s (deed ∷ deeds) x ours waits =
        All-append (λ (step : StepBeside C J). WaitFor f p step.event) deed.steps (steps_of deeds)
        (steps-wait f p what (All-head IsOurs what orders ours) (All-head (OthersWait f p) what orders waits) deed.steps x.2)
        (⊎_elim
        (λ y. deeds-wait orders y.0 result new deed.next deeds y.3 (All-tail IsOurs what orders ours) (All-tail (OthersWait f p) what orders waits))
        (λ y. subst (λ (ds : List (Deed C J)). AllWait f p (steps_of ds)) (sym y.4) (All-nil (λ (step : StepBeside C J). WaitFor f p step.event)))
        x.3)

  -- ---- a fleet

  run-on : (events : List FleetEvent) (f g h : Fleet C J) (event : FleetEvent) → FleetRun C J f events g → FleetStep C J g event h → FleetRun C J f (events ++ event ∷ []) h
  run-on [] f g h event r x = (h, subst (λ (z : Fleet C J). FleetStep C J z event h) r x, refl)
  run-on (e ∷ events) f g h event r x = (r.0, r.1, run-on events r.0 g h event r.2 x)

  -- all have the same nodes
  abbrev Shared : Fleet C J → Type 0
  Shared f = (a b : ℕ) → (f a).cluster ≡ (f b).cluster

  by-one : (f g : Fleet C J) (p : ℕ) → IsSeenByOthers C J f p g → Shared g
  by-one f g p x a b = at a ∙ sym (at b)
    where
      at : (q : ℕ) → (g q).cluster ≡ (g p).cluster
      at q = ⊎_elim (λ (y : ((q == p) ≡ true) × (q ≡ p)). ap (λ z. (g z).cluster) y.1) (λ (y : ((q == p) ≡ false) × (q ≢ p)). ap (λ (z : System C J). z.cluster) (x.2 q y.1)) (eqb_tells q p)

  shared-step : (event : FleetEvent) (f g : Fleet C J) → FleetStep C J f event g → Shared g
  shared-step (FleetEvent.By p event) f g x a b = by-one f g p x.2 a b
  shared-step (FleetEvent.Led p event) f g x a b = by-one f g p x.1 a b
  shared-step (FleetEvent.Outside node asking done) f g x a b = x.1 a b

  shared-run : (events : List FleetEvent) (f g : Fleet C J) → FleetRun C J f events g → Shared f → Shared g
  shared-run [] f g r shared = subst Shared (sym r) shared
  shared-run (event ∷ events) f g r shared = shared-run events r.0 g r.2 (shared-step event f r.0 r.1)

  -- but for the nodes and the log the other proxies are as they were
  abbrev Aside : Fleet C J → ℕ → Fleet C J → Type 0
  Aside f p g = (q : ℕ) → q ≢ p → g q ≡ record (f q) { cluster = (g q).cluster; log = (g q).log }

  none-aside : (s : System C J) (k : ClusterModel) (log : List Mark) (slot target : ℕ) → NoneAsksIn s slot target → NoneAsksIn (record s { cluster = k; log = log }) slot target
  none-aside s k log slot target h = record { wants = h.wants; told = h.told; said = h.said; lies = h.lies; sent = h.sent; broken = h.broken }

  once-more : (f g h : Fleet C J) (p : ℕ) → Aside f p g → ((q : ℕ) → q ≢ p → h q ≡ record (g q) { cluster = (h q).cluster; log = (h q).log }) → Aside f p h
  once-more f g h p aside next q ne = next q ne ∙ (λ i. record (aside q ne i) { cluster = (h q).cluster; log = (h q).log })

  -- what a step of a proxy leaves of another
  left-aside : (g h : System C J) (k : ClusterModel) (log : List Mark) → h ≡ record g { cluster = k; log = log } → h ≡ record g { cluster = h.cluster; log = h.log }
  left-aside g h k log e = e ∙ (λ i. record g { cluster = (sym e i).cluster; log = (sym e i).log })

module _ (C J : Type 0) (heard : WrittenIsHeard) (stand : FleetsStand C J) (follows : FleetFollows C J) (start : Fleet C J) (fresh : IsFleetStart C J start) (hears : (q : ℕ) → HearsItsNodes (start q)) (f : Fleet C J) (p : ℕ) where
  -- it hears its nodes still
  hears-now : (events : List FleetEvent) (g : Fleet C J) → FleetRun C J start events g → HearsItsNodes (g p)
  hears-now events g r =
      let s = stand start g events fresh r p in
      record { named = subst (λ nodes. All CanBeNamed nodes) (sym s.nodes) (hears p).named; stands = s.slots (hears p).stands }

  abbrev Led : List FleetEvent → System C J → Type 0
  Led before s' = (events : List SystemEvent) × (h : Fleet C J) × FleetRun C J start (before ++ map (FleetEvent.By p) events) h × (h p ≡ s') × Aside f p h

  one-more : (before : List FleetEvent) (event : SystemEvent) (s' : System C J) → Led (before ++ FleetEvent.By p event ∷ []) s' → Led before s'
  one-more before event s' x = (
    event ∷ x.0,
    x.1,
    subst (λ es. FleetRun C J start es x.1) (append_assoc before (FleetEvent.By p event ∷ []) (map (FleetEvent.By p) x.0)) x.2,
    x.3,
    x.4,
  )

  waits-all : (g : Fleet C J) → Aside f p g → (event : SystemEvent) (next : System C J) → MayNow (g p) event next → WaitFor f p (SharedEvent.Ours event)
      → (slot target : ℕ) → event ≡ Moved (core.Import slot target) → (q : ℕ) → NoneAsksIn (g q) slot target
  waits-all g aside event next may waits slot target is q = ⊎_elim
      (λ (y : ((q == p) ≡ true) × (q ≡ p)). subst (λ z. NoneAsksIn (g z) slot target) (sym y.1) (subst (λ e. MayNow (g p) e next) is may))
      (λ (y : ((q == p) ≡ false) × (q ≢ p)).
      subst (λ (z : System C J). NoneAsksIn z slot target) (sym (aside q y.1)) (none-aside (f q) (g q).cluster (g q).log slot target (waits slot target is q y.1)))
      (eqb_tells q p)

  abbrev Next : List FleetEvent → System C J → Type 0
  Next before next = (event : SystemEvent) × (h : Fleet C J) × FleetRun C J start (before ++ FleetEvent.By p event ∷ []) h × (h p ≡ next) × Aside f p h

  -- a step of the proxy
  goes : (before : List FleetEvent) (g : Fleet C J) → FleetRun C J start before g → Aside f p g → (event : SharedEvent) (next : System C J) → MayStepBeside (g p) event next → MayNowBeside (g p) event next → WaitFor f p event
      → Next before next
  goes before g r aside (SharedEvent.Led event) next may now waits = absurd waits
  goes before g r aside (SharedEvent.Theirs node asking done) next may now waits = absurd waits
  goes before g r aside (SharedEvent.Ours event) next may now waits =
      let s = stand start g before fresh r p in
      let x : SystemStep (g p) event next = step-holds heard (g p) next s.world s.shadow s.names (hears-now before g r) event may now in
      let step = follows g p event next x (waits-all g aside event next now waits) in (
        event,
        step.0,
        run-on before start g step.0 (FleetEvent.By p event) r step.1,
        step.2,
        once-more f g step.0 p aside (λ q ne. left-aside (g q) (step.0 q) (step.0 p).cluster ((g q).log ++ log_of (map (foreign (length (g q).workers)) step.1.2.0)) (step.1.2.2 q ne)),
      )

  walk : (steps : List (StepBeside C J)) (before : List FleetEvent) (g : Fleet C J) → FleetRun C J start before g → Aside f p g → (s' : System C J) → LeadsBeside (g p) steps s' → AreGivenBeside (g p) steps → AllWait f p steps
      → Led before s'
  walk [] before g r aside s' leads given waits = ([], g, subst (λ es. FleetRun C J start es g) (sym (append-nil before)) r, leads, aside)
  walk (step ∷ steps) before g r aside s' leads given waits =
      let one = goes before g r aside step.event step.next leads.0 given.0 (All-head (λ (x : StepBeside C J). WaitFor f p x.event) step steps waits) in
      one-more before one.0 s'
      (walk steps (before ++ FleetEvent.By p one.0 ∷ []) one.1 one.2 one.4 s' (subst (λ (z : System C J). LeadsBeside z steps s') (sym one.3) leads.1)
      (subst (λ (z : System C J). AreGivenBeside z steps) (sym one.3) given.1)
      (All-tail (λ (x : StepBeside C J). WaitFor f p x.event) step steps waits))

module _ {C J : Type 0} where
  -- the plays after the call are shown
  shown-after : (plays : ℕ → PlayModel C J) (p : ℕ) (new : PlayModel C J) (f h : Fleet C J) → ShowsAll plays f → Aside f p h → Shared h → Shows new (h p) → ShowsAll (after_call plays p new) h
  shown-after plays p new f h shows aside shared shown q = ⊎_elim
      (λ (y : ((q == p) ≡ true) × (q ≡ p)).
      subst (λ (play : PlayModel C J). Shows play (h q)) (ap (λ b. if b then new else record (plays q) { cluster = new.cluster }) (sym y.0)) (subst (λ z. Shows new (h z)) (sym y.1) shown))
      (λ (y : ((q == p) ≡ false) × (q ≢ p)).
      subst (λ (play : PlayModel C J). Shows play (h q)) (ap (λ b. if b then new else record (plays q) { cluster = new.cluster }) (sym y.0)) (record {
        engine = same-engine IsEnd (plays q).engine (f q) (h q) (shows q).engine (ap (λ (t : System C J). t.workers) (aside q y.1)) (ap (λ (t : System C J). t.carrier) (aside q y.1));
        cluster = shared q p ∙ shown.cluster;
        nodes = ap (λ (t : System C J). t.nodes) (aside q y.1) ∙ (shows q).nodes;
      }))
      (eqb_tells q p)

module _ (C J : Type 0) (heard : WrittenIsHeard) (stand : FleetsStand C J) (follows : FleetFollows C J) (every : EveryFleet C J) where
  -- steps of one proxy, for which the others wait
  fleet-goes : (plays : ℕ → PlayModel C J) (p : ℕ) (new : PlayModel C J) (f : Fleet C J) → ShowsAll plays f → (start : Fleet C J) (before : List FleetEvent) → IsFleetReached start before f
      → (steps : List (StepBeside C J)) (s : System C J) → LeadsBeside (f p) steps s → Shows new s → AreGivenBeside (f p) steps → AllWait f p steps → FleetGoes plays p new start before
  fleet-goes plays p new f shows start before reached steps s leads shown given waits =
      let led = walk C J heard stand follows start reached.starts reached.hears f p steps before f reached.runs (λ q ne. refl) s leads given waits in
      let all : List FleetEvent = before ++ map (FleetEvent.By p) led.0 in (
        led.0,
        led.1,
        record { starts = reached.starts; hears = reached.hears; runs = led.2 },
        shown-after plays p new f led.1 shows led.4 (shared-run all start led.1 led.2 (reached.starts).shared) (subst (λ (z : System C J). Shows new z) (sym led.3) shown),
        every start led.1 all reached.starts led.2,
      )

  -- a client that was handed over is no step of a slot
  handed-waits : (f : Fleet C J) (p number : ℕ) (event : SharedEvent) → IsHanded number event → WaitFor f p event
  handed-waits f p number event is = subst (WaitFor f p) (sym is) (still-waits f p (Handed 0 number) refl)

  pub handed-in-fleets : HandedInFleets C J
  handed-in-fleets plays p client handed new x f shows =
      let one = handed-beside (plays p) new client handed x (f p) (shows p) in
      let waits = All-weaker (λ (step : StepBeside C J). IsHanded client.number step.event) (λ (step : StepBeside C J). WaitFor f p step.event) (λ step is. handed-waits f p client.number step.event is) one.1.0 one.1.3 in (
        one.0,
        one.1.0,
        one.1.1,
        one.2,
        λ start before reached. fleet-goes plays p new f shows start before reached one.1.0 one.0 one.1.1 one.2 (handed-given client.number one.1.0 (f p) one.1.3) waits,
      )

  module _ (moves : Moves C) (gives_none takes_none : C → Type 0) (engines : EnginesPlay C J moves IsEnd port_calls IsFresh longest_run) (laws : ByteLaws) where
    pub plays-are-fleets : PlaysAreFleets C J moves gives_none takes_none
    plays-are-fleets plays p orders result new ours x stays f shows =
        let did = did-all C J moves gives_none takes_none engines laws orders (plays p) result new x stays (f p) (shows p) in (
          did.0,
          did.1.0,
          λ start before reached given waits.
              fleet-goes plays p new f shows start before reached (steps_of did.0) (left_by (f p) did.0) did.1.2 did.1.1 (did.1.3 given)
              (deeds-wait f p moves gives_none takes_none orders (plays p) result new (f p) did.0 did.1.0 ours waits),
        )
