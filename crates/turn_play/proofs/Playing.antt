-- What each order does is steps of a system.
use Rattle.std.proofs.Common.{◌≡◌, inl, inr, ℕ, zero, suc, Bool, true, false, List, [], ◌∷◌, ◌++◌, Some, Ok, refl, sym, ap, ◌∙◌, subst}
use Rattle.std.specs.Prelude.{Result, Err, All, slice_get, slice_set}
use Rattle.std.proofs.lemmas.List.Elements.{All-cons, All-head, All-nil, All-tail}
use Rattle.slot_map.specs.Table.{Endpoint}
use Rattle.node_model.specs.Nodes.{ClusterModel}
use Rattle.node_model.specs.declared.role.Verdict.{Verdict}
use Rattle.node_link.specs.Bytes.{Splits}
use Rattle.proxy_turns.specs.declared.newcomer.Newcomer.{Newcomer}
use Rattle.proxy_turns.specs.declared.backend.Backend.{Backend}
use Rattle.proxy_turns.specs.CarrierModel.{CarrierModel}
use Rattle.proxy_turns.specs.Swapping.{SwapOutcome, with_port}
use Rattle.proxy_engine.specs.EngineModel.{EngineModel}
use Rattle.proxy_engine.specs.Unseen.{LanesKnow}
use Rattle.world_laws.specs.declared.event.Event.{Event}
use Rattle.turn_laws.specs.Wire.{Wire}
use Rattle.turn_laws.specs.ByteWires.{FarEnd, over_stream}
use Rattle.turn_laws.specs.System.{System}
use Rattle.turn_laws.specs.Steps.{SystemEvent, AtWorker, AtCarrier, Handed, AtNode, AtBroken, Thrown, Moved, log_of}
use Rattle.turn_laws.specs.AnyPort.{IsWired, AreWired, over_link, link_over, over_backend, over_backends, over_wires}
use Rattle.turn_play.specs.declared.fault.PlayFault.{PlayFault}
use Rattle.turn_play.specs.declared.fault.PlayFault.TheVariants as fault
use Rattle.turn_play.specs.May.{MayServeNext, ClusterMoves, ListsItsNodes, MayNow, MayMoveNow}
use Rattle.turn_play.specs.Played.{Step, Leads, PlaysRefine}
use Rattle.turn_laws.specs.Sharing.{SharedEvent}
use Rattle.turn_play.specs.Beside.{StepBeside, LeadsBeside, MayNowBeside}
use Rattle.turn_play.specs.Turns.{IsTurns, PlaysEngine, ShowsCarrier, ShowsEngine}
use Rattle.turn_play.specs.Port.{PortModel, IsEnd}
use Rattle.turn_play.specs.Stream.{StreamModel, StreamServes, far_end}
use Rattle.turn_play.specs.Connection.{ChangesStream, ServesAt, ServesThere}
use Rattle.turn_play.specs.Obeying.{StaysInOrder}
use Rattle.turn_play.specs.Deeds.{IsServing}
use Rattle.turn_play.specs.Playing.{PlayModel, Shows, PlaysTo, PlaysSoundly}
use Rattle.turn_play.proofs.ServedWires.{ByteLaws, IsHeardAs, served}
use Rattle.turn_play.proofs.Turning.{leads-join, set-itself}

-- ---- the wire of a backend

module _ {P : Type 0} (wired : P → Wire → Type 0) where
  abbrev WireAt : List (Backend P) → List Wire → ℕ → Backend P → Type 0
  WireAt backends wires k backend = (wire : Wire) × IsWired wired backend.link wire × (slice_get (over_backends backends wires) k ≡ Some (over_backend backend wire))

  wire-at : (backends : List (Backend P)) (wires : List Wire) → AreWired wired backends wires → (k : ℕ) (backend : Backend P) → slice_get backends k ≡ Some backend → WireAt backends wires k backend
  wire-at [] wires on k backend e = absurd (cc)
  wire-at (b ∷ bs) [] on k backend e = absurd on
  wire-at (b ∷ bs) (w ∷ ws) on zero backend e = let same : b ≡ backend = cc in (w, subst (λ (x : Backend P). IsWired wired x.link w) same on.0, λ i. Some (over_backend (same i) w))
  wire-at (b ∷ bs) (w ∷ ws) on (suc k) backend e = wire-at bs ws on.1 k backend e

  set-wired : (backends : List (Backend P)) (wires : List Wire) → AreWired wired backends wires → (k : ℕ) (backend : Backend P) (wire : Wire) → IsWired wired backend.link wire
      → AreWired wired (slice_set backends k backend) (slice_set wires k wire)
  set-wired [] [] on k backend wire x = tt
  set-wired [] (w ∷ ws) on k backend wire x = absurd on
  set-wired (b ∷ bs) [] on k backend wire x = absurd on
  set-wired (b ∷ bs) (w ∷ ws) on zero backend wire x = (x, on.1)
  set-wired (b ∷ bs) (w ∷ ws) on (suc k) backend wire x = (on.0, set-wired bs ws on.1 k backend wire x)

  set-over : (backends : List (Backend P)) (wires : List Wire) → AreWired wired backends wires → (k : ℕ) (backend : Backend P) (wire : Wire)
      → over_backends (slice_set backends k backend) (slice_set wires k wire) ≡ slice_set (over_backends backends wires) k (over_backend backend wire)
  set-over [] [] on k backend wire = refl
  set-over [] (w ∷ ws) on k backend wire = absurd on
  set-over (b ∷ bs) [] on k backend wire = absurd on
  set-over (b ∷ bs) (w ∷ ws) on zero backend wire = refl
  set-over (b ∷ bs) (w ∷ ws) on (suc k) backend wire = ap (λ xs. over_backend b w ∷ xs) (set-over bs ws on.1 k backend wire)

-- ---- a play

-- of this something is said
abbrev CanBeSaid : Result Bool PlayFault → Type 0
CanBeSaid (Ok moved) = Unit {0}
CanBeSaid (Err why) = StaysInOrder (Err why)

-- a change of a stream that leaves its far end as it was
abbrev pub KeepsEnd : (StreamModel → StreamModel) → Type 0
KeepsEnd change = (stream : StreamModel) → far_end (change stream) ≡ far_end stream

-- then the port stands for the wire as before
same-end : (port : PortModel) (wire : Wire) (stream : StreamModel) → far_end stream ≡ far_end port.bytes.stream → IsEnd port wire → IsEnd (over_stream port stream) wire
same-end port wire stream same on = record {
  served = on.served;
  coming = on.coming;
  given = on.given;
  asks = on.asks ∙ ap (λ (e : FarEnd). e.asking) (sym same);
  plain = on.plain;
  bounds = on.bounds;
  goes = ap (λ (e : FarEnd). e.unserved ++ port.bytes.unsent) same ∙ on.goes;
  awaits = on.awaits;
  comes = subst (λ (e : FarEnd). Splits port.bytes.input.bounds (port.bytes.input.unread ++ e.unread) on.coming []) (sym same) on.comes;
  answers = on.answers;
  values = on.values;
}

-- how a serving is heard
as-event : (node : ℕ) (given how : Verdict) → IsHeardAs given how → IsServing node given (AtNode node how)
as-event node given how (inl same) = inl (ap (AtNode node) same)
as-event node given how (inr again) = inr (ap (AtNode node) again)

module _ {C J : Type 0} where
  -- The events of these steps may happen, each in the system that it finds, where the carrier's table lists nodes of the cluster behind it.
  abbrev pub AreMay : System C J → List (Step C J) → Type 0
  AreMay s [] = Unit {0}
  AreMay s (step ∷ steps) = (ListsItsNodes step.next → MayNow s step.event step.next) × AreMay step.next steps

  abbrev pub EachIs : (SystemEvent → Type 0) → List (Step C J) → Type 0
  EachIs Is steps = All (λ (step : Step C J). Is step.event) steps

  none-is : (Is : SystemEvent → Type 0) → EachIs Is []
  none-is Is = All-nil (λ (step : Step C J). Is step.event)

  pub one-is : (Is : SystemEvent → Type 0) (step : Step C J) → Is step.event → EachIs Is (step ∷ [])
  one-is Is step x = All-cons (λ (step : Step C J). Is step.event) step [] x (none-is Is)

  -- Each system that showed the old play took steps to one that shows the new, each such an event. Where this is given of the system, they
  -- may happen.
  abbrev pub PlaysWhere : (System C J → Type 0) → (SystemEvent → Type 0) → PlayModel C J → PlayModel C J → Type 0
  PlaysWhere Given Is old new = (s : System C J) → Shows old s → (s' : System C J) × ((steps : List (Step C J)) × Leads s steps s' × (Given s → AreMay s steps) × EachIs Is steps) × Shows new s'

  -- the same where others act
  abbrev pub AreMayBeside : System C J → List (StepBeside C J) → Type 0
  AreMayBeside s [] = Unit {0}
  AreMayBeside s (step ∷ steps) = (ListsItsNodes step.next → MayNowBeside s step.event step.next) × AreMayBeside step.next steps

  abbrev pub PlaysWhereBeside : (System C J → Type 0) → (SharedEvent → Type 0) → PlayModel C J → PlayModel C J → Type 0
  PlaysWhereBeside Given Is old new =
      (s : System C J) → Shows old s
      → (s' : System C J) × ((steps : List (StepBeside C J)) × LeadsBeside s steps s' × (Given s → AreMayBeside s steps) × All (λ (step : StepBeside C J). Is step.event) steps) × Shows new s'

  -- whatever is given of it
  pub plainly : (Given : System C J → Type 0) (Is : SystemEvent → Type 0) (old new : PlayModel C J) → PlaysWhere Given Is old new → PlaysTo old new
  plainly Given Is old new x s shows = let one = x s shows in (one.0, (one.1.0, one.1.1), one.2)

  turns-may : (event : SystemEvent) (s next : System C J) → IsTurns event → ListsItsNodes next → MayNow s event next
  turns-may (AtWorker j event) s next is lists = tt
  turns-may (AtCarrier event) s next is lists = lists
  turns-may (Handed j number) s next is lists = absurd is
  turns-may (AtNode j verdict) s next is lists = absurd is
  turns-may (AtBroken j verdict) s next is lists = absurd is
  turns-may (Thrown j) s next is lists = absurd is
  turns-may (Moved event) s next is lists = absurd is

  all-may : (steps : List (Step C J)) (s : System C J) → All (λ (step : Step C J). IsTurns step.event) steps → AreMay s steps
  all-may [] s all = tt
  all-may (step ∷ steps) s all =
      (turns-may step.event s step.next (All-head (λ (x : Step C J). IsTurns x.event) step steps all), all-may steps step.next (All-tail (λ (x : Step C J). IsTurns x.event) step steps all))

  -- nothing is asked of the system
  abbrev pub Any : System C J → Type 0
  Any s = Unit {0}

  pub plays-on : (a b c : PlayModel C J) → PlaysTo a b → PlaysTo b c → PlaysTo a c
  plays-on a b c x y s shows =
      let one = x s shows in
      let two = y one.0 one.2 in
      (two.0, (one.1.0 ++ two.1.0, leads-join s one.1.0 one.0 two.1.0 two.0 one.1.1 two.1.1), two.2)

  pub plays-none : (Given : System C J → Type 0) (Is : SystemEvent → Type 0) (a : PlayModel C J) → PlaysWhere Given Is a a
  plays-none Given Is a s shows = (s, ([], refl, (λ given. tt), none-is Is), shows)

  pub plays-soundly : PlaysRefine C J → (a b : PlayModel C J) → PlaysTo a b → PlaysSoundly a b
  plays-soundly refine a b x s shows =
      let one = x s shows in
      (one.0, one.1.0, one.1.1, one.2, λ start before fresh hears go given. refine start one.0 (before ++ one.1.0) fresh hears (leads-join start before s one.1.0 one.0 go one.1.1) given)

  -- a turn
  pub engine-turned : (old : PlayModel C J) (new : EngineModel C J PortModel) → ((s : System C J) → ShowsEngine IsEnd old.engine s → PlaysEngine IsEnd s new) → PlaysWhere Any IsTurns old (record old { engine = new })
  engine-turned old new turns s shows =
      let x = turns s shows.engine in (
        x.0,
        (x.1.0, x.1.1, (λ given. all-may x.1.0 s x.1.2), x.1.2),
        record { engine = x.2; cluster = ap (λ (t : System C J). t.cluster) x.3 ∙ shows.cluster; nodes = ap (λ (t : System C J). t.nodes) x.3 ∙ shows.nodes },
      )

  -- the same engine is shown where workers and carrier are the same
  pub same-engine : {P : Type 0} (wired : P → Wire → Type 0) (engine : EngineModel C J P) (s t : System C J) → ShowsEngine wired engine s → t.workers ≡ s.workers → t.carrier ≡ s.carrier → ShowsEngine wired engine t
  same-engine wired engine s t shows workers carrier = record {
    less = shows.less;
    knows = shows.knows;
    in_order = shows.in_order;
    first = shows.first;
    workers = workers ∙ shows.workers;
    carrier = (shows.carrier.0, shows.carrier.1, carrier ∙ shows.carrier.2);
  }

  -- a step of a move
  pub moved : (old : PlayModel C J) (event : Event) (k : ClusterModel) → ClusterMoves old.cluster event k → PlaysWhere (λ s. MayMoveNow s event) (λ e. e ≡ Moved event) old (record old { cluster = k })
  moved old event k x s shows =
      let next : System C J = record s { cluster = k } in (
        next,
        (record { event = Moved event; next = next } ∷ [], ((subst (λ (c : ClusterModel). ClusterMoves c event k) (sym shows.cluster) x, refl), refl), (λ given. ((λ lists. given), tt)), one-is (λ e. e ≡ Moved event) (record { event = Moved event; next = next }) refl),
        record { engine = same-engine IsEnd old.engine s next shows.engine refl refl; cluster = refl; nodes = shows.nodes },
      )

  -- ---- a port that is changed

  module _ (old new : CarrierModel (Newcomer C J) PortModel) (node : ℕ) (port port' : PortModel) (x : SwapOutcome node old port' (Ok port) new) (s : System C J) (shows : ShowsCarrier IsEnd old s) where
    -- the wire at the other end
    at-end : WireAt IsEnd old.backends shows.0 node x.0
    at-end = wire-at IsEnd old.backends shows.0 shows.1 node x.0 x.2

    its-end : IsEnd port at-end.0
    its-end =
        let linked : IsEnd x.1.port at-end.0 = subst (λ o. IsWired IsEnd o at-end.0) x.3 at-end.1 in
        subst (λ (p : PortModel). IsEnd p at-end.0) (sym x.5) linked

    -- the system's backend
    there : slice_get s.carrier.backends node ≡ Some (over_backend x.0 at-end.0)
    there = ap (λ (c : CarrierModel (Newcomer C J) Wire). slice_get c.backends node) shows.2 ∙ at-end.2

    -- the carrier over the wires after it
    abbrev after : Wire → CarrierModel (Newcomer C J) Wire
    after wire' = record s.carrier { backends = slice_set s.carrier.backends node (record (over_backend x.0 at-end.0) { link = Some (record (over_link x.1 at-end.0) { port = wire' }) }) }

    shows-after : (wire' : Wire) → IsEnd port' wire' → (t : System C J) → t.carrier ≡ after wire' → ShowsCarrier IsEnd new t
    shows-after wire' on t e = (
      slice_set shows.0 node wire',
      subst (λ bs. AreWired IsEnd bs (slice_set shows.0 node wire')) (sym (ap (λ (c : CarrierModel (Newcomer C J) PortModel). c.backends) x.6)) (set-wired IsEnd old.backends shows.0 shows.1 node (with_port x.0 x.1 port') wire' on),
      e ∙ (λ i. record (shows.2 i) { backends = slice_set (shows.2 i).backends node (over_backend (with_port x.0 x.1 port') wire') })
          ∙ sym ((λ i. over_wires (x.6 i) (slice_set shows.0 node wire')) ∙ (λ i. record (over_wires old shows.0) { backends = set-over IsEnd old.backends shows.0 shows.1 node (with_port x.0 x.1 port') wire' i })),
    )

  -- the carrier of an engine whose ends know less has the same connections
  swap-less : (less old new : CarrierModel (Newcomer C J) PortModel) (node : ℕ) (port port' : PortModel) → old ≡ record less { lanes = old.lanes } → SwapOutcome node old port' (Ok port) new → SwapOutcome node less port' (Ok port) (record less { backends = new.backends })
  swap-less less old new node port port' e x = (
    x.0,
    x.1,
    ap (λ (c : CarrierModel (Newcomer C J) PortModel). slice_get c.backends node) (sym e) ∙ x.2,
    x.3,
    x.4,
    x.5,
    λ i. record less { backends = (ap (λ (c : CarrierModel (Newcomer C J) PortModel). c.backends) x.6 ∙ ap (λ (c : CarrierModel (Newcomer C J) PortModel). slice_set c.backends node (with_port x.0 x.1 port')) e) i },
  )

  -- the backends alone have changed
  backends-alone : (old new : CarrierModel (Newcomer C J) PortModel) (node : ℕ) (port port' : PortModel) → SwapOutcome node old port' (Ok port) new → new ≡ record old { backends = new.backends }
  backends-alone old new node port port' x = x.6 ∙ (λ i. record old { backends = sym (ap (λ (c : CarrierModel (Newcomer C J) PortModel). c.backends) x.6) i })

  shows-backends : (old : EngineModel C J PortModel) (new : CarrierModel (Newcomer C J) PortModel) → new ≡ record old.carrier { backends = new.backends } → (s t : System C J) (shows : ShowsEngine IsEnd old s) → t.workers ≡ s.workers
      → ShowsCarrier IsEnd (record (shows.less.carrier) { backends = new.backends }) t → ShowsEngine IsEnd (record old { carrier = new }) t
  shows-backends old new only s t shows workers carrier =
      let less = shows.less in
      let lanes : new.lanes ≡ old.carrier.lanes = ap (λ (c : CarrierModel (Newcomer C J) PortModel). c.lanes) only in
      let known : new ≡ record less.carrier { backends = new.backends; lanes = new.lanes } =
      only ∙ (λ i. record (shows.knows.1.1 i) { backends = new.backends }) ∙ (λ i. record less.carrier { backends = new.backends; lanes = sym lanes i }) in
      record {
        less = record less { carrier = record less.carrier { backends = new.backends } };
        knows = (shows.knows.0, (subst (λ ls. LanesKnow less.carrier.lanes ls) (sym lanes) shows.knows.1.0, known));
        in_order = record { up = shows.in_order.up; down = shows.in_order.down; door = shows.in_order.door; view = shows.in_order.view };
        first = shows.first;
        workers = workers ∙ shows.workers;
        carrier = carrier;
      }

  -- an engine with this carrier
  abbrev pub with_carrier : PlayModel C J → CarrierModel (Newcomer C J) PortModel → PlayModel C J
  with_carrier old new = record old { engine = record old.engine { carrier = new } }

  module _ (old : PlayModel C J) (node : ℕ) (new : CarrierModel (Newcomer C J) PortModel) (port port' : PortModel) (x : SwapOutcome node old.engine.carrier port' (Ok port) new) (s : System C J) (shows : Shows old s) where
    abbrev carried : CarrierModel (Newcomer C J) PortModel
    carried = shows.engine.less.carrier

    abbrev carries : CarrierModel (Newcomer C J) PortModel
    carries = record carried { backends = new.backends }

    swapped : SwapOutcome node carried port' (Ok port) carries
    swapped = swap-less carried old.engine.carrier new node port port' shows.engine.knows.1.1 x

    abbrev wire : WireAt IsEnd carried.backends shows.engine.carrier.0 node swapped.0
    wire = at-end carried carries node port port' swapped s shows.engine.carrier

    its-wire : IsEnd port wire.0
    its-wire = its-end carried carries node port port' swapped s shows.engine.carrier

    wired-there : slice_get s.carrier.backends node ≡ Some (over_backend swapped.0 wire.0)
    wired-there = there carried carries node port port' swapped s shows.engine.carrier

    -- the carrier over the wires after it, and the engine that is shown then
    abbrev wired-after : Wire → CarrierModel (Newcomer C J) Wire
    wired-after = after carried carries node port port' swapped s shows.engine.carrier

    engine-after : (wire' : Wire) → IsEnd port' wire' → (t : System C J) → t.workers ≡ s.workers → t.carrier ≡ wired-after wire' → ShowsEngine IsEnd (record old.engine { carrier = new }) t
    engine-after wire' on t workers e =
        shows-backends old.engine new (backends-alone old.engine.carrier new node port port' x) s t shows.engine workers
        (shows-after carried carries node port port' swapped s shows.engine.carrier wire' on t e)

    -- the system is as it was, where the wire is
    as-it-was : IsEnd port' wire.0 → ShowsEngine IsEnd (record old.engine { carrier = new }) s
    as-it-was on =
        let same : record (over_backend swapped.0 wire.0) { link = Some (record (over_link swapped.1 wire.0) { port = wire.0 }) } ≡ over_backend swapped.0 wire.0 = λ i. over_backend (record (swapped.0) { link = sym swapped.3 i }) wire.0 in
        engine-after wire.0 on s refl (sym ((λ i. record s.carrier { backends = slice_set s.carrier.backends node (same i) }) ∙ (λ i. record s.carrier { backends = set-itself s.carrier.backends node (over_backend swapped.0 wire.0) wired-there i })))

  -- it is broken, or cut
  pub changed : (change : StreamModel → StreamModel) → KeepsEnd change → (old : PlayModel C J) (node : ℕ) (new : CarrierModel (Newcomer C J) PortModel) → ChangesStream change node old.engine.carrier new → PlaysWhere Any (λ e. ⊥) old (with_carrier old new)
  changed change keeps old node new (inl same) s shows =
      (s, ([], refl, (λ given. tt), none-is (λ e. ⊥)), record { engine = subst (λ (c : CarrierModel (Newcomer C J) PortModel). ShowsEngine IsEnd (record old.engine { carrier = c }) s) (sym same.1) shows.engine; cluster = shows.cluster; nodes = shows.nodes })
  changed change keeps old node new (inr (port, swap)) s shows =
      let port' = over_stream port (change port.bytes.stream) in (
        s,
        ([], refl, (λ given. tt), none-is (λ e. ⊥)),
        record {
          engine = as-it-was old node new port port' swap s shows
              (same-end port (wire old node new port port' swap s shows).0 (change port.bytes.stream) (keeps port.bytes.stream) (its-wire old node new port port' swap s shows));
          cluster = shows.cluster;
          nodes = shows.nodes;
        },
      )

  -- the port is as it was
  idle-at : (old : PlayModel C J) (node : ℕ) (given : Verdict) (k : ClusterModel) (new : CarrierModel (Newcomer C J) PortModel) (port : PortModel) (stream : StreamModel) → SwapOutcome node old.engine.carrier (over_stream port stream) (Ok port) new → k ≡ old.cluster
      → stream ≡ port.bytes.stream → PlaysWhere Any (IsServing node given) old (record (with_carrier old new) { cluster = k })
  idle-at old node given k new port stream swap same-cluster same s shows = (
    s,
    ([], refl, (λ asked. tt), none-is (IsServing node given)),
    record {
      engine = as-it-was old node new port (over_stream port stream) swap s shows
          (subst (λ t. IsEnd (over_stream port t) (wire old node new port (over_stream port stream) swap s shows).0) (sym same) (its-wire old node new port (over_stream port stream) swap s shows));
      cluster = shows.cluster ∙ sym same-cluster;
      nodes = shows.nodes;
    },
  )

  -- nothing has changed
  stays : (Is : SystemEvent → Type 0) (old : PlayModel C J) (k : ClusterModel) (new : CarrierModel (Newcomer C J) PortModel) → k ≡ old.cluster → new ≡ old.engine.carrier → PlaysWhere Any Is old (record (with_carrier old new) { cluster = k })
  stays Is old k new same same-carrier s shows =
      (s, ([], refl, (λ given. tt), none-is Is), record { engine = subst (λ (c : CarrierModel (Newcomer C J) PortModel). ShowsEngine IsEnd (record old.engine { carrier = c }) s) (sym same-carrier) shows.engine; cluster = shows.cluster ∙ sym same; nodes = shows.nodes })

  module _ (laws : ByteLaws) where
    -- what was read first is served
    served-at : (old : PlayModel C J) (node : ℕ) (given : Verdict) (k : ClusterModel) (new : CarrierModel (Newcomer C J) PortModel) (port : PortModel) (stream : StreamModel) → SwapOutcome node old.engine.carrier (over_stream port stream) (Ok port) new
        → StreamServes old.nodes old.cluster node port.bytes.stream given k stream → PlaysWhere Any (IsServing node given) old (record (with_carrier old new) { cluster = k })
    served-at old node given k new port stream x y s shows =
        let port' = over_stream port stream in
        let swap = swapped old node new port port' x s shows in
        let end = wire old node new port port' x s shows in
        let here = wired-there old node new port port' x s shows in
        let r = served laws old.nodes old.cluster node port end.0 (its-wire old node new port port' x s shows) given k stream y in
        let next : System C J = record s { cluster = k; carrier = wired-after old node new port port' x s shows r.2; log = s.log ++ log_of r.4 } in
        let nodes-so = subst (λ (ns : List Endpoint). MayServeNext ns old.cluster node end.0 r.0 k r.2 r.3 r.4) (sym shows.nodes) r.5 in
        let serves = subst (λ (c : ClusterModel). MayServeNext s.nodes c node end.0 r.0 k r.2 r.3 r.4) (sym shows.cluster) nodes-so in (
          next,
          (
            record { event = AtNode node r.0; next = next } ∷ [],
            ((over_backend swap.0 end.0, over_link swap.1 end.0, r.2, r.3, r.4, here, ap (λ o. link_over o end.0) swap.3, swap.4, serves, r.6, refl), refl),
            (λ asked. ((λ lists. tt), tt)),
            one-is (IsServing node given) (record { event = AtNode node r.0; next = next }) (as-event node given r.0 r.1),
          ),
          record { engine = engine-after old node new port port' x s shows r.2 r.7 next refl refl; cluster = refl; nodes = shows.nodes },
        )

    serves-there : (old : PlayModel C J) (node : ℕ) (given : Verdict) (result : Result Bool PlayFault) (k : ClusterModel) (new : CarrierModel (Newcomer C J) PortModel) → CanBeSaid result
        → ServesThere old.nodes old.cluster node old.engine.carrier given result k new → PlaysWhere Any (IsServing node given) old (record (with_carrier old new) { cluster = k })
    serves-there old node given (Ok true) k new said (port, stream, swap, did) = served-at old node given k new port stream swap did
    serves-there old node given (Ok false) k new said (port, stream, swap, did) = idle-at old node given k new port stream swap did.1 did.2
    serves-there old node given (Err fault.NoMemory) k new said (port, stream, swap, did) = idle-at old node given k new port stream swap did.0 did.1
    serves-there old node given (Err fault.NotServed) k new said (port, stream, swap, did) = idle-at old node given k new port stream swap did.1 did.2
    serves-there old node given (Err fault.OutOfOrder) k new said (port, stream, swap, did) = absurd did
    serves-there old node given (Err fault.TooLong) k new said x = absurd said

    pub serves : (old : PlayModel C J) (node : ℕ) (given : Verdict) (result : Result (Unit {0}) PlayFault) (k : ClusterModel) (new : CarrierModel (Newcomer C J) PortModel) → StaysInOrder result → ServesAt old.nodes old.cluster node old.engine.carrier given result k new
        → PlaysWhere Any (IsServing node given) old (record (with_carrier old new) { cluster = k })
    serves old node given (Ok u) k new said (inl x) = stays (IsServing node given) old k new x.1 x.2
    serves old node given (Ok u) k new said (inr (moved, x)) = serves-there old node given (Ok moved) k new tt x
    serves old node given (Err why) k new said x = serves-there old node given (Err why) k new said x
