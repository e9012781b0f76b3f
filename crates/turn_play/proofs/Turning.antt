-- An engine's turn is steps of a system that shows it.
use Rattle.std.proofs.Common.{◌≡◌, ℕ, zero, suc, List, [], ◌∷◌, ◌++◌, Some, refl, sym, ap, ◌∙◌, subst, cond}
use Rattle.std.specs.Prelude.{All, Option, slice_get, slice_set}
use Rattle.std.specs.List.{FoldsTo}
use Rattle.std.proofs.lemmas.List.Elements.{All-append, All-cons, All-nil}
use Rattle.std.specs.Ordering.{nat_cmp}
use Rattle.std.specs.FinMap.{FinMap, get, insert, get-insert}
use Rattle.std.specs.Cmp.{nat_cmp_total}
use mathlib.Core.List.{IsPrefix}
use Rattle.slot_map.specs.Table.{Endpoint}
use Rattle.slot_map.specs.declared.ops.MapOp.{MapOp}
use Rattle.proxy_lanes.specs.declared.ends.lane_ends.LaneEnds.{LaneEnds}
use Rattle.node_link.specs.Port.{PortCalls}
use Rattle.proxy_turns.specs.declared.newcomer.Newcomer.{Newcomer}
use Rattle.proxy_turns.specs.Port.{Moves}
use Rattle.proxy_turns.specs.WorkerModel.{WorkerModel, WorkerEvent, Did, Finished, Took, FoundNone, Came, TurnedAway, FoundNobody, Left, WorkerDoes}
use Rattle.proxy_turns.specs.CarrierModel.{CarrierModel, CarrierEvent, CarrierDoes}
use Rattle.proxy_engine.specs.Along.{HoldsAlong}
use Rattle.proxy_engine.specs.EngineModel.{EngineModel, IsInOrder}
use Rattle.proxy_engine.specs.Events.{IsEventsTo, TurnsAreEvents}
use Rattle.proxy_engine.proofs.Working.{worker-event}
use Rattle.turn_laws.specs.Wire.{Wire, Dials}
use Rattle.turn_laws.specs.System.{System, Mark, IsInStep}
use Rattle.turn_laws.specs.Underway.{DownInStep}
use Rattle.turn_laws.specs.Steps.{AtWorker, AtCarrier, IsSeen, UpsInStep, opened_by, seen_at}
use Rattle.turn_laws.specs.PortsMay.{any_moves, any_calls}
use Rattle.turn_laws.specs.AnyPort.{AnyClients, AnyPorts, OpensWires, over_wires}
use Rattle.turn_play.specs.May.{WorkerMay, CarrierMay}
use Rattle.turn_play.specs.Played.{Step, Leads}
use Rattle.turn_play.specs.Turns.{EnginesPlay, IsTurns, PlaysBy, ShowsCarrier}
use Rattle.turn_play.proofs.Breaking.{broken}
use Rattle.turn_play.proofs.Numbers.{itself}

pub set-twice : {X : Type 0} (xs : List X) (i : ℕ) (x y : X) → slice_set (slice_set xs i x) i y ≡ slice_set xs i y
set-twice [] i x y = refl
set-twice (z ∷ xs) zero x y = refl
set-twice (z ∷ xs) (suc i) x y = ap (λ ys. z ∷ ys) (set-twice xs i x y)

pub set-itself : {X : Type 0} (xs : List X) (i : ℕ) (x : X) → slice_get xs i ≡ Some x → slice_set xs i x ≡ xs
set-itself [] i x e = absurd (cc)
set-itself (z ∷ xs) zero x e = let same : z ≡ x = cc in ap (λ y. y ∷ xs) (sym same)
set-itself (z ∷ xs) (suc i) x e = ap (λ ys. z ∷ ys) (set-itself xs i x e)

put-there : {V : Type 0} (m : FinMap nat_cmp V) (k : ℕ) (v : V) → get (insert m k v) k ≡ Some v
put-there m k v = get-insert nat_cmp_total m k v k ∙ ap (λ b. cond b (Some v) (get m k)) (itself k)

module _ {C J : Type 0} where
  -- what is seen of an event
  seen : (event : WorkerEvent) (old new : WorkerModel C J) → WorkerDoes any_moves old event new → (marks : List Mark) × IsSeen old event new marks
  seen (Did number event) old new d =
      (seen_at event d.0.session d.1.session, (d.0, d.1, d.2, ap (λ (w : WorkerModel C J). get w.clients number) d.4 ∙ put-there old.clients number d.1, refl))
  seen (Finished number ticket end) old new d = ([], refl)
  seen (Took ticket told) old new d = ([], refl)
  seen FoundNone old new d = ([], refl)
  seen (Came number) old new d = ([], refl)
  seen (TurnedAway number) old new d = ([], refl)
  seen FoundNobody old new d = ([], refl)
  seen (Left number) old new d = ([], refl)

-- what is in a list of one
pub the-only : {X : Type 0} (x y : X) (k : ℕ) → slice_get (x ∷ []) k ≡ Some y → (k ≡ 0) × (x ≡ y)
the-only x y zero e = let same : x ≡ y = cc in (refl, same)
the-only x y (suc k) e = absurd (cc)

module _ {C J : Type 0} where
  pub leads-join : (a : System C J) (steps : List (Step C J)) (b : System C J) (later : List (Step C J)) (c : System C J) → Leads a steps b → Leads b later c → Leads a (steps ++ later) c
  leads-join a [] b later c x y = subst (λ (s : System C J). Leads s later c) (sym x) y
  leads-join a (step ∷ steps) b later c x y = (x.0, leads-join step.next steps b later c x.1 y)

  abbrev AreTurns : List (Step C J) → Type 0
  AreTurns steps = All (λ (step : Step C J). IsTurns step.event) steps

  one-turn : (step : Step C J) (steps : List (Step C J)) → IsTurns step.event → AreTurns steps → AreTurns (step ∷ steps)
  one-turn step steps is are = All-cons (λ (step : Step C J). IsTurns step.event) step steps is are

  turns-join : (a b c : System C J) → PlaysBy IsTurns a b → PlaysBy IsTurns b c → PlaysBy IsTurns a c
  turns-join a b c x y = (x.0 ++ y.0, leads-join a x.0 b y.0 c x.1 y.1, All-append (λ (step : Step C J). IsTurns step.event) x.0 y.0 x.2 y.2)

-- ---- a worker's events

module _ {C J P : Type 0} (moves : Moves C) (any : AnyClients C J moves) (engine : EngineModel C J P) where
  abbrev InOrder : WorkerModel C J → Type 0
  InOrder worker = IsInOrder (record engine { worker = worker })

  -- this worker is the only one of the system, and these are the carrier's ends of its lanes and what was published
  abbrev Has : WorkerModel C J → System C J → Type 0
  Has worker s = (worker.worker ≡ 0) × (s.workers ≡ worker ∷ []) × (s.carrier.lanes ≡ engine.carrier.lanes) × (s.carrier.published ≡ engine.carrier.published)

  abbrev WorkerPlays : System C J → WorkerModel C J → Type 0
  WorkerPlays s new = (s' : System C J) × PlaysBy IsTurns s s' × Has new s' × (s' ≡ record s { workers = s'.workers; log = s'.log })

  one-event : (event : WorkerEvent) (s : System C J) (old new : WorkerModel C J) → Has old s → WorkerDoes moves old event new → InOrder new
      → (next : System C J) × WorkerMay s 0 event next × Has new next × (next ≡ record s { workers = next.workers; log = next.log })
  one-event event s old new has d order =
      let look = seen event old new (any event old new d) in
      let next : System C J = record s { workers = slice_set s.workers 0 new; log = s.log ++ look.0 } in
      let number : new.worker ≡ 0 = (worker-event moves event old new d).0 ∙ has.0 in
      let at : slice_get s.workers 0 ≡ Some old = ap (λ ws. slice_get ws 0) has.1 in
      let there : (lane : LaneEnds (Newcomer C J)) → slice_get s.carrier.lanes 0 ≡ Some lane → slice_get engine.carrier.lanes new.worker ≡ Some lane =
      λ lane e. (λ i. slice_get (sym has.2 i) (number i)) ∙ e in
      let in-step : (lane : LaneEnds (Newcomer C J)) → slice_get s.carrier.lanes 0 ≡ Some lane → DownInStep lane new = λ lane e outlet o. order.down lane (there lane e) outlet o in
      let shown : IsPrefix new.view.known s.carrier.published = subst (λ (ops : List MapOp). IsPrefix new.view.known ops) (sym has.3) order.view in (
        next,
        record { old = old; new = new; marks = look.0; at = at; does = any event old new d; seen = look.1; leaves = refl; in_step = in-step; shown = shown },
        (number, ap (λ ws. slice_set ws 0 new) has.1, has.2, has.3),
        refl,
      )

  worker-plays : (events : List WorkerEvent) (s : System C J) (old new : WorkerModel C J) (f : FoldsTo (WorkerDoes moves) old events new) → Has old s → HoldsAlong (WorkerDoes moves) InOrder old events new f → WorkerPlays s new
  worker-plays [] s old new f has order = (s, ([], refl, All-nil (λ (step : Step C J). IsTurns step.event)), subst (λ (w : WorkerModel C J). Has w s) f has, refl)
  worker-plays (event ∷ events) s old new f has order =
      let one = one-event event s old f.0 has f.1 order.0 in
      let later = worker-plays events one.0 f.0 new f.2 one.2 order.1 in (
        later.0,
        (record { event = AtWorker 0 event; next = one.0 } ∷ later.1.0, (one.1, later.1.1), one-turn (record { event = AtWorker 0 event; next = one.0 }) later.1.0 refl later.1.2),
        later.2,
        later.3 ∙ (λ i. record (one.3 i) { workers = later.0.workers; log = later.0.log }),
      )

-- ---- the carrier's

module _ (C J : Type 0) {P : Type 0} (wired : P → Wire → Type 0) (calls : PortCalls P) (opens : Endpoint → Option P → ℕ → ℕ → Type 0) (longest : P → ℕ)
    (any : AnyPorts wired (Newcomer C J) calls opens longest) (dials : (nodes : List Endpoint) (opened : ℕ) → OpensWires wired nodes opened opens) (engine : EngineModel C J P) (first : engine.worker.worker ≡ 0) where
  abbrev Model : Type 0
  Model = CarrierModel (Newcomer C J) P

  abbrev Does : Model → CarrierEvent → Model → Type 0
  Does = CarrierDoes calls opens longest

  abbrev OrderAt : Model → Type 0
  OrderAt carrier = IsInOrder (record engine { carrier = carrier })

  -- the system has the engine's worker alone
  abbrev Beside : System C J → Type 0
  Beside s = s.workers ≡ engine.worker ∷ []

  ups-in-step : (carrier : Model) (wires : List Wire) (s : System C J) → Beside s → s.carrier ≡ over_wires carrier wires → OrderAt carrier → UpsInStep s
  ups-in-step carrier wires s beside is order k model lane at there =
      let only = the-only engine.worker model k (ap (λ ws. slice_get ws k) (sym beside) ∙ at) in
      let lanes : s.carrier.lanes ≡ carrier.lanes = ap (λ (c : CarrierModel (Newcomer C J) Wire). c.lanes) is in
      let here : slice_get carrier.lanes engine.worker.worker ≡ Some lane = (λ i. slice_get (sym lanes i) ((first ∙ sym only.0) i)) ∙ there in
      subst (λ (w : WorkerModel C J). IsInStep w.outlet lane.up) only.1 (order.up lane here)

  -- one event, over the wires of a system's carrier
  at-wires : (event : CarrierEvent) (s : System C J) (old new : Model) → ShowsCarrier wired old s → Beside s → Does old event new → OrderAt new
      → (next : System C J) × CarrierMay s event next × ShowsCarrier wired new next × (next ≡ record s { carrier = next.carrier; closed = next.closed; opened = next.opened })
  at-wires event s old new shows beside d order =
      let r = any event old new shows.0 s.opened shows.1 (dials old.nodes s.opened) d in
      let carrier : CarrierModel (Newcomer C J) Wire = over_wires new r.0 in
      let b = broken s carrier (opened_by event s.opened) in
      let next : System C J = record s { carrier = carrier; closed = b.0; opened = opened_by event s.opened } in (
        next,
        record {
          longest = r.2;
          does = subst (λ (c : CarrierModel (Newcomer C J) Wire). CarrierDoes any_calls (Dials c.nodes s.opened) r.2 c event carrier) (sym shows.2) r.3;
          breaks = b.1;
          leaves = refl;
          in_step = ups-in-step new r.0 next beside refl order;
        },
        (r.0, r.1, refl),
        refl,
      )

  abbrev CarrierPlays : System C J → Model → Type 0
  CarrierPlays s new = (s' : System C J) × PlaysBy IsTurns s s' × ShowsCarrier wired new s' × (s' ≡ record s { carrier = s'.carrier; closed = s'.closed; opened = s'.opened })

  carrier-plays : (events : List CarrierEvent) (s : System C J) (old new : Model) (f : FoldsTo Does old events new) → ShowsCarrier wired old s → Beside s → HoldsAlong Does OrderAt old events new f → CarrierPlays s new
  carrier-plays [] s old new f shows beside order = (s, ([], refl, All-nil (λ (step : Step C J). IsTurns step.event)), subst (λ c. ShowsCarrier wired c s) f shows, refl)
  carrier-plays (event ∷ events) s old new f shows beside order =
      let one = at-wires event s old f.0 shows beside f.1 order.0 in
      let later = carrier-plays events one.0 f.0 new f.2 one.2 (ap (λ (t : System C J). t.workers) one.3 ∙ beside) order.1 in (
        later.0,
        (record { event = AtCarrier event; next = one.0 } ∷ later.1.0, (one.1, later.1.1), one-turn (record { event = AtCarrier event; next = one.0 }) later.1.0 tt later.1.2),
        later.2,
        later.3 ∙ (λ i. record (one.3 i) { carrier = later.0.carrier; closed = later.0.closed; opened = later.0.opened }),
      )

-- ---- both

module _ {C J : Type 0} where
  -- what a turn leaves of a system is what its two parts leave
  both-leave : (s mid new : System C J) → mid ≡ record s { workers = mid.workers; log = mid.log } → new ≡ record mid { carrier = new.carrier; closed = new.closed; opened = new.opened }
      → new ≡ record s { workers = new.workers; carrier = new.carrier; closed = new.closed; opened = new.opened; log = new.log }
  both-leave s mid new one two =
      two ∙ (λ i. record (one i) { carrier = new.carrier; closed = new.closed; opened = new.opened })
      ∙ (λ i. record s { workers = sym (ap (λ (t : System C J). t.workers) two) i; carrier = new.carrier; closed = new.closed; opened = new.opened; log = sym (ap (λ (t : System C J). t.log) two) i })

module _ (C J : Type 0) {P : Type 0} (moves : Moves C) (wired : P → Wire → Type 0) (calls : PortCalls P) (opens : Endpoint → Option P → ℕ → ℕ → Type 0) (longest : P → ℕ)
    (clients : AnyClients C J moves) (ports : AnyPorts wired (Newcomer C J) calls opens longest) (turns : TurnsAreEvents C J moves calls opens longest) where
  pub engines-play : EnginesPlay C J moves wired calls opens longest
  engines-play dials s old new result shows t sound =
      let less = shows.less in
      let x = turns less old new result shows.knows shows.in_order t sound in
      let after : EngineModel C J P = x.2 in
      let e : IsEventsTo C J moves calls opens longest less x.0 x.1 after = x.3 in
      let lanes : s.carrier.lanes ≡ less.carrier.lanes = ap (λ (c : CarrierModel (Newcomer C J) Wire). c.lanes) shows.carrier.2 in
      let published : s.carrier.published ≡ less.carrier.published = ap (λ (c : CarrierModel (Newcomer C J) Wire). c.published) shows.carrier.2 in
      let one = worker-plays moves clients less x.0 s less.worker after.worker e.works (shows.first, shows.workers, lanes, published) e.orderly in
      let mid : ShowsCarrier wired less.carrier one.0 = (shows.carrier.0, shows.carrier.1, ap (λ (t : System C J). t.carrier) one.3 ∙ shows.carrier.2) in
      let two = carrier-plays C J wired calls opens longest ports dials after one.2.0 x.1 one.0 less.carrier after.carrier e.carries mid one.2.1 e.later in (
        two.0,
        turns-join s one.0 two.0 one.1 two.1,
        record { less = after; knows = x.4; in_order = e.in_order; first = one.2.0; workers = ap (λ (t : System C J). t.workers) two.3 ∙ one.2.1; carrier = two.2 },
        both-leave s one.0 two.0 one.3 two.3,
      )
