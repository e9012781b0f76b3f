-- A run is sent: the machine carries it, and drops the link where the connection breaks at it.
use Rattle.std.proofs.Common.{◌≡◌, ◌≢◌, inl, ⊎_elim, ℕ, List, [], ◌++◌, Some, None, Result, Ok, Err, refl, sym, ap, ◌∙◌, subst, arith}
use Rattle.std.specs.Prelude.{slice_get, slice_set, Option, All, map}
use mathlib.Core.List.{IsPrefix}
use Rattle.std.proofs.lemmas.List.{append-nil}
use Rattle.key_split.specs.Runs.{RunModel, requests_of_run}
use Rattle.node_link.specs.Port.{SendsAllOrNone}
use Rattle.node_link.specs.LinkModel.{LinkModel}
use Rattle.node_link.specs.LinkCalls.{Sends, tickets_of, due_of}
use Rattle.node_link.specs.declared.link.Failure.{Failure}
use Rattle.node_link.specs.declared.link.Failure.TheVariants as failure
use Rattle.node_link.specs.declared.link.LinkFault.{LinkFault}
use Rattle.node_link.specs.declared.link.LinkFault.TheVariants as fault
use Rattle.proxy_turns.specs.declared.newcomer.Newcomer.{Newcomer}
use Rattle.proxy_turns.specs.declared.pending_run.PendingRun.{PendingRun}
use Rattle.proxy_turns.specs.declared.backend.Backend.{Backend}
use Rattle.proxy_turns.specs.CarrierModel.{CarrierModel, Sent}
use Rattle.world_laws.specs.State.{WorldModel}
use Rattle.world_laws.specs.declared.event.Event.{Event}
use Rattle.world_laws.proofs.Recorded.{set-same}
use Rattle.turn_laws.specs.Walks.{Walk, IsSharedWalked}
use Rattle.turn_laws.specs.Wire.{Wire, Exchanges, items_of}
use Rattle.turn_laws.specs.System.{System}
use Rattle.turn_laws.specs.Shadow.{IsShadow, IsKnown, requests_in}
use Rattle.turn_laws.specs.Steps.{AtCarrier, CarrierStep}
use Rattle.turn_laws.specs.PortsMay.{any_calls}
use Rattle.turn_laws.specs.Refines.{Simulates}
use Rattle.turn_laws.proofs.Waiting.{same-closed}
use Rattle.turn_laws.proofs.Walks.{walked-on, walks_join}
use Rattle.turn_laws.proofs.Listed.{set-listed, still-listed}
use Rattle.turn_laws.proofs.Settled.{Goes, goes-of}
use Rattle.turn_laws.proofs.Items.{requests-append}
use Rattle.turn_laws.proofs.Drops.{drops, broken-wire}
use Rattle.turn_laws.proofs.Elements.{all-front}
use Rattle.turn_laws.proofs.Broke.{some-failure}
use Rattle.turn_laws.proofs.Written.{Writes}
use Rattle.turn_laws.proofs.Carried.{sends, set-twice}

failed-not : (p : Option Failure) (why : Failure) → p ≡ None → p ≡ Some why → ⊥
failed-not p why e f = cc

module _ {C J : Type 0} (s s' : System C J) (w : WorldModel) (h : IsShadow s w) (walked : IsSharedWalked w) (on : CarrierStep s Sent s') where
  abbrev k : ℕ
  k = on.does.0

  abbrev b : PendingRun
  b = on.does.1

  abbrev held : RunModel
  held = on.does.2

  abbrev backend : Backend Wire
  backend = on.does.3

  abbrev backend2 : Backend Wire
  backend2 = on.does.4

  abbrev link : LinkModel Wire
  link = on.does.8.0

  abbrev link2 : LinkModel Wire
  link2 = on.does.8.1

  abbrev Carried : Type 0
  Carried = CarrierModel (Newcomer C J) Wire

  was : backend.link ≡ Some link
  was = on.does.8.2

  worked : link.failure ≡ None
  worked = on.does.8.4.1

  lanes : s'.carrier.lanes ≡ s.carrier.lanes
  lanes = ap (λ (c : Carried). c.lanes) on.does.9

  pending_runs : s'.carrier.pending_runs ≡ slice_set s.carrier.pending_runs k (record b { run = None })
  pending_runs = ap (λ (c : Carried). c.pending_runs) on.does.9

  backends : s'.carrier.backends ≡ slice_set s.carrier.backends held.first.node backend2
  backends = ap (λ (c : Carried). c.backends) on.does.9

  is : backend2.link ≡ Some link2
  is = ap (λ (x : Backend Wire). x.link) on.does.8.5

  whole : backend2 ≡ record backend { link = Some link2 }
  whole = on.does.8.5

  -- the connection with all of it, and the system with that
  abbrev link1 : LinkModel Wire
  link1 = record link { port = record (link.port) { items = link.port.items ++ items_of (requests_of_run held) }; due = link.due ++ map due_of (requests_of_run held) }

  abbrev backend1 : Backend Wire
  backend1 = record backend { link = Some link1 }

  abbrev s1 : System C J
  s1 = record s { carrier = record (s.carrier) { backends = slice_set s.carrier.backends held.first.node backend1; pending_runs = slice_set s.carrier.pending_runs k (record b { run = None }) } }

  abbrev Result' : Type 0
  Result' = (events : List Event) × (w' : WorldModel) × Walk w events w' × IsShadow s' w'

  written : Writes link (requests_of_run held) link2 → Result'
  written x = sends s s' w h walked (goes-of Sent s s' on) (record {
    k = k;
    b = b;
    run = held;
    backend = backend;
    link = link;
    link' = link2;
    at = on.does.5;
    full = on.does.6;
    here = on.does.7;
    was = was;
    worked = worked;
    writes = x;
    backends = backends ∙ ap (slice_set s.carrier.backends held.first.node) whole;
    pending_runs = pending_runs;
    lanes = lanes;
    opened = ap (λ (x : System C J). x.opened) on.leaves;
    closed = still;
  })
    where
      still : s'.closed ≡ s.closed
      still = same-closed Sent s s' on refl held.first.node backend backend2 link link2 on.does.7 backends was is worked (ap (λ (c : LinkModel Wire). c.failure) x.1 ∙ worked)

  goes1 : Goes s s1
  goes1 = record {
    workers = refl;
    cluster = refl;
    initial = refl;
    log = refl;
    nodes = refl;
    table = h.table;
    listed = set-listed s.carrier s1.carrier held.first.node backend backend1 on.does.7 refl (omega arith) (λ x e. inl (link, was));
    in_step = λ j model lane p q. on.in_step j model lane (ap (λ (x : System C J). slice_get x.workers j) on.leaves ∙ p) (ap (λ xs. slice_get xs j) lanes ∙ q);
  }

  goes2 : Goes s1 s'
  goes2 = record {
    workers = ap (λ (x : System C J). x.workers) on.leaves;
    cluster = ap (λ (x : System C J). x.cluster) on.leaves;
    initial = ap (λ (x : System C J). x.initial) on.leaves;
    log = ap (λ (x : System C J). x.log) on.leaves;
    nodes = ap (λ (x : System C J). x.nodes) on.leaves;
    table = on.table;
    listed = λ _. still-listed Sent s s' on h.listed;
    in_step = on.in_step;
  }

  first : (events : List Event) × (w' : WorldModel) × Walk w events w' × IsShadow s1 w'
  first = sends s s1 w h walked goes1 (record {
    k = k;
    b = b;
    run = held;
    backend = backend;
    link = link;
    link' = link1;
    at = on.does.5;
    full = on.does.6;
    here = on.does.7;
    was = was;
    worked = worked;
    writes = ((refl, refl), refl);
    backends = refl;
    pending_runs = refl;
    lanes = refl;
    opened = refl;
    closed = refl;
  })

  then-walked : IsSharedWalked first.1
  then-walked = walked-on w first.1 first.0 walked first.2

  breaks : (why : Failure) → link2.failure ≡ Some why → SendsAllOrNone Exchanges link.port (requests_of_run held) link2.port → link2.due ≡ link.due ++ map due_of (requests_of_run held) → Result'
  breaks why failed sends' dues =
      let r = drops s1 s' first.1 first.3 then-walked goes2 (record {
        k = held.first.node;
        backend = backend1;
        backend' = backend2;
        link = link1;
        link' = link2;
        why = why;
        here = set-same s.carrier.backends held.first.node backend backend1 on.does.7;
        was = refl;
        worked = worked;
        backends = backends ∙ sym (set-twice s.carrier.backends held.first.node backend1 backend2);
        is = is;
        failed = failed;
        owes = ap (λ (x : Backend Wire). x.pending_told) whole;
        lanes = lanes;
        pending_runs = pending_runs;
        opened = ap (λ (x : System C J). x.opened) on.leaves;
        closed = broken-wire s s' on.breaks held.first.node backend backend2 link link2 on.does.7 was worked backends is (some-failure link2.failure why failed);
        due = ap tickets_of dues;
        id = ⊎_elim (λ x. ap (λ (p : Wire). p.id) x.1) (λ x. ap (λ (p : Wire). p.id) x.1) sends';
        node = ⊎_elim (λ x. ap (λ (p : Wire). p.node) x.1) (λ x. ap (λ (p : Wire). p.node) x.1) sends';
        asking = ⊎_elim (λ x. ap (λ (p : Wire). p.asking) x.1) (λ x. ap (λ (p : Wire). p.asking) x.1) sends';
        requests = front sends';
        known = λ commands all. ⊎_elim
            (λ x. subst (λ (p : Wire). All (IsKnown commands) p.items) (sym x.1) all)
            (λ x. subst (λ (p : Wire). All (IsKnown commands) p.items) (sym x.1) (subst (All (IsKnown commands)) (sym (append-nil link.port.items)) (all-front (IsKnown commands) link.port.items (items_of (requests_of_run held)) all)))
            sends';
      }) in
      (first.0 ++ r.0, r.1, walks_join first.0 r.0 w first.1 r.1 first.2 r.2, r.3)
    where
      front : SendsAllOrNone Exchanges link.port (requests_of_run held) link2.port → IsPrefix (requests_in link2.port.items) (requests_in (link.port.items ++ items_of (requests_of_run held)))
      front = ⊎_elim
          (λ x. ([], append-nil (requests_in link2.port.items) ∙ ap (λ (p : Wire). requests_in p.items) x.1))
          (λ x. (requests_in (items_of (requests_of_run held)), ap (λ rs. rs ++ requests_in (items_of (requests_of_run held))) (ap (λ (p : Wire). requests_in p.items) x.1 ∙ ap requests_in (append-nil link.port.items)) ∙ sym (requests-append link.port.items (items_of (requests_of_run held)))))

  cases : (given : Result (Unit {0}) LinkFault) → given ≢ Err fault.NoMemory → Sends any_calls link (requests_of_run held) given link2 → Result'
  cases (Ok _) ne x = written (x.1, x.2)
  cases (Err fault.NoMemory) ne x = absurd (ne refl)
  cases (Err fault.PortFailed) ne x = ⊎_elim (λ y. absurd (failed-not link.failure failure.PortFailed worked y.0)) (λ y. breaks failure.PortFailed y.1 y.2.1 (ap (λ (l : LinkModel Wire). l.due) y.2.2)) x
  cases (Err fault.BadWire) ne x = ⊎_elim (λ y. absurd (failed-not link.failure failure.BadWire worked y.0)) (λ y. breaks failure.BadWire y.1 y.2.1 (ap (λ (l : LinkModel Wire). l.due) y.2.2)) x
  cases (Err fault.Stray) ne x = absurd (failed-not link.failure failure.Stray worked x.0)

  pub sends-on : Result'
  sends-on = cases on.does.8.4.0 on.does.8.4.2 on.does.8.4.3

module _ (C J : Type 0) where
  pub sent-on : Simulates C J (AtCarrier Sent)
  sent-on s s' w h walked on = sends-on s s' w h walked on
