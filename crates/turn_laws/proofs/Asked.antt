-- CLUSTER SLOTS is asked for: the machine does nothing, unless the connection breaks at it.
use Rattle.std.proofs.Common.{◌≡◌, ◌≢◌, ⊎_elim, ℕ, List, [], ◌∷◌, ◌++◌, Some, None, Result, Ok, Err, refl, sym, ap, ◌∙◌, subst, length}
use Rattle.std.specs.Prelude.{slice_get, slice_set, Option, All, map}
use Rattle.std.proofs.lemmas.List.{append-nil}
use Rattle.std.proofs.lemmas.List.Elements.{All-append, All-cons, All-nil}
use Rattle.key_split.specs.Requests.{Slots}
use Rattle.node_link.specs.Port.{SendsAllOrNone}
use Rattle.node_link.specs.LinkModel.{LinkModel}
use Rattle.node_link.specs.LinkCalls.{Sends, tickets_of, due_of}
use Rattle.node_link.specs.declared.link.Due.TheVariants as due
use Rattle.node_link.specs.declared.link.Failure.{Failure}
use Rattle.node_link.specs.declared.link.Failure.TheVariants as failure
use Rattle.node_link.specs.declared.link.LinkFault.{LinkFault}
use Rattle.node_link.specs.declared.link.LinkFault.TheVariants as fault
use Rattle.proxy_turns.specs.declared.newcomer.Newcomer.{Newcomer}
use Rattle.proxy_turns.specs.declared.backend.Backend.{Backend}
use Rattle.proxy_turns.specs.declared.backend_step.BackendStep.TheVariants.{Asked}
use Rattle.proxy_turns.specs.Backend.{BackendContext}
use Rattle.proxy_turns.specs.CarrierModel.{CarrierModel, AtBackend}
use Rattle.world_laws.specs.State.{WorldModel}
use Rattle.world_laws.specs.declared.event.Event.{Event}
use Rattle.turn_laws.specs.Walks.{Walk, IsSharedWalked}
use Rattle.turn_laws.specs.Wire.{Wire, Exchanges, Lists}
use Rattle.turn_laws.specs.System.{System}
use Rattle.turn_laws.specs.Shadow.{IsShadow, LinksShadow, LaneShadow, OpenShadow, IsKnown, requests_in}
use Rattle.turn_laws.specs.Underway.{IsWorking}
use Rattle.turn_laws.specs.Steps.{AtCarrier, CarrierStep}
use Rattle.turn_laws.specs.PortsMay.{any_calls}
use Rattle.turn_laws.specs.Refines.{Simulates}
use Rattle.turn_laws.proofs.Frames.{same-seats, down-fits, carrier-frame}
use Rattle.turn_laws.proofs.Waiting.{now, same-closed, same-opened, same-bag}
use Rattle.turn_laws.proofs.Answering.{quiet-backend}
use Rattle.turn_laws.proofs.Settled.{goes-of}
use Rattle.turn_laws.proofs.Items.{tickets-append, requests-append}
use Rattle.turn_laws.proofs.Drops.{drops, broken-wire}
use Rattle.turn_laws.proofs.Broke.{some-failure}
use Rattle.turn_laws.proofs.Written.{Writes, open-written, idle-written}
use Rattle.turn_laws.proofs.Seen.{seen-set}

failed-not : (o : Option Failure) (why : Failure) → o ≡ None → o ≡ Some why → ⊥
failed-not o why e f = cc

all-slots : (commands : _) → All (IsKnown commands) (Lists ∷ [])
all-slots commands = All-cons (IsKnown commands) Lists [] tt (All-nil (IsKnown commands))

module _ {C J : Type 0} (s s' : System C J) (w : WorldModel) (h : IsShadow s w) (walked : IsSharedWalked w) (on : CarrierStep s (AtBackend Asked) s') where
  abbrev k : ℕ
  k = on.does.0

  abbrev backend : Backend Wire
  backend = on.does.1

  abbrev backend' : Backend Wire
  backend' = on.does.2

  abbrev link : LinkModel Wire
  link = on.does.4.0

  abbrev link' : LinkModel Wire
  link' = on.does.4.1

  abbrev Carried : Type 0
  Carried = CarrierModel (Newcomer C J) Wire

  backends : s'.carrier.backends ≡ slice_set s.carrier.backends k backend'
  backends = ap (λ (c : Carried). c.backends) on.does.5

  lanes : s'.carrier.lanes ≡ s.carrier.lanes
  lanes = ap (λ (c : Carried). c.lanes) on.does.5

  pending_runs : s'.carrier.pending_runs ≡ s.carrier.pending_runs
  pending_runs = ap (λ (c : Carried). c.pending_runs) on.does.5

  was : backend.link ≡ Some link
  was = on.does.4.4

  worked : link.failure ≡ None
  worked = on.does.4.5.1

  is : backend'.link ≡ Some link'
  is = ap (λ (x : BackendContext Wire). x.backend.link) on.does.4.6

  owes : backend'.pending_told ≡ backend.pending_told
  owes = ap (λ (x : BackendContext Wire). x.backend.pending_told) on.does.4.6

  abbrev pub Simulated : Type 0
  Simulated = (events : List Event) × (w' : WorldModel) × Walk w events w' × IsShadow s' w'

  writes : Writes link (Slots ∷ []) link' → Simulated
  writes x =
      let works : link'.failure ≡ None = ap (λ (c : LinkModel Wire). c.failure) x.1 ∙ worked in
      let working : IsWorking s.carrier k link = (backend, on.does.3, was, worked) in
      let links : LinksShadow s.nodes s'.carrier s.closed s.opened w =
      quiet-backend s.nodes s.carrier s'.carrier s.closed s.opened w h.links k link link' working
      (now (AtBackend Asked) s s' on refl k backend backend' link link' on.does.3 backends was is worked works)
      (seen-set s.carrier s'.carrier s.closed k backend backend' on.does.3 backends link link' was is works (ap (λ (p : Wire). p.id) x.0.1))
      (ap (λ (c : LinkModel Wire). c.node) x.1 ∙ ((h.links).backends k link working).0)
      (ap (λ (p : Wire). p.id) x.0.1)
      (λ l o. subst (OpenShadow s.nodes w.commands link') (λ i. record l { requests = append-nil l.requests i }) (open-written link link' (Slots ∷ []) x s.nodes w.commands l o (all-slots w.commands)))
      (λ idle. idle-written link link' (Slots ∷ []) x idle refl (All-cons (λ d. d ≡ due.Slots) due.Slots [] refl (All-nil (λ d. d ≡ due.Slots)))) in
      let closed : s'.closed ≡ s.closed = same-closed (AtBackend Asked) s s' on refl k backend backend' link link' on.does.3 backends was is worked works in
      let opened : s'.opened ≡ s.opened = same-opened (AtBackend Asked) s s' on refl k backend backend' link link' on.does.3 backends was is worked works in (
        [],
        w,
        refl,
        carrier-frame (AtBackend Asked) s s' w h on
            (subst (λ xs. LinksShadow s.nodes s'.carrier xs s'.opened w) (sym closed) (subst (λ n. LinksShadow s.nodes s'.carrier s.closed n w) (sym opened) links))
            (same-seats s s' (ap length lanes) pending_runs)
            (λ j model lane p q. down-fits s w h j model lane p (sym (ap (λ xs. slice_get xs j) lanes) ∙ q))
            (same-bag (AtBackend Asked) s s' on refl k backend backend' link link' on.does.3 backends was is worked works lanes pending_runs owes)
            (λ j model lane p q. subst (LaneShadow w j model lane) (sym (ap (λ xs. slice_get xs j) pending_runs)) (h.lanes j model lane p (sym (ap (λ xs. slice_get xs j) lanes) ∙ q))),
      )

  breaks : (why : Failure) → link'.failure ≡ Some why → SendsAllOrNone Exchanges link.port (Slots ∷ []) link'.port → link'.due ≡ link.due ++ map due_of (Slots ∷ []) → Simulated
  breaks why failed sends dues = drops s s' w h walked (goes-of (AtBackend Asked) s s' on) (record {
    k = k;
    backend = backend;
    backend' = backend';
    link = link;
    link' = link';
    why = why;
    here = on.does.3;
    was = was;
    worked = worked;
    backends = backends;
    is = is;
    failed = failed;
    owes = owes;
    lanes = lanes;
    pending_runs = pending_runs;
    opened = ap (λ (x : System C J). x.opened) on.leaves;
    closed = broken-wire s s' on.breaks k backend backend' link link' on.does.3 was worked backends is (some-failure link'.failure why failed);
    due = ap tickets_of dues ∙ tickets-append link.due (due.Slots ∷ []) ∙ append-nil (tickets_of link.due);
    id = ⊎_elim (λ x. ap (λ (p : Wire). p.id) x.1) (λ x. ap (λ (p : Wire). p.id) x.1) sends;
    node = ⊎_elim (λ x. ap (λ (p : Wire). p.node) x.1) (λ x. ap (λ (p : Wire). p.node) x.1) sends;
    asking = ⊎_elim (λ x. ap (λ (p : Wire). p.asking) x.1) (λ x. ap (λ (p : Wire). p.asking) x.1) sends;
    requests = (
      [],
      append-nil (requests_in link'.port.items) ∙ ⊎_elim
          (λ x. ap (λ (p : Wire). requests_in p.items) x.1 ∙ requests-append link.port.items (Lists ∷ []) ∙ append-nil (requests_in link.port.items))
          (λ x. ap (λ (p : Wire). requests_in p.items) x.1 ∙ ap requests_in (append-nil link.port.items)) sends,
    );
    known = λ commands all. ⊎_elim
        (λ x. subst (λ (p : Wire). All (IsKnown commands) p.items) (sym x.1) (All-append (IsKnown commands) link.port.items (Lists ∷ []) all (all-slots commands)))
        (λ x. subst (λ (p : Wire). All (IsKnown commands) p.items) (sym x.1) (subst (All (IsKnown commands)) (sym (append-nil link.port.items)) all)) sends;
  })

  cases : (given : Result (Unit {0}) LinkFault) → given ≢ Err fault.NoMemory → Sends any_calls link (Slots ∷ []) given link' → Simulated
  cases (Ok _) ne x = writes (x.1, x.2)
  cases (Err fault.NoMemory) ne x = absurd (ne refl)
  cases (Err fault.PortFailed) ne x = ⊎_elim (λ y. absurd (failed-not link.failure failure.PortFailed worked y.0)) (λ y. breaks failure.PortFailed y.1 y.2.1 (ap (λ (l : LinkModel Wire). l.due) y.2.2)) x
  cases (Err fault.BadWire) ne x = ⊎_elim (λ y. absurd (failed-not link.failure failure.BadWire worked y.0)) (λ y. breaks failure.BadWire y.1 y.2.1 (ap (λ (l : LinkModel Wire). l.due) y.2.2)) x
  cases (Err fault.Stray) ne x = absurd (failed-not link.failure failure.Stray worked x.0)

  pub asks : Simulated
  asks = cases on.does.4.5.0 on.does.4.5.2 on.does.4.5.3

module _ (C J : Type 0) where
  pub asked : Simulates C J (AtCarrier (AtBackend Asked))
  asked s s' w h walked on = asks s s' w h walked on
