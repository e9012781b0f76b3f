-- A connection breaks as it is read.
use Rattle.std.proofs.Common.{◌≡◌, ◌≢◌, inl, ⊎_elim, ℕ, suc, List, [], ◌∷◌, ◌++◌, Some, None, Err, refl, sym, ap, ◌∙◌, subst, arith, length}
use Rattle.std.specs.Prelude.{slice_get, slice_set, Option, IsSome, All}
use Rattle.std.proofs.lemmas.List.{append-nil}
use Rattle.resp_wire.specs.declared.value.Value.{Value}
use Rattle.node_link.specs.LinkModel.{LinkModel}
use Rattle.node_link.specs.LinkCalls.{Comes, Receives, tickets_of}
use Rattle.node_link.specs.declared.link.Due.{Due}
use Rattle.node_link.specs.declared.link.Failure.{Failure}
use Rattle.node_link.specs.declared.link.Failure.TheVariants as failure
use Rattle.node_link.specs.declared.link.LinkFault.{LinkFault}
use Rattle.node_link.specs.declared.link.LinkFault.TheVariants as fault
use Rattle.proxy_turns.specs.declared.newcomer.Newcomer.{Newcomer}
use Rattle.proxy_turns.specs.declared.backend.Backend.{Backend}
use Rattle.proxy_turns.specs.declared.backend_step.BackendStep.TheVariants.{Broke}
use Rattle.proxy_turns.specs.Backend.{BackendContext}
use Rattle.proxy_turns.specs.CarrierModel.{CarrierModel, AtBackend}
use Rattle.world_laws.specs.State.{WorldModel, Link}
use Rattle.world_laws.specs.declared.event.Event.{Event}
use Rattle.turn_laws.specs.Walks.{Walk, IsSharedWalked}
use Rattle.turn_laws.specs.Wire.{Wire}
use Rattle.turn_laws.specs.System.{System}
use Rattle.turn_laws.specs.Shadow.{IsShadow, OpenShadow, IsIdle, IsUnnumbered, Numbers, requests_in, IsKnown}
use Rattle.turn_laws.specs.Underway.{told_in}
use Rattle.turn_laws.specs.Steps.{AtCarrier, CarrierStep}
use Rattle.turn_laws.specs.PortsMay.{any_calls}
use Rattle.turn_laws.specs.Refines.{Simulates}
use Rattle.turn_laws.proofs.Carriers.{backend-stutter}
use Rattle.turn_laws.proofs.AtLines.{same-owing}
use Rattle.turn_laws.proofs.Fetching.{comes-first}
use Rattle.turn_laws.proofs.Settled.{goes-of}
use Rattle.turn_laws.proofs.Drops.{drops, broken-wire}

pub some-failure : (o : Option Failure) (why : Failure) → o ≡ Some why → IsSome o
some-failure o why e = subst IsSome (sym e) refl

-- the port gave nothing
gave-nothing : (link : LinkModel Wire) (port : Wire) → Comes any_calls link None port → port ≡ link.port
gave-nothing link port c = c.1.1 ∙ (λ i. record (link.port) { items = append-nil link.port.items i; values = sym c.1.0 i })

none-waits : (answered rest : List Due) (n : ℕ) → [] ≡ answered ++ rest → length answered ≡ suc n → ⊥
none-waits [] rest n e m = absurd (omega (arith, m))
none-waits (d ∷ ds) rest n e m = absurd (cc)

module _ {C J : Type 0} (s s' : System C J) (w : WorldModel) (h : IsShadow s w) (walked : IsSharedWalked w) (on : CarrierStep s (AtBackend Broke) s') where
  abbrev k : ℕ
  k = on.does.0

  abbrev backend : Backend Wire
  backend = on.does.1

  abbrev backend' : Backend Wire
  backend' = on.does.2

  abbrev link : LinkModel Wire
  link = on.does.4.0

  abbrev link' : LinkModel Wire
  link' = on.does.4.1

  abbrev Carried : Type 0
  Carried = CarrierModel (Newcomer C J) Wire

  backends : s'.carrier.backends ≡ slice_set s.carrier.backends k backend'
  backends = ap (λ (c : Carried). c.backends) on.does.5

  lanes : s'.carrier.lanes ≡ s.carrier.lanes
  lanes = ap (λ (c : Carried). c.lanes) on.does.5

  pending_runs : s'.carrier.pending_runs ≡ s.carrier.pending_runs
  pending_runs = ap (λ (c : Carried). c.pending_runs) on.does.5

  was : backend.link ≡ Some link
  was = on.does.4.4.0

  is : backend'.link ≡ Some link'
  is = ap (λ (x : BackendContext Wire). x.backend.link) on.does.4.5

  owes : backend'.pending_told ≡ backend.pending_told
  owes = ap (λ (x : BackendContext Wire). x.backend.pending_told) on.does.4.5

  abbrev pub Simulated : Type 0
  Simulated = (events : List Event) × (w' : WorldModel) × Walk w events w' × IsShadow s' w'

  -- it had failed before
  before : link' ≡ link → Simulated
  before same =
      let stays : backend'.link ≡ backend.link = is ∙ ap Some same ∙ sym was in
      ([], w, refl, backend-stutter (AtBackend Broke) s s' w k backend backend' h on refl on.does.3 backends lanes pending_runs (inl stays) (same-owing backend backend' stays (ap told_in owes)))

  breaks : (why : Failure) → link.failure ≡ None → link'.failure ≡ Some why → link'.port ≡ link.port → link'.due ≡ link.due → Simulated
  breaks why worked failed port dues = drops s s' w h walked (goes-of (AtBackend Broke) s s' on) (record {
    k = k;
    backend = backend;
    backend' = backend';
    link = link;
    link' = link';
    why = why;
    here = on.does.3;
    was = was;
    worked = worked;
    backends = backends;
    is = is;
    failed = failed;
    owes = owes;
    lanes = lanes;
    pending_runs = pending_runs;
    opened = ap (λ (x : System C J). x.opened) on.leaves;
    closed = broken-wire s s' on.breaks k backend backend' link link' on.does.3 was worked backends is (some-failure link'.failure why failed);
    due = ap tickets_of dues;
    id = ap (λ (x : Wire). x.id) port;
    node = ap (λ (x : Wire). x.node) port;
    asking = ap (λ (x : Wire). x.asking) port;
    requests = ([], append-nil (requests_in link'.port.items) ∙ ap (λ (x : Wire). requests_in x.items) port);
    known = λ commands all. subst (λ (x : Wire). All (IsKnown commands) x.items) (sym port) all;
  })

  -- a value came that nothing waits for: of a connection that works each is waited for
  astray : (value : Value) → link.failure ≡ None → Comes any_calls link (Some value) link'.port → link.due ≡ [] → ⊥
  astray value worked comes none =
      let first = (comes-first link link'.port value comes).0 in ⊎_elim
      (λ (x : (i : ℕ) × (l : Link) × Numbers (h.links).ids link.port.id i × (slice_get w.links i ≡ Some l) × OpenShadow s.nodes w.commands link l).
      none-waits (x.4).answered _ (length link'.port.values) (sym none ∙ (x.4).due) ((x.4).matched ∙ ap length first))
      (λ (x : IsUnnumbered (h.links).ids link.port.id × IsIdle link).
      none-waits (x.1).answered _ (length link'.port.values) (sym none ∙ (x.1).due) ((x.1).matched ∙ ap length first))
      ((h.links).backends k link (backend, on.does.3, was, worked)).2

  cases : (why : LinkFault) → why ≢ fault.NoMemory → Receives any_calls link s.carrier.nodes (Err why) link' s'.carrier.nodes → Simulated
  cases fault.NoMemory ne r = absurd (ne refl)
  cases fault.PortFailed ne r = ⊎_elim (λ x. before x.1)
      (λ x. breaks failure.PortFailed x.0 x.1 (gave-nothing link link'.port x.2.1) (ap (λ (l : LinkModel Wire). l.due) x.2.2)) r.1
  cases fault.BadWire ne r = ⊎_elim (λ x. before x.1)
      (λ x. breaks failure.BadWire x.0 x.1 (gave-nothing link link'.port x.2.1) (ap (λ (l : LinkModel Wire). l.due) x.2.2)) r.1
  cases fault.Stray ne r = ⊎_elim (λ x. before x.1) (λ x. absurd (astray x.2.0 x.0 x.2.1 x.2.2)) r.1

  pub broken : Simulated
  broken = cases on.does.4.2 on.does.4.3 on.does.4.4.1

module _ (C J : Type 0) where
  pub broke : Simulates C J (AtCarrier (AtBackend Broke))
  broke s s' w h walked on = broken s s' w h walked on
