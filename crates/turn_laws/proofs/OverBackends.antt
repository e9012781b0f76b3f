-- A backend over ports of any kind: what its steps do, they do over the wire for which its port stands.
use Rattle.std.proofs.Common.{◌≡◌, ◌<◌, ◌≤◌, ◌⊎◌, inl, inr, ⊎_elim, ℕ, Bool, true, false, List, Some, None, Result, Ok, Err, refl, sym, ap, ◌∙◌, subst, arith}
use Rattle.std.specs.Prelude.{Option, length, slice_get}
use Rattle.resp_wire.specs.declared.value.Value.{Value}
use Rattle.resp_wire.specs.declared.fault.NoMemory.{NoMemory}
use Rattle.key_split.specs.Requests.{Request}
use Rattle.key_split.specs.Runs.{RunModel, count_in, requests_of_run}
use Rattle.slot_map.specs.Table.{Endpoint}
use Rattle.node_link.specs.LinkModel.{LinkModel}
use Rattle.node_link.specs.LinkCalls.{Sends, Receives}
use Rattle.node_link.specs.declared.link.Got.{Got}
use Rattle.node_link.specs.declared.link.Got.TheVariants as got
use Rattle.node_link.specs.declared.link.LinkFault.{LinkFault}
use Rattle.node_link.specs.declared.link.LinkFault.TheVariants as fault
use Rattle.node_link.specs.Port.{PortCalls}
use Rattle.proxy_turns.specs.declared.backend.Backend.{Backend}
use Rattle.proxy_turns.specs.declared.backend_step.BackendStep.{BackendStep}
use Rattle.proxy_turns.specs.declared.backend_step.BackendStep.TheVariants.{Idle, Waited, Broke, Fetched, Answered, GaveUp, Closed, Published, Asked, Spared, Read, Unread, Renewed}
use Rattle.proxy_turns.specs.Backend.{BackendContext, BackendDoes, Fetches, GoesOut, IsUnreadable, Starves, has_failed, is_open}
use Rattle.proxy_turns.specs.Sending.{IsRefused, IsTooLong, IsUnreached, SendOutcome}
use Rattle.turn_laws.specs.Wire.{Wire, Dials}
use Rattle.turn_laws.specs.PortsMay.{any_calls}
use Rattle.turn_laws.specs.AnyPort.{StandsFor, IsWired, over_link, link_over, over_backend}
use Rattle.turn_laws.proofs.OverLinks.{sends-over, goes-out, receives-over}

abbrev pub over_context : {P : Type 0} → BackendContext P → Wire → BackendContext Wire
over_context context wire = record { backend = over_backend context.backend wire; nodes = context.nodes; published = context.published }

-- what is asked of a link asks nothing of its port
pub open-over : {P : Type 0} (o : Option (LinkModel P)) (wire : Wire) → is_open (link_over o wire) ≡ is_open o
open-over None wire = refl
open-over (Some link) wire = refl

pub failed-over : {P : Type 0} (o : Option (LinkModel P)) (wire : Wire) → has_failed (link_over o wire) ≡ has_failed o
failed-over None wire = refl
failed-over (Some link) wire = refl

unreadable-over : {P : Type 0} (o : Option (LinkModel P)) (wire : Wire) (value : Value) (nodes : List Endpoint) → IsUnreadable o value nodes → IsUnreadable (link_over o wire) value nodes
unreadable-over None wire value nodes x = x
unreadable-over (Some link) wire value nodes x = x

-- the run goes out, over an open link whose port takes one as long
abbrev pub RunGoes : {P : Type 0} → PortCalls P → (P → ℕ) → Backend P → RunModel → Backend P → Type 0
RunGoes {P} calls longest old run new =
    (link : LinkModel P) × (link' : LinkModel P) × (old.link ≡ Some link) × (count_in run ≤ longest link.port)
    × GoesOut calls link (requests_of_run run) link' × (new ≡ record old { link = Some link' })

module _ {P : Type 0} (wired : P → Wire → Type 0) (calls : PortCalls P)
    (stands : StandsFor wired calls.exchange) where
  -- over a wire for which the link's port stands
  abbrev pub Over : Option (LinkModel P) → (Wire → Type 0) → Type 0
  Over link holds = (wire : Wire) × IsWired wired link wire × holds wire

  port-of : (o : Option (LinkModel P)) (link : LinkModel P) (wire : Wire) → o ≡ Some link → IsWired wired o wire → wired link.port wire
  port-of o link wire e on = subst (λ x. IsWired wired x wire) e on

  linked : (o : Option (LinkModel P)) (link : LinkModel P) (wire : Wire) → o ≡ Some link → link_over o wire ≡ Some (over_link link wire)
  linked o link wire e = ap (λ x. link_over x wire) e

  wired-as : (new : BackendContext P) (backend : Backend P) (wire : Wire) → new.backend ≡ backend → IsWired wired backend.link wire → IsWired wired new.backend.link wire
  wired-as new backend wire e on = subst (λ (b : Backend P). IsWired wired b.link wire) (sym e) on

  module _ (old new : BackendContext P) (wire : Wire) (on : IsWired wired old.backend.link wire) where
    abbrev Does : BackendStep → Bool → Type 0
    Does step unanswered = Over new.backend.link (λ w. BackendDoes any_calls unanswered (over_context old wire) step (over_context new w))

    -- a step by which the link stays
    stays : (holds : Wire → Type 0) → new.backend.link ≡ old.backend.link → holds wire → Over new.backend.link holds
    stays holds e x = (wire, subst (λ o. IsWired wired o wire) (sym e) on, x)

    fetched : (link link' : LinkModel P) (given : Result (Option Got) LinkFault) → Fetches calls old link given link' new.nodes
        → (w : Wire) × wired link'.port w × Fetches any_calls (over_context old wire) (over_link link wire) given (over_link link' w) new.nodes
    fetched link link' given x =
        let r = receives-over wired calls stands link link' wire (port-of old.backend.link link wire x.0 on) old.nodes given new.nodes x.1 in
        (r.0, r.1, (linked old.backend.link link wire x.0, r.2))

    pub does-over : (unanswered : Bool) (step : BackendStep) → BackendDoes calls unanswered old step new → Does step unanswered
    does-over unanswered Idle x = stays _ (ap (λ (c : BackendContext P). c.backend.link) x) (λ i. over_context (x i) wire)
    does-over unanswered Waited x =
        let r = fetched x.0 x.1 (Ok None) x.2 in
        (r.0, wired-as new _ r.0 (ap (λ (c : BackendContext P). c.backend) x.4) r.1, (over_link x.0 wire, over_link x.1 r.0, r.2, inr tt, λ i. over_context (x.4 i) r.0))
    does-over unanswered Broke x =
        let r = fetched x.0 x.1 (Err x.2) x.4 in
        (r.0, wired-as new _ r.0 (ap (λ (c : BackendContext P). c.backend) x.5) r.1, (over_link x.0 wire, over_link x.1 r.0, x.2, x.3, r.2, λ i. over_context (x.5 i) r.0))
    does-over unanswered Fetched x =
        let r = fetched x.0 x.1 (Ok (Some (got.Ticket x.2 x.3))) x.5 in
        (r.0, wired-as new _ r.0 (ap (λ (c : BackendContext P). c.backend) x.6) r.1, (over_link x.0 wire, over_link x.1 r.0, x.2, x.3, x.4, r.2, λ i. over_context (x.6 i) r.0))
    does-over unanswered Answered x =
        let r = fetched x.0 x.1 (Ok (Some (got.Slots x.2))) x.4 in
        (r.0, wired-as new _ r.0 (ap (λ (c : BackendContext P). c.backend) x.5) r.1, (over_link x.0 wire, over_link x.1 r.0, x.2, x.3, r.2, λ i. over_context (x.5 i) r.0))
    does-over unanswered GaveUp x =
        let port : wired (x.1).port wire = subst (λ (l : LinkModel P). wired l.port wire) (sym x.7) (port-of old.backend.link x.0 wire x.4 on) in (
          wire,
          wired-as new _ wire (ap (λ (c : BackendContext P). c.backend) x.8) port,
          (over_link x.0 wire, over_link x.1 wire, x.2, x.3, linked old.backend.link x.0 wire x.4, x.5, x.6, (λ i. over_link (x.7 i) wire), λ i. over_context (x.8 i) wire),
        )
    does-over unanswered Closed x =
        (wire, wired-as new _ wire (ap (λ (c : BackendContext P). c.backend) x.5) tt, (over_link x.0 wire, x.1, linked old.backend.link x.0 wire x.2, x.3, x.4, λ i. over_context (x.5 i) wire))
    does-over unanswered Published x = stays _ (ap (λ (c : BackendContext P). c.backend.link) x.4) (x.0, x.1, x.2, x.3, (λ i. over_context (x.4 i) wire), x.5)
    does-over unanswered Asked x =
        let r = goes-out wired calls stands x.0 x.1 wire (port-of old.backend.link x.0 wire x.4 on) _ x.5 in
        (r.0, wired-as new _ r.0 (ap (λ (c : BackendContext P). c.backend) x.6) r.1, (over_link x.0 wire, over_link x.1 r.0, x.2, x.3, linked old.backend.link x.0 wire x.4, r.2, λ i. over_context (x.6 i) r.0))
    does-over unanswered Spared x =
        stays _ (ap (λ (c : BackendContext P). c.backend.link) x.2)
        (x.0, ⊎_elim (λ (y : unanswered ≡ true). inl y) (λ (y : is_open old.backend.link ≡ false). inr (open-over old.backend.link wire ∙ y)) x.1, λ i. over_context (x.2 i) wire)
    does-over unanswered Read x =
        stays _ (ap (λ (c : BackendContext P). c.backend.link) x.7) (over_link x.0 wire, x.1, x.2, linked old.backend.link x.0 wire x.3, x.4, x.5, x.6, λ i. over_context (x.7 i) wire)
    does-over unanswered Unread x =
        stays _ (ap (λ (c : BackendContext P). c.backend.link) x.3) (x.0, x.1, unreadable-over old.backend.link wire x.0 old.nodes x.2, λ i. over_context (x.3 i) wire)
    does-over unanswered Renewed x = stays _ (ap (λ (c : BackendContext P). c.backend.link) x.2) (x.0, x.1, λ i. over_context (x.2 i) wire)

    pub starves-over : Starves calls old new → Over new.backend.link (λ w. Starves any_calls (over_context old wire) (over_context new w))
    starves-over (inl e) = stays _ (ap (λ (c : BackendContext P). c.backend.link) e) (inl (λ i. over_context (e i) wire))
    starves-over (inr x) =
        let port = port-of old.backend.link x.0 wire x.2 on in
        let r = went x.0 x.1 port x.3 in
        (r.0, wired-as new _ r.0 (ap (λ (c : BackendContext P). c.backend) x.4) r.1, inr (over_link x.0 wire, over_link x.1 r.0, linked old.backend.link x.0 wire x.2, r.2, λ i. over_context (x.4 i) r.0))
      where
        went : (link link' : LinkModel P) → wired link.port wire
            → Receives calls link old.nodes (Err fault.NoMemory) link' new.nodes ⊎ (((requests : List Request) × Sends calls link requests (Err fault.NoMemory) link') × (new.nodes ≡ old.nodes))
            → (w : Wire) × wired link'.port w × (Receives any_calls (over_link link wire) old.nodes (Err fault.NoMemory) (over_link link' w) new.nodes
            ⊎ (((requests : List Request) × Sends any_calls (over_link link wire) requests (Err fault.NoMemory) (over_link link' w)) × (new.nodes ≡ old.nodes)))
        went link link' port (inl y) = let r = receives-over wired calls stands link link' wire port old.nodes (Err fault.NoMemory) new.nodes y in (r.0, r.1, inl r.2)
        went link link' port (inr y) = let r = sends-over wired calls stands link link' wire port y.0.0 (Err fault.NoMemory) y.0.1 in (r.0, r.1, inr ((y.0.0, r.2), y.1))

  -- a run goes out
  module _ (longest : P → ℕ) (old new : Backend P) (wire : Wire) (on : IsWired wired old.link wire) (run : RunModel) where
    pub sent-over : RunGoes calls longest old run new
        → Over new.link (λ w. RunGoes any_calls (λ _. count_in run) (over_backend old wire) run (over_backend new w))
    sent-over x =
        let r = goes-out wired calls stands x.0 x.1 wire (port-of old.link x.0 wire x.2 on) (requests_of_run run) x.4 in
        (r.0, subst (λ (b : Backend P). IsWired wired b.link r.0) (sym x.5) r.1, (over_link x.0 wire, over_link x.1 r.0, linked old.link x.0 wire x.2, omega arith, r.2, λ i. over_backend (x.5 i) r.0))

    pub starved-over : (e : NoMemory) → SendOutcome calls longest old run (Err e) new
        → Over new.link (λ w. SendOutcome any_calls (λ _. 0) (over_backend old wire) run (Err e) (over_backend new w))
    starved-over e x =
        let r = sends-over wired calls stands x.0 x.1 wire (port-of old.link x.0 wire x.2 on) (requests_of_run run) (Err fault.NoMemory) x.3 in
        (r.0, subst (λ (b : Backend P). IsWired wired b.link r.0) (sym x.4) r.1, (over_link x.0 wire, over_link x.1 r.0, linked old.link x.0 wire x.2, r.2, λ i. over_backend (x.4 i) r.0))

-- nothing of a run can be sent: each is longer than none
too-long : {P : Type 0} (longest : P → ℕ) (run : RunModel) (o : Option (LinkModel P)) (wire : Wire) → IsTooLong longest run o → IsTooLong (λ (w : Wire). 0) run (link_over o wire)
too-long longest run None wire x = x
too-long longest run (Some link) wire x = (x.0, omega arith, x.2)

-- a dial that failed says nothing of a wire
pub unreached-over : {P : Type 0} (opens : Endpoint → Option P → ℕ → ℕ → Type 0) (nodes : List Endpoint) (opened node before now : ℕ) → IsUnreached opens node nodes before now
    → IsUnreached (Dials nodes opened) node nodes before now
unreached-over opens nodes opened node before now x = ⊎_elim
    (λ (y : (at : Endpoint) × (slice_get nodes node ≡ Some at) × opens at None before now × (before < now)). inl (y.0, y.1, tt, y.3))
    (λ (y : (length nodes ≤ node) × (now ≡ before)). inr y)
    x

pub refused-over : {P : Type 0} (opens : Endpoint → Option P → ℕ → ℕ → Type 0) (opened : ℕ) (longest : P → ℕ) (run : RunModel) (o : Option (LinkModel P)) (wire : Wire) (nodes : List Endpoint) (before now : ℕ)
    → IsRefused opens longest run o nodes before now → IsRefused (Dials nodes opened) (λ (w : Wire). 0) run (link_over o wire) nodes before now
refused-over opens opened longest run o wire nodes before now x = ⊎_elim
    (λ (y : (o ≡ None) × IsUnreached opens run.first.node nodes before now). inl (ap (λ z. link_over z wire) y.0, unreached-over opens nodes opened run.first.node before now y.1))
    (λ (y : IsTooLong longest run o × (now ≡ before)). inr (too-long longest run o wire y.0, y.1))
    x
