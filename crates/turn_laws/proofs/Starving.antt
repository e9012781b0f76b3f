-- Memory ran out at a backend: nothing was sent, or a value is kept, which still counts among those that come.
use Rattle.std.proofs.Common.{◌≡◌, inl, ⊎_elim, ℕ, List, [], ◌++◌, Some, None, refl, sym, ap, ◌∙◌, subst, length}
use Rattle.std.specs.Prelude.{slice_get, slice_set, All}
use Rattle.std.proofs.lemmas.List.{append-nil}
use Rattle.resp_wire.specs.declared.value.Value.{Value}
use Rattle.slot_map.specs.Table.{Endpoint}
use Rattle.node_link.specs.LinkModel.{LinkModel}
use Rattle.node_link.specs.LinkCalls.{Comes}
use Rattle.node_link.specs.declared.link.Due.TheVariants as due
use Rattle.proxy_turns.specs.declared.newcomer.Newcomer.{Newcomer}
use Rattle.proxy_turns.specs.declared.backend.Backend.{Backend}
use Rattle.proxy_turns.specs.Backend.{BackendContext, Starves}
use Rattle.proxy_turns.specs.CarrierModel.{CarrierModel, ChangesBackend, Starved, context_of}
use Rattle.world_laws.specs.State.{WorldModel, Link}
use Rattle.world_laws.specs.declared.state.Arrival.{Arrival}
use Rattle.turn_laws.specs.Wire.{Wire, Exchanges}
use Rattle.turn_laws.specs.System.{System}
use Rattle.turn_laws.specs.Shadow.{IsShadow, LinksShadow, LaneShadow, OpenShadow, IsIdle, IsKnown, requests_in, dues_in, backs_in}
use Rattle.turn_laws.specs.Underway.{IsWorking, coming, coming_of, told_in}
use Rattle.turn_laws.specs.Steps.{CarrierStep}
use Rattle.turn_laws.specs.PortsMay.{any_calls}
use Rattle.turn_laws.proofs.Frames.{same-seats, down-fits, carrier-frame}
use Rattle.turn_laws.proofs.Carriers.{backend-stutter}
use Rattle.turn_laws.proofs.AtLines.{same-owing}
use Rattle.turn_laws.proofs.Fetching.{comes-first}
use Rattle.turn_laws.proofs.Waiting.{now, same-closed, same-opened, same-bag}
use Rattle.turn_laws.proofs.Answering.{quiet-backend}
use Rattle.turn_laws.proofs.Seen.{seen-set}

-- nothing went over the port
pub nothing-went : (link link' : LinkModel Wire) → Exchanges link.port [] [] link'.port → link' ≡ record link { port = link'.port } → link' ≡ link
nothing-went link link' x e =
    let port : link'.port ≡ link.port = x.1 ∙ (λ i. record (link.port) { items = append-nil link.port.items i; values = sym x.0 i }) in
    e ∙ (λ i. record link { port = port i })

-- a value is kept
kept-open : (table : List Endpoint) (commands : List Arrival) (link link' : LinkModel Wire) (l : Link) (value : Value)
    → Comes any_calls link (Some value) link'.port → link' ≡ record link { port = link'.port; kept = Some value }
    → OpenShadow table commands link l → OpenShadow table commands link' l
kept-open table commands link link' l value comes e h =
    let c = comes-first link link'.port value comes in
    let node : link'.node ≡ link.node = ap (λ (x : LinkModel Wire). x.node) e in
    let same : coming link' ≡ coming link = ap (λ o. coming_of o link'.port.values) (ap (λ (x : LinkModel Wire). x.kept) e) ∙ sym c.0 in
    let requests : link'.port.items ≡ link.port.items = ap (λ (x : Wire). x.items) c.1 in
    record {
      node = h.node ∙ sym node;
      wired = ap (λ (x : Wire). x.node) c.1 ∙ h.wired ∙ sym node;
      is_open = h.is_open;
      asking = h.asking ∙ sym (ap (λ (x : Wire). x.asking) c.1);
      requests = h.requests ∙ ap requests_in (sym requests);
      known = subst (All (IsKnown commands)) (sym requests) h.known;
      answered = h.answered;
      due = ap (λ (x : LinkModel Wire). x.due) e ∙ h.due ∙ ap (λ rs. h.answered ++ dues_in rs) (sym requests);
      matched = h.matched ∙ ap length (sym same);
      backs = h.backs ∙ (λ i. backs_in table (sym node i) h.answered (sym same i));
    }

kept-idle : (link link' : LinkModel Wire) (value : Value)
    → Comes any_calls link (Some value) link'.port → link' ≡ record link { port = link'.port; kept = Some value }
    → IsIdle link → IsIdle link'
kept-idle link link' value comes e h =
    let c = comes-first link link'.port value comes in
    let same : coming link' ≡ coming link = ap (λ o. coming_of o link'.port.values) (ap (λ (x : LinkModel Wire). x.kept) e) ∙ sym c.0 in
    let requests : link'.port.items ≡ link.port.items = ap (λ (x : Wire). x.items) c.1 in
    let dues : link'.due ≡ link.due = ap (λ (x : LinkModel Wire). x.due) e in
    record {
      wired = ap (λ (x : Wire). x.node) c.1 ∙ h.wired ∙ sym (ap (λ (x : LinkModel Wire). x.node) e);
      none = subst (All (λ d. d ≡ due.Slots)) (sym dues) h.none;
      asking = ap (λ (x : Wire). x.asking) c.1 ∙ h.asking;
      requests = ap requests_in requests ∙ h.requests;
      answered = h.answered;
      due = dues ∙ h.due ∙ ap (λ rs. h.answered ++ dues_in rs) (sym requests);
      matched = h.matched ∙ ap length (sym same);
    }

module _ {C J : Type 0} (s s' : System C J) (w : WorldModel) (h : IsShadow s w) (on : CarrierStep s Starved s') where
  abbrev Lines : ℕ → Backend Wire → Type 0
  Lines k backend' = (s'.carrier.backends ≡ slice_set s.carrier.backends k backend') × (s'.carrier.lanes ≡ s.carrier.lanes) × (s'.carrier.pending_runs ≡ s.carrier.pending_runs)

  same-link : (k : ℕ) (backend backend' : Backend Wire) → slice_get s.carrier.backends k ≡ Some backend → Lines k backend' → backend'.link ≡ backend.link → backend'.pending_told ≡ backend.pending_told → IsShadow s' w
  same-link k backend backend' at e link pending_told = backend-stutter Starved s s' w k backend backend' h on refl at e.0 e.1 e.2 (inl link) (same-owing backend backend' link (ap told_in pending_told))

  kept : (k : ℕ) (backend backend' : Backend Wire) (link link' : LinkModel Wire) (value : Value) → slice_get s.carrier.backends k ≡ Some backend → Lines k backend'
      → backend.link ≡ Some link → backend'.link ≡ Some link' → backend'.pending_told ≡ backend.pending_told → link.failure ≡ None
      → Comes any_calls link (Some value) link'.port → link' ≡ record link { port = link'.port; kept = Some value } → IsShadow s' w
  kept k backend backend' link link' value at e was is pending_told worked comes goes =
      let works : link'.failure ≡ None = ap (λ (c : LinkModel Wire). c.failure) goes ∙ worked in
      let working : IsWorking s.carrier k link = (backend, at, was, worked) in
      let links : LinksShadow s.nodes s'.carrier s.closed s.opened w =
      quiet-backend s.nodes s.carrier s'.carrier s.closed s.opened w h.links k link link' working
      (now Starved s s' on refl k backend backend' link link' at e.0 was is worked works)
      (seen-set s.carrier s'.carrier s.closed k backend backend' at e.0 link link' was is works (ap (λ (x : Wire). x.id) (comes-first link link'.port value comes).1))
      (ap (λ (c : LinkModel Wire). c.node) goes ∙ ((h.links).backends k link working).0)
      (ap (λ (x : Wire). x.id) (comes-first link link'.port value comes).1)
      (λ l o. kept-open s.nodes w.commands link link' l value comes goes o)
      (λ idle. kept-idle link link' value comes goes idle) in
      let closed : s'.closed ≡ s.closed = same-closed Starved s s' on refl k backend backend' link link' at e.0 was is worked works in
      let opened : s'.opened ≡ s.opened = same-opened Starved s s' on refl k backend backend' link link' at e.0 was is worked works in
      carrier-frame Starved s s' w h on
      (subst (λ xs. LinksShadow s.nodes s'.carrier xs s'.opened w) (sym closed) (subst (λ n. LinksShadow s.nodes s'.carrier s.closed n w) (sym opened) links))
      (same-seats s s' (ap length e.1) e.2)
      (λ j model lane p q. down-fits s w h j model lane p (sym (ap (λ xs. slice_get xs j) e.1) ∙ q))
      (same-bag Starved s s' on refl k backend backend' link link' at e.0 was is worked works e.1 e.2 pending_told)
      (λ j model lane p q. subst (LaneShadow w j model lane) (sym (ap (λ xs. slice_get xs j) e.2)) (h.lanes j model lane p (sym (ap (λ xs. slice_get xs j) e.1) ∙ q)))

  at-context : ChangesBackend s.carrier s'.carrier (Starves any_calls) → IsShadow s' w
  at-context d =
      let k : ℕ = d.0 in
      let backend : Backend Wire = d.1 in
      let backend' : Backend Wire = d.2 in
      let e : Lines k backend' = (ap (λ (c : CarrierModel (Newcomer C J) Wire). c.backends) d.5, ap (λ (c : CarrierModel (Newcomer C J) Wire). c.lanes) d.5, ap (λ (c : CarrierModel (Newcomer C J) Wire). c.pending_runs) d.5) in
      ⊎_elim
      (λ (x : context_of s'.carrier backend' ≡ context_of s.carrier backend). same-link k backend backend' d.3 e (ap (λ (u : BackendContext Wire). u.backend.link) x) (ap (λ (u : BackendContext Wire). u.backend.pending_told) x))
      (λ x.
      let is : backend'.link ≡ Some x.1 = ap (λ (u : BackendContext Wire). u.backend.link) x.4 in
      let pending_told : backend'.pending_told ≡ backend.pending_told = ap (λ (u : BackendContext Wire). u.backend.pending_told) x.4 in
      ⊎_elim
      (λ y. ⊎_elim
      (λ z. same-link k backend backend' d.3 e (is ∙ ap Some (nothing-went x.0 x.1 z.0.1 z.1) ∙ sym x.2) pending_told)
      (λ z. kept k backend backend' x.0 x.1 z.0 d.3 e x.2 is pending_told y.0 z.1 z.3)
      y.2)
      (λ y. same-link k backend backend' d.3 e (is ∙ ap Some (nothing-went x.0 x.1 y.0.1.1 y.0.1.2) ∙ sym x.2) pending_told)
      x.3)
      d.4

  pub starved : IsShadow s' w
  starved = ⊎_elim at-context
      (λ x.
      let backend' : Backend Wire = x.2 in
      let e : Lines x.0 backend' = (ap (λ (c : CarrierModel (Newcomer C J) Wire). c.backends) x.7, ap (λ (c : CarrierModel (Newcomer C J) Wire). c.lanes) x.7, ap (λ (c : CarrierModel (Newcomer C J) Wire). c.pending_runs) x.7) in
      let y = x.6 in
      same-link x.0 x.1 backend' x.5 e
      (ap (λ (u : Backend Wire). u.link) y.4 ∙ ap Some (nothing-went y.0 y.1 y.3.1 y.3.2) ∙ sym y.2)
      (ap (λ (u : Backend Wire). u.pending_told) y.4))
      on.does
