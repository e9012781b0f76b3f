-- A step by which one connection goes on; and the step that reads nothing, or the reply to ASKING.
use Rattle.std.proofs.Common.{◌≡◌, ◌≢◌, ◌⊎◌, inl, inr, ⊎_elim, ℕ, ◌+◌, List, [], ◌∷◌, ◌++◌, Some, None, refl, sym, ap, ◌∙◌, subst, arith, length}
use Rattle.std.specs.Prelude.{slice_get, slice_set, All}
use Rattle.std.proofs.lemmas.List.{append-nil}
use Rattle.resp_wire.specs.declared.value.Value.{Value}
use Rattle.node_link.specs.LinkModel.{LinkModel}
use Rattle.node_link.specs.LinkCalls.{Comes}
use Rattle.node_link.specs.declared.link.Due.{Due}
use Rattle.node_link.specs.declared.link.Due.TheVariants as due
use Rattle.proxy_turns.specs.declared.newcomer.Newcomer.{Newcomer}
use Rattle.proxy_turns.specs.declared.backend.Backend.{Backend}
use Rattle.proxy_turns.specs.declared.backend_step.BackendStep.TheVariants.{Waited}
use Rattle.proxy_turns.specs.Backend.{BackendContext}
use Rattle.proxy_turns.specs.CarrierModel.{CarrierModel, CarrierEvent, AtBackend}
use Rattle.world_laws.specs.State.{WorldModel, Link}
use Rattle.world_laws.specs.World.{WorldDoes}
use Rattle.world_laws.specs.declared.event.Event.{Event}
use Rattle.world_laws.specs.declared.event.Event.TheVariants.{Fetch}
use Rattle.world_laws.specs.Places.{total}
use Rattle.world_laws.proofs.Recorded.{at-set}
use Rattle.turn_laws.specs.Walks.{ticked, Walk}
use Rattle.turn_laws.specs.Wire.{Wire}
use Rattle.turn_laws.specs.System.{System}
use Rattle.turn_laws.specs.Shadow.{IsShadow, LinksShadow, LaneShadow, OpenShadow, IsIdle, IsUnnumbered, Numbers}
use Rattle.turn_laws.specs.Underway.{IsWorking, downs_of, downs_in, told_in, lost_in, lost_by}
use Rattle.turn_laws.specs.Steps.{AtCarrier, CarrierStep, FailsAt, opened_by}
use Rattle.turn_laws.specs.PortsMay.{any_calls}
use Rattle.turn_laws.specs.Refines.{Simulates}
use Rattle.turn_laws.proofs.Downs.{SameBag, total-set-flat}
use Rattle.turn_laws.proofs.Frames.{same-seats, still-closed, still-opened, link-frame, down-fits}
use Rattle.turn_laws.proofs.Bags.{refusals, debts, bag-parts}
use Rattle.turn_laws.proofs.Carriers.{not-up, backend-stutter}
use Rattle.turn_laws.proofs.AtLines.{same-owing}
use Rattle.turn_laws.proofs.Openings.{one-backend, one-connection}
use Rattle.turn_laws.proofs.Lines.{backend-changes}
use Rattle.turn_laws.proofs.Fetching.{fetched-shadow, comes-first}
use Rattle.turn_laws.proofs.Seen.{seen-set}

pub not-idle : (dues : List Due) (first : Due) (more : List Due) → dues ≡ first ∷ more → All (λ d. d ≡ due.Slots) dues → first ≡ due.Slots
not-idle dues first more e all = subst (All (λ d. d ≡ due.Slots)) e all 0 first (omega arith)

asking-waits : due.Asking ≡ due.Slots → ⊥
asking-waits e = cc

module _ {C J : Type 0} where
  -- One connection that works goes on to be another of the same number.
  module _ (event : CarrierEvent) (s s' : System C J) (on : CarrierStep s event s') (quiet : opened_by event s.opened ≡ s.opened) (k : ℕ) (backend backend' : Backend Wire) (link link' : LinkModel Wire)
      (at : slice_get s.carrier.backends k ≡ Some backend) (backends : s'.carrier.backends ≡ slice_set s.carrier.backends k backend')
      (was : backend.link ≡ Some link) (is : backend'.link ≡ Some link') (worked : link.failure ≡ None) (works : link'.failure ≡ None) where
    seen : (j : ℕ) (l : Backend Wire) → slice_get s'.carrier.backends j ≡ Some l → ((j ≡ k) × (l ≡ backend')) ⊎ ((j ≢ k) × (slice_get s.carrier.backends j ≡ Some l))
    seen j l e = at-set s.carrier.backends k backend' j l (sym (ap (λ xs. slice_get xs j) backends) ∙ e)

    pub now : (j : ℕ) (x : LinkModel Wire) → IsWorking s'.carrier j x → ((j ≡ k) × (x ≡ link')) ⊎ ((j ≢ k) × IsWorking s.carrier j x)
    now j x w = ⊎_elim
        (λ (z : (j ≡ k) × (w.0 ≡ backend')). inl (z.0, one-connection (w.0).link x link' w.2 (ap (λ (l : Backend Wire). l.link) z.1 ∙ is)))
        (λ (z : (j ≢ k) × (slice_get s.carrier.backends j ≡ Some w.0)). inr (z.0, (w.0, z.1, w.2, w.3)))
        (seen j w.0 w.1)

    fails : (j : ℕ) (x y : LinkModel Wire) → FailsAt s j x y s' → ⊥
    fails j x y f = ⊎_elim
        (λ (z : (j ≡ k) × (f.1 ≡ backend')).
        let same : y ≡ link' = one-connection (f.1).link y link' f.3 (ap (λ (l : Backend Wire). l.link) z.1 ∙ is) in
        not-up (Some y) y refl (ap (λ (c : LinkModel Wire). c.failure) same ∙ works) f.4)
        (λ (z : (j ≢ k) × (slice_get s.carrier.backends j ≡ Some f.1)).
        let same : f.0.0 ≡ f.1 = one-backend s.carrier.backends j f.0.0 f.1 f.0.1 z.1 in
        let it : x ≡ y = one-connection (f.1).link x y (ap (λ (l : Backend Wire). l.link) (sym same) ∙ f.0.2) f.3 in
        not-up (Some y) y refl (ap (λ (c : LinkModel Wire). c.failure) (sym it) ∙ f.0.3) f.4)
        (seen j f.1 f.2)

    pub same-closed : s'.closed ≡ s.closed
    same-closed = still-closed s s' fails on.breaks

    pub same-opened : s'.opened ≡ s.opened
    same-opened = still-opened event s s' on quiet

    -- what is on its way down stays
    pub same-bag : s'.carrier.lanes ≡ s.carrier.lanes → s'.carrier.pending_runs ≡ s.carrier.pending_runs → backend'.pending_told ≡ backend.pending_told → SameBag (downs_of s) (downs_of s')
    same-bag lanes pending_runs pending_told f =
        let fl : s'.workers ≡ s.workers = ap (λ (x : System C J). x.workers) on.leaves in
        let rings : total f (downs_in s'.workers s'.carrier.lanes) ≡ total f (downs_in s.workers s.carrier.lanes) = λ i. total f (downs_in (fl i) (lanes i)) in
        omega (
          arith,
          bag-parts f s,
          bag-parts f s',
          rings,
          ap (λ hs. total f (refusals hs)) pending_runs,
          ap (λ ls. total f (debts ls)) backends,
          total-set-flat f (λ (backend : Backend Wire). told_in backend.pending_told ++ lost_in backend.link) s.carrier.backends k backend backend' at,
          (let e : total f (told_in backend'.pending_told ++ lost_in backend'.link) ≡ total f (told_in backend.pending_told ++ lost_in (Some link')) = λ i. total f (told_in (pending_told i) ++ lost_in (is i)) in e),
          (let e : total f (told_in backend.pending_told ++ lost_in backend.link) ≡ total f (told_in backend.pending_told ++ lost_in (Some link)) = λ i. total f (told_in backend.pending_told ++ lost_in (was i)) in e),
          (let e : total f (told_in backend.pending_told ++ lost_in (Some link)) ≡ total f (told_in backend.pending_told ++ []) = none link worked in e),
          (let e : total f (told_in backend.pending_told ++ lost_in (Some link')) ≡ total f (told_in backend.pending_told ++ []) = none link' works in e),
        )
      where
        none : (x : LinkModel Wire) → x.failure ≡ None → total f (told_in backend.pending_told ++ lost_in (Some x)) ≡ total f (told_in backend.pending_told ++ [])
        none x e = ap (λ o. total f (told_in backend.pending_told ++ lost_by o x.due)) e

module _ {C J : Type 0} (s s' : System C J) (w : WorldModel) (h : IsShadow s w) (on : CarrierStep s (AtBackend Waited) s') where
  abbrev k : ℕ
  k = on.does.0

  abbrev backend : Backend Wire
  backend = on.does.1

  abbrev backend' : Backend Wire
  backend' = on.does.2

  abbrev link : LinkModel Wire
  link = on.does.4.0

  abbrev link' : LinkModel Wire
  link' = on.does.4.1

  backends : s'.carrier.backends ≡ slice_set s.carrier.backends k backend'
  backends = ap (λ (c : CarrierModel (Newcomer C J) Wire). c.backends) on.does.5

  lanes : s'.carrier.lanes ≡ s.carrier.lanes
  lanes = ap (λ (c : CarrierModel (Newcomer C J) Wire). c.lanes) on.does.5

  pending_runs : s'.carrier.pending_runs ≡ s.carrier.pending_runs
  pending_runs = ap (λ (c : CarrierModel (Newcomer C J) Wire). c.pending_runs) on.does.5

  was : backend.link ≡ Some link
  was = on.does.4.2.0

  is : backend'.link ≡ Some link'
  is = ap (λ (x : BackendContext Wire). x.backend.link) on.does.4.4

  pending_told : backend'.pending_told ≡ backend.pending_told
  pending_told = ap (λ (x : BackendContext Wire). x.backend.pending_told) on.does.4.4

  worked : link.failure ≡ None
  worked = on.does.4.2.1.0

  -- the port gave none
  nothing : Comes any_calls link None link'.port → link' ≡ record link { port = link'.port } → IsShadow s' w
  nothing comes e =
      let port : link'.port ≡ link.port = comes.1.1 ∙ (λ i. record (link.port) { items = append-nil link.port.items i; values = sym comes.1.0 i }) in
      let same : link' ≡ link = e ∙ (λ i. record link { port = port i }) in
      let stays : backend'.link ≡ backend.link = is ∙ ap Some same ∙ sym was in
      backend-stutter (AtBackend Waited) s s' w k backend backend' h on refl on.does.3 backends lanes pending_runs (inl stays) (same-owing backend backend' stays (ap told_in pending_told))

  -- the reply to ASKING came: the machine fetches it
  module _ (value : Value) (comes : Comes any_calls link (Some value) link'.port) (dues : link.due ≡ due.Asking ∷ link'.due)
      (e : link' ≡ record link { port = link'.port; due = link'.due; kept = None }) where
    works : link'.failure ≡ None
    works = ap (λ (c : LinkModel Wire). c.failure) e ∙ worked

    working : IsWorking s.carrier k link
    working = (backend, on.does.3, was, worked)

    abbrev Fetched : Type 0
    Fetched = (i : ℕ) × (l : Link) × (links : List Link) × WorldDoes (ticked w) (Fetch i) (record w { links = links; moment = w.moment + 1 }) × IsShadow s' (record w { links = links; moment = w.moment + 1 })

    numbered : (i : ℕ) (l : Link) → Numbers (h.links).ids link.port.id i → slice_get w.links i ≡ Some l → OpenShadow s.nodes w.commands link l → Fetched
    numbered i l numbers at open' =
        let f = fetched-shadow s.nodes w.commands link link' l due.Asking value open' comes dues e in
        let l' : Link = record l { backs = f.0 } in
        let links' : List Link = slice_set w.links i l' in
        let w' : WorldModel = record w { links = links'; moment = w.moment + 1 } in
        let id : link'.port.id ≡ link.port.id = same-id value comes in
        let node : link'.node ≡ k = ap (λ (c : LinkModel Wire). c.node) e ∙ ((h.links).backends k link working).0 in
        let shadow : LinksShadow s.nodes s'.carrier s.closed s.opened w' =
        backend-changes s.nodes s.carrier s'.carrier s.closed s.opened w w' h.links k i link link' l l' working
        (now (AtBackend Waited) s s' on refl k backend backend' link link' on.does.3 backends was is worked works)
        (seen-set s.carrier s'.carrier s.closed k backend backend' on.does.3 backends link link' was is works id)
        node id numbers at refl
        f.2
        (λ x m o. o)
        (λ x m o. o) in
        let closed : s'.closed ≡ s.closed = same-closed (AtBackend Waited) s s' on refl k backend backend' link link' on.does.3 backends was is worked works in
        let opened : s'.opened ≡ s.opened = same-opened (AtBackend Waited) s s' on refl k backend backend' link link' on.does.3 backends was is worked works in (
          i,
          l,
          links',
          (l, at, open'.is_open, inl (f.0, f.1, refl)),
          link-frame (AtBackend Waited) s s' w links' (w.moment + 1) (omega arith) h on
              (subst (λ xs. LinksShadow s.nodes s'.carrier xs s'.opened w') (sym closed) (subst (λ n. LinksShadow s.nodes s'.carrier s.closed n w') (sym opened) shadow))
              (same-seats s s' (ap length lanes) pending_runs)
              (λ j model lane p q. down-fits s w h j model lane p (sym (ap (λ xs. slice_get xs j) lanes) ∙ q))
              (same-bag (AtBackend Waited) s s' on refl k backend backend' link link' on.does.3 backends was is worked works lanes pending_runs pending_told)
              (λ j model lane p q. subst (LaneShadow w j model lane) (sym (ap (λ xs. slice_get xs j) pending_runs)) (h.lanes j model lane p (sym (ap (λ xs. slice_get xs j) lanes) ∙ q))),
        )
      where
        same-id : (value : Value) → Comes any_calls link (Some value) link'.port → link'.port.id ≡ link.port.id
        same-id value comes = ap (λ (x : Wire). x.id) (comes-first link link'.port value comes).1

    welcome : Fetched
    welcome = ⊎_elim
        (λ (x : (i : ℕ) × (l : Link) × Numbers (h.links).ids link.port.id i × (slice_get w.links i ≡ Some l) × OpenShadow s.nodes w.commands link l). numbered x.0 x.1 x.2 x.3 x.4)
        (λ (x : IsUnnumbered (h.links).ids link.port.id × IsIdle link). absurd (asking-waits (not-idle link.due due.Asking link'.due dues (x.1).none)))
        ((h.links).backends k link working).2

  abbrev pub Simulated : Type 0
  Simulated = (events : List Event) × (w' : WorldModel) × Walk w events w' × IsShadow s' w'

  pub waits : Simulated
  waits = ⊎_elim
      (λ (x : Comes any_calls link None link'.port × (link' ≡ record link { port = link'.port })). ([], w, refl, nothing x.0 x.1))
      (λ (x : (value : Value) × Comes any_calls link (Some value) link'.port × (link.due ≡ due.Asking ∷ link'.due) × (link' ≡ record link { port = link'.port; due = link'.due; kept = None })).
      let r = welcome x.0 x.1 x.2 x.3 in
      let w' : WorldModel = record w { links = r.2; moment = w.moment + 1 } in (Fetch r.0 ∷ [], w', (w', r.3, refl), r.4))
      on.does.4.2.1.2

module _ (C J : Type 0) where
  pub waited : Simulates C J (AtCarrier (AtBackend Waited))
  waited s s' w h walked on = waits s s' w h on
