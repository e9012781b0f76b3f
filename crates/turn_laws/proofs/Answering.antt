-- A connection goes on and the machine's links stay: the reply to CLUSTER SLOTS is read.
use Rattle.std.proofs.Common.{◌≡◌, ◌≢◌, ◌⊎◌, inl, inr, ⊎_elim, ℕ, suc, ◌<◌, List, ◌∷◌, ◌++◌, Some, None, refl, sym, ap, ◌∙◌, subst, arith, length}
use Rattle.std.specs.Prelude.{slice_get, slice_set, All}
use Rattle.resp_wire.specs.declared.value.Value.{Value}
use Rattle.slot_map.specs.Table.{Endpoint}
use Rattle.node_link.specs.LinkModel.{LinkModel}
use Rattle.node_link.specs.LinkCalls.{Comes}
use Rattle.node_link.specs.declared.link.Due.{Due}
use Rattle.node_link.specs.declared.link.Due.TheVariants as due
use Rattle.proxy_turns.specs.declared.newcomer.Newcomer.{Newcomer}
use Rattle.proxy_turns.specs.declared.backend.Backend.{Backend}
use Rattle.proxy_turns.specs.declared.backend_step.BackendStep.TheVariants.{Answered}
use Rattle.proxy_turns.specs.Backend.{BackendContext}
use Rattle.proxy_turns.specs.CarrierModel.{CarrierModel, AtBackend}
use Rattle.world_laws.specs.State.{WorldModel, Link}
use Rattle.turn_laws.specs.Wire.{Wire}
use Rattle.turn_laws.specs.System.{System}
use Rattle.turn_laws.specs.Shadow.{IsShadow, LinksShadow, LaneShadow, BackendShadow, OpenShadow, IsIdle, IsUnnumbered, Numbers, requests_in, dues_in, SeenIn}
use Rattle.turn_laws.specs.Underway.{IsWorking, coming, coming_of}
use Rattle.turn_laws.specs.Steps.{CarrierStep}
use Rattle.turn_laws.specs.PortsMay.{any_calls}
use Rattle.turn_laws.proofs.Frames.{same-seats, down-fits, carrier-frame}
use Rattle.turn_laws.proofs.Fetching.{fetched-shadow, comes-first, waits-first}
use Rattle.turn_laws.proofs.Waiting.{now, same-closed, same-opened, same-bag}
use Rattle.turn_laws.proofs.Seen.{seen-set}

module _ {H : Type 0} (nodes : List Endpoint) (a b : CarrierModel H Wire) (closed : List Wire) (opened : ℕ) (w : WorldModel) (h : LinksShadow nodes a closed opened w)
    (k : ℕ) (link link' : LinkModel Wire) (working : IsWorking a k link)
    (now' : (j : ℕ) (x : LinkModel Wire) → IsWorking b j x → ((j ≡ k) × (x ≡ link')) ⊎ ((j ≢ k) × IsWorking a j x)) (sight : (m : ℕ) → SeenIn a closed m → SeenIn b closed m)
    (node : link'.node ≡ k) (id : link'.port.id ≡ link.port.id)
    (shows : (l : Link) → OpenShadow nodes w.commands link l → OpenShadow nodes w.commands link' l) (idles : IsIdle link → IsIdle link') where
  mine : (j : ℕ) (x : LinkModel Wire) → j ≡ k → x ≡ link' → (x.node ≡ j) × (x.port.id < opened) × BackendShadow nodes w h.ids x
  mine j x ej e =
      let old = h.backends k link working in
      subst (λ (c : LinkModel Wire). (c.node ≡ j) × (c.port.id < opened) × BackendShadow nodes w h.ids c) (sym e) (
        node ∙ sym ej,
        subst (λ m. m < opened) (sym id) old.1,
        ⊎_elim
            (λ (z : (i : ℕ) × (l : Link) × Numbers h.ids link.port.id i × (slice_get w.links i ≡ Some l) × OpenShadow nodes w.commands link l).
            inl (z.0, z.1, subst (λ m. Numbers h.ids m z.0) (sym id) z.2, z.3, shows z.1 z.4))
            (λ (z : IsUnnumbered h.ids link.port.id × IsIdle link). inr (subst (IsUnnumbered h.ids) (sym id) z.0, idles z.1))
            old.2,
      )

  pub quiet-backend : LinksShadow nodes b closed opened w
  quiet-backend = record {
    ids = h.ids;
    all = h.all;
    below = h.below;
    once = h.once;
    backends = λ j x working'. ⊎_elim
        (λ (z : (j ≡ k) × (x ≡ link')). mine j x z.0 z.1)
        (λ (z : (j ≢ k) × IsWorking a j x). h.backends j x z.1)
        (now' j x working');
    wires = h.wires;
    apart = λ j m x y p q e. ⊎_elim
        (λ (u : (j ≡ k) × (x ≡ link')). ⊎_elim
        (λ (v : (m ≡ k) × (y ≡ link')). u.0 ∙ sym v.0)
        (λ (v : (m ≢ k) × IsWorking a m y). u.0 ∙ h.apart k m link y working v.1 (sym id ∙ ap (λ (c : LinkModel Wire). c.port.id) (sym u.1) ∙ e))
        (now' m y q))
        (λ (u : (j ≢ k) × IsWorking a j x). ⊎_elim
        (λ (v : (m ≡ k) × (y ≡ link')). h.apart j k x link u.1 working (e ∙ ap (λ (c : LinkModel Wire). c.port.id) v.1 ∙ id) ∙ sym v.0)
        (λ (v : (m ≢ k) × IsWorking a m y). h.apart j m x y u.1 v.1 e)
        (now' m y q))
        (now' j x p);
    aside = λ j i x wire p q. ⊎_elim
        (λ (u : (j ≡ k) × (x ≡ link')). λ e. h.aside k i link wire working q (sym id ∙ ap (λ (c : LinkModel Wire). c.port.id) (sym u.1) ∙ e))
        (λ (u : (j ≢ k) × IsWorking a j x). h.aside j i x wire u.1 q)
        (now' j x p);
    each = h.each;
    seen = λ i m e. sight m (h.seen i m e);
  }

-- the first of those that wait is taken off
drop-first : (dues rest : List Due) (d : Due) → dues ≡ d ∷ rest → All (λ x. x ≡ due.Slots) dues → All (λ x. x ≡ due.Slots) rest
drop-first dues rest d e all = λ j x lt. subst (All (λ x. x ≡ due.Slots)) e all (suc j) x (omega (arith, lt))

-- an idle connection stays idle when its first value is read
idle-still : (link link' : LinkModel Wire) (d : Due) (value : Value) → IsIdle link → Comes any_calls link (Some value) link'.port → link.due ≡ d ∷ link'.due
    → link' ≡ record link { port = link'.port; due = link'.due; kept = None } → IsIdle link'
idle-still link link' d value h comes dues is =
    let c = comes-first link link'.port value comes in
    let f = waits-first h.answered (dues_in link.port.items) link'.due d value link'.port.values (sym dues ∙ h.due) (h.matched ∙ ap length c.0) in
    let requests : link'.port.items ≡ link.port.items = ap (λ (x : Wire). x.items) c.1 in
    let now : coming link' ≡ link'.port.values = ap (λ o. coming_of o link'.port.values) (ap (λ (x : LinkModel Wire). x.kept) is) in
    record {
      wired = ap (λ (x : Wire). x.node) c.1 ∙ h.wired ∙ sym (ap (λ (x : LinkModel Wire). x.node) is);
      none = drop-first link.due link'.due d dues h.none;
      asking = ap (λ (x : Wire). x.asking) c.1 ∙ h.asking;
      requests = ap requests_in requests ∙ h.requests;
      answered = f.0;
      due = f.2 ∙ ap (λ rs. f.0 ++ dues_in rs) (sym requests);
      matched = f.3 ∙ ap length (sym now);
    }

module _ {C J : Type 0} where
  pub answered : (s s' : System C J) (w : WorldModel) → IsShadow s w → CarrierStep s (AtBackend Answered) s' → IsShadow s' w
  answered s s' w h on =
      let k : ℕ = on.does.0 in
      let backend : Backend Wire = on.does.1 in
      let backend' : Backend Wire = on.does.2 in
      let link : LinkModel Wire = on.does.4.0 in
      let link' : LinkModel Wire = on.does.4.1 in
      let value : Value = on.does.4.2 in
      let was : backend.link ≡ Some link = on.does.4.4.0 in
      let r = on.does.4.4.1 in
      let is : backend'.link ≡ Some link' = ap (λ (x : BackendContext Wire). x.backend.link) on.does.4.5 in
      let pending_told : backend'.pending_told ≡ backend.pending_told = ap (λ (x : BackendContext Wire). x.backend.pending_told) on.does.4.5 in
      let works : link'.failure ≡ None = ap (λ (c : LinkModel Wire). c.failure) r.4 ∙ r.0 in
      let backends : s'.carrier.backends ≡ slice_set s.carrier.backends k backend' = ap (λ (c : CarrierModel (Newcomer C J) Wire). c.backends) on.does.5 in
      let lanes : s'.carrier.lanes ≡ s.carrier.lanes = ap (λ (c : CarrierModel (Newcomer C J) Wire). c.lanes) on.does.5 in
      let pending_runs : s'.carrier.pending_runs ≡ s.carrier.pending_runs = ap (λ (c : CarrierModel (Newcomer C J) Wire). c.pending_runs) on.does.5 in
      let working : IsWorking s.carrier k link = (backend, on.does.3, was, r.0) in
      let links : LinksShadow s.nodes s'.carrier s.closed s.opened w =
      quiet-backend s.nodes s.carrier s'.carrier s.closed s.opened w h.links k link link' working
      (now (AtBackend Answered) s s' on refl k backend backend' link link' on.does.3 backends was is r.0 works)
      (seen-set s.carrier s'.carrier s.closed k backend backend' on.does.3 backends link link' was is works (ap (λ (x : Wire). x.id) (comes-first link link'.port value r.1).1))
      (ap (λ (c : LinkModel Wire). c.node) r.4 ∙ ((h.links).backends k link working).0)
      (ap (λ (x : Wire). x.id) (comes-first link link'.port value r.1).1)
      (λ l o. let f = fetched-shadow s.nodes w.commands link link' l due.Slots value o r.1 r.2 r.4 in
      subst (OpenShadow s.nodes w.commands link') (λ i. record l { backs = sym f.1 i }) f.2)
      (λ idle. idle-still link link' due.Slots value idle r.1 r.2 r.4) in
      let closed : s'.closed ≡ s.closed = same-closed (AtBackend Answered) s s' on refl k backend backend' link link' on.does.3 backends was is r.0 works in
      let opened : s'.opened ≡ s.opened = same-opened (AtBackend Answered) s s' on refl k backend backend' link link' on.does.3 backends was is r.0 works in
      carrier-frame (AtBackend Answered) s s' w h on
      (subst (λ xs. LinksShadow s.nodes s'.carrier xs s'.opened w) (sym closed) (subst (λ n. LinksShadow s.nodes s'.carrier s.closed n w) (sym opened) links))
      (same-seats s s' (ap length lanes) pending_runs)
      (λ j model lane p q. down-fits s w h j model lane p (sym (ap (λ xs. slice_get xs j) lanes) ∙ q))
      (same-bag (AtBackend Answered) s s' on refl k backend backend' link link' on.does.3 backends was is r.0 works lanes pending_runs pending_told)
      (λ j model lane p q. subst (LaneShadow w j model lane) (sym (ap (λ xs. slice_get xs j) pending_runs)) (h.lanes j model lane p (sym (ap (λ xs. slice_get xs j) lanes) ∙ q)))
