-- A reply is fetched: the machine fetches it, and tells it at once.
use Rattle.std.proofs.Common.{◌≡◌, inr, ⊎_elim, ℕ, List, [], ◌∷◌, ◌++◌, Some, None, refl, sym, ap, ◌∙◌, subst, arith, length}
use Rattle.std.specs.Prelude.{slice_get, slice_set}
use Rattle.resp_wire.specs.declared.value.Value.{Value}
use Rattle.key_split.specs.declared.travel.Ticket.{Ticket}
use Rattle.key_split.specs.declared.travel.Told.{Told}
use Rattle.node_link.specs.LinkModel.{LinkModel}
use Rattle.node_link.specs.LinkCalls.{Comes}
use Rattle.node_link.specs.Telling.{told_by}
use Rattle.node_link.specs.declared.link.Due.TheVariants as due
use Rattle.proxy_turns.specs.declared.newcomer.Newcomer.{Newcomer}
use Rattle.proxy_turns.specs.declared.backend.Backend.{Backend}
use Rattle.proxy_turns.specs.declared.backend_step.BackendStep.TheVariants.{Fetched}
use Rattle.proxy_turns.specs.Backend.{BackendContext}
use Rattle.proxy_turns.specs.CarrierModel.{CarrierModel, AtBackend}
use Rattle.world_laws.specs.State.{WorldModel, Link}
use Rattle.world_laws.specs.declared.state.LinkReply.TheVariants.{To}
use Rattle.world_laws.specs.declared.event.Event.{Event}
use Rattle.world_laws.specs.declared.event.Event.TheVariants.{Fetch}
use Rattle.world_laws.specs.Places.{total}
use Rattle.world_laws.proofs.Tally.{total-append}
use Rattle.turn_laws.specs.Walks.{Walk, IsSharedWalked}
use Rattle.turn_laws.specs.Wire.{Wire, plain_told}
use Rattle.turn_laws.specs.System.{System}
use Rattle.turn_laws.specs.Shadow.{IsShadow, LinksShadow, LaneShadow, OpenShadow, IsIdle, IsUnnumbered, Numbers}
use Rattle.turn_laws.specs.Underway.{IsWorking, downs_of, downs_in, told_in, lost_in, lost_by}
use Rattle.turn_laws.specs.Steps.{AtCarrier, CarrierStep}
use Rattle.turn_laws.specs.PortsMay.{any_calls}
use Rattle.turn_laws.specs.Refines.{Simulates}
use Rattle.turn_laws.proofs.Downs.{SameBag, total-set-flat}
use Rattle.turn_laws.proofs.Frames.{same-seats, down-fits}
use Rattle.turn_laws.proofs.Bags.{refusals, debts, bag-parts}
use Rattle.turn_laws.proofs.Lines.{backend-changes}
use Rattle.turn_laws.proofs.Fetching.{fetched-shadow, comes-first}
use Rattle.turn_laws.proofs.Waiting.{now, same-closed, same-opened, not-idle}
use Rattle.turn_laws.proofs.Settled.{goes-of, settles-as}
use Rattle.turn_laws.proofs.Heard.{told-alike}
use Rattle.turn_laws.proofs.SameTold.{same-told}
use Rattle.turn_laws.proofs.Seen.{seen-set}

command-waits : (t : Ticket) → due.Command t ≡ due.Slots → ⊥
command-waits t e = cc

module _ {C J : Type 0} (s s' : System C J) (w : WorldModel) (h : IsShadow s w) (walked : IsSharedWalked w) (on : CarrierStep s (AtBackend Fetched) s') where
  abbrev k : ℕ
  k = on.does.0

  abbrev backend : Backend Wire
  backend = on.does.1

  abbrev backend' : Backend Wire
  backend' = on.does.2

  abbrev link : LinkModel Wire
  link = on.does.4.0

  abbrev link' : LinkModel Wire
  link' = on.does.4.1

  abbrev ticket : Ticket
  ticket = on.does.4.2

  abbrev told : Told
  told = on.does.4.3

  abbrev value : Value
  value = on.does.4.5.1.0

  abbrev Carried : Type 0
  Carried = CarrierModel (Newcomer C J) Wire

  backends : s'.carrier.backends ≡ slice_set s.carrier.backends k backend'
  backends = ap (λ (c : Carried). c.backends) on.does.5

  lanes : s'.carrier.lanes ≡ s.carrier.lanes
  lanes = ap (λ (c : Carried). c.lanes) on.does.5

  pending_runs : s'.carrier.pending_runs ≡ s.carrier.pending_runs
  pending_runs = ap (λ (c : Carried). c.pending_runs) on.does.5

  was : backend.link ≡ Some link
  was = on.does.4.5.0

  is : backend'.link ≡ Some link'
  is = ap (λ (x : BackendContext Wire). x.backend.link) on.does.4.6

  holds : told_in backend'.pending_told ≡ (ticket, told) ∷ []
  holds = ap (λ (x : BackendContext Wire). told_in x.backend.pending_told) on.does.4.6

  worked : link.failure ≡ None
  worked = on.does.4.5.1.1

  comes : Comes any_calls link (Some value) link'.port
  comes = on.does.4.5.1.2

  dues : link.due ≡ due.Command ticket ∷ link'.due
  dues = on.does.4.5.1.3

  says : told_by value link.node s.carrier.nodes ≡ (told, s'.carrier.nodes)
  says = on.does.4.5.1.4

  goes : link' ≡ record link { port = link'.port; due = link'.due; kept = None }
  goes = on.does.4.5.1.5

  works : link'.failure ≡ None
  works = ap (λ (c : LinkModel Wire). c.failure) goes ∙ worked

  working : IsWorking s.carrier k link
  working = (backend, on.does.3, was, worked)

  -- the whole list of the nodes reads the same in it
  reads : (told_by value link.node s.nodes).0 ≡ told
  reads =
      let node : link.node ≡ k = ((h.links).backends k link working).0 in
      same-told s.nodes s.carrier.nodes s'.carrier.nodes value link.node told h.room h.table on.table (omega (arith, node, h.listed k backend link on.does.3 was)) says

  bag : SameBag (downs_of s ++ (ticket, told) ∷ []) (downs_of s')
  bag f =
      let fl : s'.workers ≡ s.workers = ap (λ (x : System C J). x.workers) on.leaves in
      let rings : total f (downs_in s'.workers s'.carrier.lanes) ≡ total f (downs_in s.workers s.carrier.lanes) = λ i. total f (downs_in (fl i) (lanes i)) in
      let none : (x : LinkModel Wire) → x.failure ≡ None → lost_in (Some x) ≡ [] = λ x e. ap (λ o. lost_by o x.due) e in
      omega (
        arith,
        total-append f (downs_of s) ((ticket, told) ∷ []),
        bag-parts f s,
        bag-parts f s',
        rings,
        ap (λ hs. total f (refusals hs)) pending_runs,
        ap (λ ls. total f (debts ls)) backends,
        total-set-flat f (λ (backend : Backend Wire). told_in backend.pending_told ++ lost_in backend.link) s.carrier.backends k backend backend' on.does.3,
        (let e : total f (told_in backend'.pending_told ++ lost_in backend'.link) ≡ total f ((ticket, told) ∷ []) = (λ i. total f (holds i ++ lost_in (is i))) ∙ ap (λ ps. total f ((ticket, told) ∷ ps)) (none link' works) in e),
        (let e : total f (told_in backend.pending_told ++ lost_in backend.link) ≡ 0 = (λ i. total f (told_in (on.does.4.4 i) ++ lost_in (was i))) ∙ ap (total f) (none link worked) in e),
      )

  abbrev pub Simulated : Type 0
  Simulated = (events : List Event) × (w' : WorldModel) × Walk w events w' × IsShadow s' w'

  numbered : (i : ℕ) (l : Link) → Numbers (h.links).ids link.port.id i → slice_get w.links i ≡ Some l → OpenShadow s.nodes w.commands link l → Simulated
  numbered i l numbers at open' =
      let f = fetched-shadow s.nodes w.commands link link' l (due.Command ticket) value open' comes dues goes in
      let l' : Link = record l { backs = f.0 } in
      let links' : List Link = slice_set w.links i l' in
      let first : l.backs ≡ To ticket (plain_told told) ∷ f.0 = f.1 ∙ ap (λ t. To ticket (plain_told t) ∷ f.0) reads in
      let id : link'.port.id ≡ link.port.id = ap (λ (x : Wire). x.id) (comes-first link link'.port value comes).1 in
      let node : link'.node ≡ k = ap (λ (c : LinkModel Wire). c.node) goes ∙ ((h.links).backends k link working).0 in
      let w1 : WorldModel = record w { links = links' } in
      let shadow : LinksShadow s.nodes s'.carrier s.closed s.opened w1 =
      backend-changes s.nodes s.carrier s'.carrier s.closed s.opened w w1 h.links k i link link' l l' working
      (now (AtBackend Fetched) s s' on refl k backend backend' link link' on.does.3 backends was is worked works)
      (seen-set s.carrier s'.carrier s.closed k backend backend' on.does.3 backends link link' was is works id)
      node id numbers at refl
      f.2
      (λ x m o. o)
      (λ x m o. o) in
      let closed : s'.closed ≡ s.closed = same-closed (AtBackend Fetched) s s' on refl k backend backend' link link' on.does.3 backends was is worked works in
      let opened : s'.opened ≡ s.opened = same-opened (AtBackend Fetched) s s' on refl k backend backend' link link' on.does.3 backends was is worked works in
      settles-as (Fetch i) s s' w w.ups links' ((ticket, plain_told told) ∷ []) ((ticket, told) ∷ []) (told-alike ticket told) walked h (goes-of (AtBackend Fetched) s s' on)
      (l, at, open'.is_open, inr (f.0, ticket, plain_told told, first, refl))
      (subst (λ xs. LinksShadow s.nodes s'.carrier xs s'.opened w1) (sym closed) (subst (λ n. LinksShadow s.nodes s'.carrier s.closed n w1) (sym opened) shadow))
      bag
      (same-seats s s' (ap length lanes) pending_runs)
      (λ j model lane p q. down-fits s w h j model lane p (sym (ap (λ xs. slice_get xs j) lanes) ∙ q))
      (λ j model lane p q. subst (LaneShadow w j model lane) (sym (ap (λ xs. slice_get xs j) pending_runs)) (h.lanes j model lane p (sym (ap (λ xs. slice_get xs j) lanes) ∙ q)))

  pub fetches : Simulated
  fetches = ⊎_elim
      (λ (x : (i : ℕ) × (l : Link) × Numbers (h.links).ids link.port.id i × (slice_get w.links i ≡ Some l) × OpenShadow s.nodes w.commands link l). numbered x.0 x.1 x.2 x.3 x.4)
      (λ (x : IsUnnumbered (h.links).ids link.port.id × IsIdle link). absurd (command-waits ticket (not-idle link.due (due.Command ticket) link'.due dues (x.1).none)))
      ((h.links).backends k link working).2

module _ (C J : Type 0) where
  pub fetched : Simulates C J (AtCarrier (AtBackend Fetched))
  fetched s s' w h walked on = fetches s s' w h walked on
