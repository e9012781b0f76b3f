-- A connection breaks: the machine drops its link, and tells at once those who wait that they are lost.
use Rattle.std.proofs.Common.{◌≡◌, ◌≢◌, inl, inr, ⊎_elim, ℕ, suc, ◌+◌, ◌<◌, false, List, [], ◌∷◌, ◌++◌, Some, None, refl, sym, ap, ◌∙◌, subst, arith, length}
use Rattle.std.specs.Prelude.{slice_get, slice_set, All, map, IsSome}
use mathlib.Core.List.{IsPrefix}
use Rattle.resp_wire.specs.declared.value.Value.{Value}
use Rattle.key_split.specs.declared.travel.Ticket.{Ticket}
use Rattle.key_split.specs.declared.travel.Told.TheVariants.{Lost}
use Rattle.slot_map.specs.Table.{Endpoint}
use Rattle.node_link.specs.LinkModel.{LinkModel}
use Rattle.node_link.specs.LinkCalls.{tickets_of}
use Rattle.node_link.specs.declared.link.Due.{Due}
use Rattle.node_link.specs.declared.link.Due.TheVariants as due
use Rattle.node_link.specs.declared.link.Failure.{Failure}
use Rattle.proxy_turns.specs.declared.backend.Backend.{Backend}
use Rattle.proxy_turns.specs.CarrierModel.{CarrierModel}
use Rattle.world_laws.specs.State.{WorldModel, Link, answered_of, sent_of, waiting}
use Rattle.world_laws.specs.declared.state.Arrival.{Arrival}
use Rattle.world_laws.specs.declared.event.Event.{Event}
use Rattle.world_laws.specs.declared.event.Event.TheVariants.{Drop}
use Rattle.world_laws.specs.Places.{total}
use Rattle.world_laws.proofs.Nodes.{set-size}
use Rattle.world_laws.proofs.Tally.{total-append}
use Rattle.world_laws.proofs.Recorded.{at-set, set-same, at-last}
use Rattle.turn_laws.specs.Walks.{Walk, IsSharedWalked}
use Rattle.turn_laws.specs.Wire.{Wire}
use Rattle.turn_laws.specs.System.{System}
use Rattle.turn_laws.specs.Shadow.{IsShadow, LinksShadow, WireShadow, OpenShadow, ClosedShadow, LaneShadow, IsKnown, IsIdle, IsUnnumbered, Numbers, backs_in, requests_in, dues_in, SeenIn}
use Rattle.turn_laws.specs.Underway.{IsWorking, coming, downs_of, downs_in, told_in, lost_in, lost_by}
use Rattle.turn_laws.specs.Steps.{FailsAt, Breaks}
use Rattle.turn_laws.proofs.Downs.{Pair, SameBag, total-set-flat}
use Rattle.turn_laws.proofs.Items.{tickets-append, sent-tickets}
use Rattle.turn_laws.proofs.Frames.{same-seats, down-fits}
use Rattle.turn_laws.proofs.Bags.{refusals, debts, bag-parts}
use Rattle.turn_laws.proofs.Carriers.{not-up}
use Rattle.turn_laws.proofs.Openings.{one-backend, one-connection}
use Rattle.turn_laws.proofs.Throwing.{not-mine}
use Rattle.turn_laws.proofs.Walks.{walked-stands}
use Rattle.turn_laws.proofs.Settled.{Goes, settled-frame, settles-so}
use Rattle.turn_laws.proofs.Seen.{seen-broken}

-- who waits, as the code and the machine have it
answered-tickets : (table : List Endpoint) (node : ℕ) (ds : List Due) (values : List Value) → length ds ≡ length values → answered_of (backs_in table node ds values) ≡ tickets_of ds
answered-tickets table node [] values e = refl
answered-tickets table node (d ∷ ds) [] e = absurd (omega (arith, e))
answered-tickets table node (due.Asking ∷ ds) (v ∷ vs) e = answered-tickets table node ds vs (omega (arith, e))
answered-tickets table node (due.Command t ∷ ds) (v ∷ vs) e = ap (λ ts. t ∷ ts) (answered-tickets table node ds vs (omega (arith, e)))
answered-tickets table node (due.Slots ∷ ds) (v ∷ vs) e = answered-tickets table node ds vs (omega (arith, e))

waiting-tickets : (table : List Endpoint) (commands : _) (link : LinkModel Wire) (l : Link) → OpenShadow table commands link l → waiting l ≡ tickets_of link.due
waiting-tickets table commands link l h =
    (λ i. answered_of (h.backs i) ++ sent_of (h.requests i))
    ∙ (λ i. answered-tickets table link.node h.answered (coming link) h.matched i ++ sent-tickets link.port.items i)
    ∙ sym (tickets-append h.answered (dues_in link.port.items)) ∙ ap tickets_of (sym h.due)

no-tickets : (ds : List Due) → All (λ d. d ≡ due.Slots) ds → tickets_of ds ≡ []
no-tickets [] all = refl
no-tickets (d ∷ ds) all =
    let first : d ≡ due.Slots = all 0 d (omega arith) in
    ap (λ x. tickets_of (x ∷ ds)) first ∙ no-tickets ds (λ i x lt. all (suc i) x (omega (arith, lt)))

front-empty : {X : Type 0} (a b : List X) → a ++ b ≡ [] → a ≡ []
front-empty [] b e = refl
front-empty (x ∷ a) b e = absurd (cc)

-- One connection is among the broken ones.
module _ {H : Type 0} (nodes : List Endpoint) (a b : CarrierModel H Wire) (closed : List Wire) (opened : ℕ) (w : WorldModel) (h : LinksShadow nodes a closed opened w) (links : List Link)
    (k : ℕ) (link : LinkModel Wire) (wire : Wire) (working : IsWorking a k link)
    (now : (j : ℕ) (x : LinkModel Wire) → IsWorking b j x → (j ≢ k) × IsWorking a j x) (sight : (m : ℕ) → SeenIn a closed m → SeenIn b (closed ++ wire ∷ []) m)
    (id : wire.id ≡ link.port.id) (size : length links ≡ length w.links)
    (shows : WireShadow (record w { links = links }) h.ids wire)
    (stays : (i other : ℕ) (m : Link) → Numbers h.ids other i → other ≢ link.port.id → slice_get w.links i ≡ Some m → slice_get links i ≡ Some m) where
  pub links-broken : LinksShadow nodes b (closed ++ wire ∷ []) opened (record w { links = links })
  links-broken = record {
    ids = h.ids;
    all = h.all ∙ sym size;
    below = h.below;
    once = h.once;
    backends = λ j x works.
        let z = now j x works in
        let old = h.backends j x z.1 in (
          old.0,
          old.1,
          ⊎_elim
              (λ (y : (i : ℕ) × (m : Link) × Numbers h.ids x.port.id i × (slice_get w.links i ≡ Some m) × OpenShadow nodes w.commands x m).
              inl (y.0, y.1, y.2, stays y.0 x.port.id y.1 y.2 (λ e. z.0 (h.apart j k x link z.1 working e)) y.3, y.4))
              (λ y. inr y)
              old.2,
        );
    wires = λ j x e. ⊎_elim
        (λ (z : slice_get closed j ≡ Some x).
        let old = h.wires j x z in (
          old.0,
          ⊎_elim
              (λ (y : (i : ℕ) × (m : Link) × Numbers h.ids x.id i × (slice_get w.links i ≡ Some m) × ClosedShadow w.commands x m).
              inl (y.0, y.1, y.2, stays y.0 x.id y.1 y.2 (λ same. h.aside k j link x working z (sym same)) y.3, y.4))
              (λ y. inr y)
              old.1,
        ))
        (λ (z : (j ≡ length closed) × (x ≡ wire)).
        subst (λ (y : Wire). (y.id < opened) × WireShadow (record w { links = links }) h.ids y) (sym z.1) (subst (λ n. n < opened) (sym id) (h.backends k link working).1, shows))
        (at-last closed wire j x e);
    apart = λ j m x y p q e. h.apart j m x y (now j x p).1 (now m y q).1 e;
    aside = λ j i x y p e. ⊎_elim
        (λ (z : slice_get closed i ≡ Some y). h.aside j i x y (now j x p).1 z)
        (λ (z : (i ≡ length closed) × (y ≡ wire)). λ same. (now j x p).0 (h.apart j k x link (now j x p).1 working (same ∙ ap (λ (u : Wire). u.id) z.1 ∙ id)))
        (at-last closed wire i y e);
    each = λ i j x y p q e. ⊎_elim
        (λ (u : slice_get closed i ≡ Some x). ⊎_elim
        (λ (v : slice_get closed j ≡ Some y). h.each i j x y u v e)
        (λ (v : (j ≡ length closed) × (y ≡ wire)). absurd (h.aside k i link x working u (sym id ∙ ap (λ (z : Wire). z.id) (sym v.1) ∙ sym e)))
        (at-last closed wire j y q))
        (λ (u : (i ≡ length closed) × (x ≡ wire)). ⊎_elim
        (λ (v : slice_get closed j ≡ Some y). absurd (h.aside k j link y working v (sym id ∙ ap (λ (z : Wire). z.id) (sym u.1) ∙ e)))
        (λ (v : (j ≡ length closed) × (y ≡ wire)). u.0 ∙ sym v.0)
        (at-last closed wire j y q))
        (at-last closed wire i x p);
    seen = λ i m e. sight m (h.seen i m e);
  }

-- each of these is told Lost
abbrev pub lost_tickets : List Ticket → List Pair
lost_tickets ts = map {B = Pair} (λ t. (t, Lost)) ts

-- The connection of a backend works, and then has failed.
pub record BreaksAt {C J : Type 0} (s s' : System C J) : Type 0 where
  pub k : ℕ
  pub backend : Backend Wire
  pub backend' : Backend Wire
  pub link : LinkModel Wire
  pub link' : LinkModel Wire
  pub why : Failure
  pub here : slice_get s.carrier.backends k ≡ Some backend
  pub was : backend.link ≡ Some link
  pub worked : link.failure ≡ None
  pub backends : s'.carrier.backends ≡ slice_set s.carrier.backends k backend'
  pub is : backend'.link ≡ Some link'
  pub failed : link'.failure ≡ Some why
  pub owes : backend'.pending_told ≡ backend.pending_told
  pub lanes : s'.carrier.lanes ≡ s.carrier.lanes
  pub pending_runs : s'.carrier.pending_runs ≡ s.carrier.pending_runs
  pub opened : s'.opened ≡ s.opened
  pub closed : s'.closed ≡ s.closed ++ record link'.port { values = [] } ∷ []
  pub due : tickets_of link'.due ≡ tickets_of link.due
  pub id : link'.port.id ≡ link.port.id
  pub node : link'.port.node ≡ link.port.node
  pub asking : link'.port.asking ≡ link.port.asking
  -- what was written for the machine is a front of what it had
  pub requests : IsPrefix (requests_in link'.port.items) (requests_in link.port.items)
  pub known : (commands : List Arrival) → All (IsKnown commands) link.port.items → All (IsKnown commands) link'.port.items

module _ {C J : Type 0} (s s' : System C J) (w : WorldModel) (h : IsShadow s w) (walked : IsSharedWalked w) (goes : Goes s s') (o : BreaksAt s s') where
  abbrev wire : Wire
  wire = record o.link'.port { values = [] }

  working : IsWorking s.carrier o.k o.link
  working = (o.backend, o.here, o.was, o.worked)

  now : (j : ℕ) (x : LinkModel Wire) → IsWorking s'.carrier j x → (j ≢ o.k) × IsWorking s.carrier j x
  now j x y = ⊎_elim
      (λ (z : (j ≡ o.k) × (y.0 ≡ o.backend')).
      let same : x ≡ o.link' = one-connection (y.0).link x o.link' y.2 (ap (λ (l : Backend Wire). l.link) z.1 ∙ o.is) in
      let bad : None ≡ Some o.why = sym y.3 ∙ ap (λ (l : LinkModel Wire). l.failure) same ∙ o.failed in absurd (no-why o.why bad))
      (λ (z : (j ≢ o.k) × (slice_get s.carrier.backends j ≡ Some y.0)). (z.0, (y.0, z.1, y.2, y.3)))
      (at-set s.carrier.backends o.k o.backend' j y.0 (sym (ap (λ xs. slice_get xs j) o.backends) ∙ y.1))
    where
      no-why : (why : Failure) → None ≡ Some why → ⊥
      no-why why e = cc

  abbrev lost : List Pair
  lost = lost_tickets (tickets_of o.link.due)

  bag : SameBag (downs_of s ++ lost) (downs_of s')
  bag f =
      let rings : total f (downs_in s'.workers s'.carrier.lanes) ≡ total f (downs_in s.workers s.carrier.lanes) = λ i. total f (downs_in (goes.workers i) (o.lanes i)) in
      omega (
        arith,
        total-append f (downs_of s) lost,
        bag-parts f s,
        bag-parts f s',
        rings,
        ap (λ hs. total f (refusals hs)) o.pending_runs,
        ap (λ ls. total f (debts ls)) o.backends,
        total-set-flat f (λ (backend : Backend Wire). told_in backend.pending_told ++ lost_in backend.link) s.carrier.backends o.k o.backend o.backend' o.here,
        (let e : total f (told_in o.backend'.pending_told ++ lost_in o.backend'.link) ≡ total f (told_in o.backend.pending_told ++ lost) =
            (λ i. total f (told_in (o.owes i) ++ lost_in (o.is i))) ∙ (λ i. total f (told_in o.backend.pending_told ++ lost_by (o.failed i) o.link'.due)) ∙ ap (λ ts. total f (told_in o.backend.pending_told ++ lost_tickets ts)) o.due in e),
        (let e : total f (told_in o.backend.pending_told ++ lost_in o.backend.link) ≡ total f (told_in o.backend.pending_told ++ []) =
            (λ i. total f (told_in o.backend.pending_told ++ lost_in (o.was i))) ∙ (λ i. total f (told_in o.backend.pending_told ++ lost_by (o.worked i) o.link.due)) in e),
        total-append f (told_in o.backend.pending_told) lost,
        total-append f (told_in o.backend.pending_told) [],
      )

  abbrev pub Simulated : Type 0
  Simulated = (events : List Event) × (w' : WorldModel) × Walk w events w' × IsShadow s' w'

  shown : (links : List Link) → LinksShadow s.nodes s'.carrier (s.closed ++ wire ∷ []) s.opened (record w { links = links }) → LinksShadow s.nodes s'.carrier s'.closed s'.opened (record w { links = links })
  shown links x = subst (λ xs. LinksShadow s.nodes s'.carrier xs s'.opened (record w { links = links })) (sym o.closed) (subst (λ n. LinksShadow s.nodes s'.carrier (s.closed ++ wire ∷ []) n (record w { links = links })) (sym o.opened) x)

  numbered : (i : ℕ) (l : Link) → Numbers (h.links).ids o.link.port.id i → slice_get w.links i ≡ Some l → OpenShadow s.nodes w.commands o.link l → Simulated
  numbered i l numbers at open' =
      let l' : Link = record l { is_open = false; backs = [] } in
      let links' : List Link = slice_set w.links i l' in
      let told : lost_tickets (waiting l) ≡ lost = ap lost_tickets (waiting-tickets s.nodes w.commands o.link l open') in
      let shadow : ClosedShadow w.commands wire l' = record {
        node = open'.node ∙ sym open'.wired ∙ sym o.node;
        is_open = refl;
        asking = open'.asking ∙ sym o.asking;
        requests = ((o.requests).0, (o.requests).1 ∙ sym open'.requests);
        known = o.known w.commands open'.known;
        backs = refl;
      } in
      settles-so (Drop i) s s' w w.ups links' lost walked h goes
      (l, at, open'.is_open, λ n. record w { links = links'; downs = w.downs ++ sym told n; moment = w.moment + 1 })
      (shown links' (links-broken s.nodes s.carrier s'.carrier s.closed s.opened w h.links links' o.k o.link wire working now (seen-broken s.carrier s'.carrier s.closed o.k o.backend o.backend' o.here o.backends o.link wire o.was o.id) o.id (set-size w.links i l')
      (inl (i, l', subst (λ n. Numbers (h.links).ids n i) (sym o.id) numbers, set-same w.links i l l' at, shadow))
      (λ n other m p ne e. not-mine (h.links).ids w.links i o.link.port.id n other l' m numbers p ne e)))
      bag
      (same-seats s s' (ap length o.lanes) o.pending_runs)
      (λ j model lane p q. down-fits s w h j model lane p (sym (ap (λ xs. slice_get xs j) o.lanes) ∙ q))
      (λ j model lane p q. subst (LaneShadow w j model lane) (sym (ap (λ xs. slice_get xs j) o.pending_runs)) (h.lanes j model lane p (sym (ap (λ xs. slice_get xs j) o.lanes) ∙ q)))

  idle : IsUnnumbered (h.links).ids o.link.port.id → IsIdle o.link → Simulated
  idle un idle' =
      let none : lost ≡ [] = ap lost_tickets (no-tickets o.link.due idle'.none) in
      let quiet : requests_in wire.items ≡ [] = front-empty (requests_in o.link'.port.items) (o.requests).0 ((o.requests).1 ∙ idle'.requests) in
      let same : SameBag (downs_of s ++ []) (downs_of s') = subst (λ ps. SameBag (downs_of s ++ ps) (downs_of s')) none bag in (
        [],
        w,
        refl,
        subst (λ (ps : List Pair). IsShadow s' (record w { downs = ps })) (sym h.told)
            (settled-frame s s' w w.ups w.links [] w.commands w.moment (omega arith) (walked-stands w walked) h goes
            (shown w.links (links-broken s.nodes s.carrier s'.carrier s.closed s.opened w h.links w.links o.k o.link wire working now (seen-broken s.carrier s'.carrier s.closed o.k o.backend o.backend' o.here o.backends o.link wire o.was o.id) o.id refl
            (inr (subst (IsUnnumbered (h.links).ids) (sym o.id) un, quiet)) (λ n other m p ne e. e)))
            refl same
            (same-seats s s' (ap length o.lanes) o.pending_runs)
            (λ j model lane p q. down-fits s w h j model lane p (sym (ap (λ xs. slice_get xs j) o.lanes) ∙ q))
            (λ j model lane p q. subst (LaneShadow w j model lane) (sym (ap (λ xs. slice_get xs j) o.pending_runs)) (h.lanes j model lane p (sym (ap (λ xs. slice_get xs j) o.lanes) ∙ q)))),
      )

  pub drops : Simulated
  drops = ⊎_elim
      (λ (x : (i : ℕ) × (l : Link) × Numbers (h.links).ids o.link.port.id i × (slice_get w.links i ≡ Some l) × OpenShadow s.nodes w.commands o.link l). numbered x.0 x.1 x.2 x.3 x.4)
      (λ (x : IsUnnumbered (h.links).ids o.link.port.id × IsIdle o.link). idle x.0 x.1)
      ((h.links).backends o.k o.link working).2

-- The wire of a connection that fails is the one that is broken.
module _ {C J : Type 0} (s s' : System C J) (breaks : Breaks s s') (k : ℕ) (backend backend' : Backend Wire) (link link' : LinkModel Wire)
    (here : slice_get s.carrier.backends k ≡ Some backend) (was : backend.link ≡ Some link) (worked : link.failure ≡ None)
    (backends : s'.carrier.backends ≡ slice_set s.carrier.backends k backend') (is : backend'.link ≡ Some link') (failed : IsSome link'.failure) where
  fails : FailsAt s k link link' s'
  fails = ((backend, here, was, worked), backend', ap (λ xs. slice_get xs k) backends ∙ set-same s.carrier.backends k backend backend' here, is, failed)

  pub broken-wire : s'.closed ≡ s.closed ++ record link'.port { values = [] } ∷ []
  broken-wire = ⊎_elim
      (λ x. absurd (x.1 k link link' fails))
      (λ (x : (m : ℕ) × (a : LinkModel Wire) × (b : LinkModel Wire) × FailsAt s m a b s' × (s'.closed ≡ s.closed ++ record b.port { values = [] } ∷ [])).
      let f = x.3 in
      ⊎_elim
      (λ (z : (x.0 ≡ k) × (f.1 ≡ backend')).
      let same : x.2 ≡ link' = one-connection (f.1).link x.2 link' f.3 (ap (λ (l : Backend Wire). l.link) z.1 ∙ is) in
      x.4 ∙ ap (λ (l : LinkModel Wire). s.closed ++ record l.port { values = [] } ∷ []) same)
      (λ (z : (x.0 ≢ k) × (slice_get s.carrier.backends x.0 ≡ Some f.1)).
      let same : f.0.0 ≡ f.1 = one-backend s.carrier.backends x.0 f.0.0 f.1 f.0.1 z.1 in
      let it : x.1 ≡ x.2 = one-connection (f.1).link x.1 x.2 (ap (λ (l : Backend Wire). l.link) (sym same) ∙ f.0.2) f.3 in
      absurd (not-up (Some x.2) x.2 refl (ap (λ (c : LinkModel Wire). c.failure) (sym it) ∙ f.0.3) f.4))
      (at-set s.carrier.backends k backend' x.0 f.1 (sym (ap (λ xs. slice_get xs x.0) backends) ∙ f.2)))
      breaks
