-- A run is written: the machine carries it, over the link of the connection or over a new one.
use Rattle.std.proofs.Common.{◌≡◌, ◌≢◌, ◌⊎◌, inl, inr, ⊎_elim, ℕ, zero, suc, ◌+◌, ◌<◌, List, [], ◌∷◌, ◌++◌, Some, None, refl, sym, ap, ◌∙◌, subst, arith, length}
use Rattle.std.specs.Prelude.{slice_get, slice_set, remove, All}
use Rattle.std.proofs.lemmas.List.{append-nil, length-append}
use Rattle.std.proofs.lemmas.List.Elements.{All-cons, All-nil}
use Rattle.resp_wire.specs.declared.value.Value.{Value}
use Rattle.key_split.specs.Runs.{RunModel, requests_of_run}
use Rattle.slot_map.specs.Table.{Endpoint}
use Rattle.node_link.specs.LinkModel.{LinkModel}
use Rattle.node_link.specs.declared.link.Due.{Due}
use Rattle.node_link.specs.declared.link.Due.TheVariants as due
use Rattle.proxy_turns.specs.declared.pending_run.PendingRun.{PendingRun}
use Rattle.proxy_turns.specs.declared.backend.Backend.{Backend}
use Rattle.proxy_turns.specs.CarrierModel.{CarrierModel}
use Rattle.world_laws.specs.State.{WorldModel, Link, new_link, sent}
use Rattle.world_laws.specs.declared.state.Arrival.{Arrival}
use Rattle.world_laws.specs.World.{lies_in, CarriesOver}
use Rattle.world_laws.specs.declared.event.Event.{Event}
use Rattle.world_laws.specs.declared.event.Event.TheVariants.{Carry}
use Rattle.world_laws.specs.Places.{total}
use Rattle.world_laws.proofs.Recorded.{at-set, at-last, before-last}
use Rattle.turn_laws.specs.Walks.{ticked, Walk, IsSharedWalked}
use Rattle.turn_laws.specs.Wire.{Wire, Item, Asks, Runs, Lists, items_of}
use Rattle.turn_laws.specs.System.{System}
use Rattle.turn_laws.specs.Shadow.{IsShadow, LinksShadow, BackendShadow, OpenShadow, ClosedShadow, IsKnown, IsIdle, IsUnnumbered, Numbers, lying, backs_in, requests_in, dues_in, SeenIn}
use Rattle.turn_laws.specs.Underway.{IsWorking, coming, downs_of, downs_in, refused_in, told_in, lost_in, lost_by}
use Rattle.turn_laws.proofs.Downs.{SameBag, total-set-flat}
use Rattle.turn_laws.proofs.Frames.{set-seats, down-fits}
use Rattle.turn_laws.proofs.Bags.{refusals, debts, bag-parts}
use Rattle.turn_laws.proofs.Openings.{one-connection}
use Rattle.turn_laws.proofs.Lines.{backend-changes}
use Rattle.turn_laws.proofs.Settled.{Goes, settles-so}
use Rattle.turn_laws.proofs.Items.{same-requests, known-run}
use Rattle.turn_laws.proofs.Refused.{Leaving, leaving, left-lanes, first-of-front}
use Rattle.turn_laws.proofs.Elements.{all-front}
use Rattle.turn_laws.proofs.Written.{Writes, open-written}
use Rattle.turn_laws.proofs.Seen.{seen-set}

get-last : {X : Type 0} (xs : List X) (y : X) (n : ℕ) → n ≡ length xs → slice_get (xs ++ y ∷ []) n ≡ Some y
get-last [] y zero e = refl
get-last [] y (suc n) e = absurd (omega (arith, e))
get-last (x ∷ xs) y zero e = absurd (omega (arith, e))
get-last (x ∷ xs) y (suc n) e = get-last xs y n (omega (arith, e))

pub set-twice : {X : Type 0} (xs : List X) (n : ℕ) (x y : X) → slice_set (slice_set xs n x) n y ≡ slice_set xs n y
set-twice [] n x y = refl
set-twice (z ∷ xs) zero x y = refl
set-twice (z ∷ xs) (suc n) x y = ap (λ us. z ∷ us) (set-twice xs n x y)

-- an idle connection, as a link over which nothing went
all-known : (commands : List Arrival) (rs : List Item) → requests_in rs ≡ [] → All (IsKnown commands) rs
all-known commands [] e = All-nil (IsKnown commands)
all-known commands (Asks ∷ rs) e = absurd (cc)
all-known commands (Runs parts ∷ rs) e = absurd (cc)
all-known commands (Lists ∷ rs) e = All-cons (IsKnown commands) Lists rs tt (all-known commands rs e)

no-backs : (table : List Endpoint) (node : ℕ) (ds : List Due) (values : List Value) → All (λ d. d ≡ due.Slots) ds → backs_in table node ds values ≡ []
no-backs table node [] values all = refl
no-backs table node (d ∷ ds) [] all = refl
no-backs table node (d ∷ ds) (v ∷ vs) all =
    ap (λ x. backs_in table node (x ∷ ds) (v ∷ vs)) (all 0 d (omega arith)) ∙ no-backs table node ds vs (λ i x lt. all (suc i) x (omega (arith, lt)))

open-idle : (table : List Endpoint) (commands : List Arrival) (link : LinkModel Wire) (node : ℕ) → link.node ≡ node → IsIdle link → OpenShadow table commands link (new_link node)
open-idle table commands link node e h = record {
  node = sym e;
  wired = h.wired;
  is_open = refl;
  asking = sym h.asking;
  requests = sym h.requests;
  known = all-known commands link.port.items h.requests;
  answered = h.answered;
  due = h.due;
  matched = h.matched;
  backs = sym (no-backs table link.node h.answered (coming link) (all-front (λ d. d ≡ due.Slots) h.answered (dues_in link.port.items) (subst (All (λ d. d ≡ due.Slots)) h.due h.none)));
}

-- A connection gets its link: the next.
module _ {H : Type 0} (nodes : List Endpoint) (a b : CarrierModel H Wire) (closed : List Wire) (opened : ℕ) (w : WorldModel) (h : LinksShadow nodes a closed opened w)
    (k : ℕ) (link link' : LinkModel Wire) (l' : Link) (working : IsWorking a k link)
    (now : (j : ℕ) (x : LinkModel Wire) → IsWorking b j x → ((j ≡ k) × (x ≡ link')) ⊎ ((j ≢ k) × IsWorking a j x)) (sight : (m : ℕ) → SeenIn a closed m → SeenIn b closed m)
    (node : link'.node ≡ k) (id : link'.port.id ≡ link.port.id) (un : IsUnnumbered h.ids link.port.id)
    (shows : OpenShadow nodes w.commands link' l') where
  abbrev links : List Link
  links = w.links ++ l' ∷ []

  abbrev ids : List ℕ
  ids = h.ids ++ link.port.id ∷ []

  un-still : (other : ℕ) → other ≢ link.port.id → IsUnnumbered h.ids other → IsUnnumbered ids other
  un-still other ne old i e = ⊎_elim (λ (z : slice_get h.ids i ≡ Some other). old i z) (λ (z : (i ≡ length h.ids) × (other ≡ link.port.id)). ne z.1) (at-last h.ids link.port.id i other e)

  mine : (j : ℕ) (x : LinkModel Wire) → j ≡ k → x ≡ link' → (x.node ≡ j) × (x.port.id < opened) × BackendShadow nodes (record w { links = links }) ids x
  mine j x ej e = subst (λ (c : LinkModel Wire). (c.node ≡ j) × (c.port.id < opened) × BackendShadow nodes (record w { links = links }) ids c) (sym e) (
    node ∙ sym ej,
    subst (λ m. m < opened) (sym id) (h.backends k link working).1,
    inl (length w.links, l', get-last h.ids link.port.id (length w.links) (sym h.all) ∙ ap Some (sym id), get-last w.links l' (length w.links) refl, shows),
  )

  theirs : (j : ℕ) (x : LinkModel Wire) → j ≢ k → IsWorking a j x → (x.node ≡ j) × (x.port.id < opened) × BackendShadow nodes (record w { links = links }) ids x
  theirs j x ne works =
      let old = h.backends j x works in (
        old.0,
        old.1,
        ⊎_elim
            (λ (z : (i : ℕ) × (m : Link) × Numbers h.ids x.port.id i × (slice_get w.links i ≡ Some m) × OpenShadow nodes w.commands x m).
            inl (z.0, z.1, before-last h.ids (link.port.id ∷ []) z.0 x.port.id z.2, before-last w.links (l' ∷ []) z.0 z.1 z.3, z.4))
            (λ (z : IsUnnumbered h.ids x.port.id × IsIdle x). inr (un-still x.port.id (λ e. ne (h.apart j k x link works working e)) z.0, z.1))
            old.2,
      )

  pub links-added : LinksShadow nodes b closed opened (record w { links = links })
  links-added = record {
    ids = ids;
    all = length-append h.ids (link.port.id ∷ []) ∙ (ap (λ n. n + 1) h.all) ∙ sym (length-append w.links (l' ∷ []));
    below = λ i n e. ⊎_elim (λ (z : slice_get h.ids i ≡ Some n). h.below i n z)
        (λ (z : (i ≡ length h.ids) × (n ≡ link.port.id)). subst (λ m. m < opened) (sym z.1) (h.backends k link working).1)
        (at-last h.ids link.port.id i n e);
    once = λ i j n p q. ⊎_elim
        (λ (u : slice_get h.ids i ≡ Some n). ⊎_elim
        (λ (v : slice_get h.ids j ≡ Some n). h.once i j n u v)
        (λ (v : (j ≡ length h.ids) × (n ≡ link.port.id)). absurd (un i (u ∙ ap Some v.1)))
        (at-last h.ids link.port.id j n q))
        (λ (u : (i ≡ length h.ids) × (n ≡ link.port.id)). ⊎_elim
        (λ (v : slice_get h.ids j ≡ Some n). absurd (un j (v ∙ ap Some u.1)))
        (λ (v : (j ≡ length h.ids) × (n ≡ link.port.id)). u.0 ∙ sym v.0)
        (at-last h.ids link.port.id j n q))
        (at-last h.ids link.port.id i n p);
    backends = λ j x works. ⊎_elim
        (λ (z : (j ≡ k) × (x ≡ link')). mine j x z.0 z.1)
        (λ (z : (j ≢ k) × IsWorking a j x). theirs j x z.0 z.1)
        (now j x works);
    wires = λ j wire e.
        let old = h.wires j wire e in (
          old.0,
          ⊎_elim
              (λ (z : (i : ℕ) × (m : Link) × Numbers h.ids wire.id i × (slice_get w.links i ≡ Some m) × ClosedShadow w.commands wire m).
              inl (z.0, z.1, before-last h.ids (link.port.id ∷ []) z.0 wire.id z.2, before-last w.links (l' ∷ []) z.0 z.1 z.3, z.4))
              (λ (z : IsUnnumbered h.ids wire.id × (requests_in wire.items ≡ [])). inr (un-still wire.id (λ same. h.aside k j link wire working e (sym same)) z.0, z.1))
              old.1,
        );
    apart = λ j m x y p q e. ⊎_elim
        (λ (u : (j ≡ k) × (x ≡ link')). ⊎_elim
        (λ (v : (m ≡ k) × (y ≡ link')). u.0 ∙ sym v.0)
        (λ (v : (m ≢ k) × IsWorking a m y). u.0 ∙ h.apart k m link y working v.1 (sym id ∙ ap (λ (c : LinkModel Wire). c.port.id) (sym u.1) ∙ e))
        (now m y q))
        (λ (u : (j ≢ k) × IsWorking a j x). ⊎_elim
        (λ (v : (m ≡ k) × (y ≡ link')). h.apart j k x link u.1 working (e ∙ ap (λ (c : LinkModel Wire). c.port.id) v.1 ∙ id) ∙ sym v.0)
        (λ (v : (m ≢ k) × IsWorking a m y). h.apart j m x y u.1 v.1 e)
        (now m y q))
        (now j x p);
    aside = λ j i x wire p q. ⊎_elim
        (λ (u : (j ≡ k) × (x ≡ link')). λ e. h.aside k i link wire working q (sym id ∙ ap (λ (c : LinkModel Wire). c.port.id) (sym u.1) ∙ e))
        (λ (u : (j ≢ k) × IsWorking a j x). h.aside j i x wire u.1 q)
        (now j x p);
    each = h.each;
    seen = λ i m e. ⊎_elim (λ (z : slice_get h.ids i ≡ Some m). sight m (h.seen i m z))
        (λ (z : (i ≡ length h.ids) × (m ≡ link.port.id)). sight m (inl (k, link, working, sym z.1)))
        (at-last h.ids link.port.id i m e);
  }

-- The run that is pending at k is written to its node's connection.
pub record SendsAt {C J : Type 0} (s s' : System C J) : Type 0 where
  pub k : ℕ
  pub b : PendingRun
  pub run : RunModel
  pub backend : Backend Wire
  pub link : LinkModel Wire
  pub link' : LinkModel Wire
  pub at : slice_get s.carrier.pending_runs k ≡ Some b
  pub full : b.run ≡ Some run
  pub here : slice_get s.carrier.backends run.first.node ≡ Some backend
  pub was : backend.link ≡ Some link
  pub worked : link.failure ≡ None
  pub writes : Writes link (requests_of_run run) link'
  pub backends : s'.carrier.backends ≡ slice_set s.carrier.backends run.first.node (record backend { link = Some link' })
  pub pending_runs : s'.carrier.pending_runs ≡ slice_set s.carrier.pending_runs k (record b { run = None })
  pub lanes : s'.carrier.lanes ≡ s.carrier.lanes
  pub opened : s'.opened ≡ s.opened
  pub closed : s'.closed ≡ s.closed

module _ {C J : Type 0} (s s' : System C J) (w : WorldModel) (h : IsShadow s w) (walked : IsSharedWalked w) (goes : Goes s s') (o : SendsAt s s') where
  abbrev run : RunModel
  run = o.run

  abbrev node-of : ℕ
  node-of = run.first.node

  abbrev backend' : Backend Wire
  backend' = record o.backend { link = Some o.link' }

  works : o.link'.failure ≡ None
  works = ap (λ (c : LinkModel Wire). c.failure) (o.writes).1 ∙ o.worked

  working : IsWorking s.carrier node-of o.link
  working = (o.backend, o.here, o.was, o.worked)

  now : (j : ℕ) (x : LinkModel Wire) → IsWorking s'.carrier j x → ((j ≡ node-of) × (x ≡ o.link')) ⊎ ((j ≢ node-of) × IsWorking s.carrier j x)
  now j x y = ⊎_elim
      (λ (z : (j ≡ node-of) × (y.0 ≡ backend')). inl (z.0, one-connection (y.0).link x o.link' y.2 (ap (λ (l : Backend Wire). l.link) z.1)))
      (λ (z : (j ≢ node-of) × (slice_get s.carrier.backends j ≡ Some y.0)). inr (z.0, (y.0, z.1, y.2, y.3)))
      (at-set s.carrier.backends node-of backend' j y.0 (sym (ap (λ xs. slice_get xs j) o.backends) ∙ y.1))

  bag : SameBag (downs_of s ++ []) (downs_of s')
  bag f =
      let rings : total f (downs_in s'.workers s'.carrier.lanes) ≡ total f (downs_in s.workers s.carrier.lanes) = λ i. total f (downs_in (goes.workers i) (o.lanes i)) in
      let none : (x : LinkModel Wire) → x.failure ≡ None → total f (told_in o.backend.pending_told ++ lost_in (Some x)) ≡ total f (told_in o.backend.pending_told ++ []) = λ x e. ap (λ p. total f (told_in o.backend.pending_told ++ lost_by p x.due)) e in
      omega (
        arith,
        ap (total f) (append-nil (downs_of s)),
        bag-parts f s,
        bag-parts f s',
        rings,
        ap (λ hs. total f (refusals hs)) o.pending_runs,
        total-set-flat f (λ (pending_run : PendingRun). refused_in pending_run.refused) s.carrier.pending_runs o.k o.b (record o.b { run = None }) o.at,
        ap (λ ls. total f (debts ls)) o.backends,
        total-set-flat f (λ (backend : Backend Wire). told_in backend.pending_told ++ lost_in backend.link) s.carrier.backends node-of o.backend backend' o.here,
        none o.link' works,
        (let e : total f (told_in o.backend.pending_told ++ lost_in o.backend.link) ≡ total f (told_in o.backend.pending_told ++ []) = ap (λ p. total f (told_in o.backend.pending_told ++ lost_in p)) o.was ∙ none o.link o.worked in e),
      )

  abbrev pub Simulated : Type 0
  Simulated = (events : List Event) × (w' : WorldModel) × Walk w events w' × IsShadow s' w'

  node : o.link'.node ≡ node-of
  node = ap (λ (c : LinkModel Wire). c.node) (o.writes).1 ∙ ((h.links).backends node-of o.link working).0

  id : o.link'.port.id ≡ o.link.port.id
  id = ap (λ (p : Wire). p.id) (o.writes).0.1

  sight : (m : ℕ) → SeenIn s.carrier s.closed m → SeenIn s'.carrier s.closed m
  sight = seen-set s.carrier s'.carrier s.closed node-of o.backend (record (o.backend) { link = Some o.link' }) o.here o.backends o.link o.link' o.was refl (ap (λ (c : LinkModel Wire). c.failure) (o.writes).1 ∙ o.worked) id

  -- the machine carries it
  carries : (i : ℕ) (links' : List Link) → CarriesOver (ticked w) i (lying run) links' → LinksShadow s.nodes s'.carrier s.closed s.opened (record w { links = links' }) → Simulated
  carries i links' over shadow =
      let f = leaving s w h o.k o.b run o.at o.full in
      settles-so (Carry o.k i) s s' w (remove w.ups f.front.at) links' [] walked h goes
      (f.front.at, lying run, links', first-of-front (lies_in o.k) w.ups (lying run) f.rest f.front, over, λ n. record (ticked w) { ups = remove w.ups f.front.at; links = links'; downs = append-nil w.downs n })
      (subst (λ xs. LinksShadow s.nodes s'.carrier xs s'.opened (record w { links = links' })) (sym o.closed) (subst (λ n. LinksShadow s.nodes s'.carrier s.closed n (record w { links = links' })) (sym o.opened) shadow))
      bag
      (set-seats s s' o.k (record o.b { run = None }) (ap length o.lanes) o.pending_runs (λ x e seated. absurd (nothing x e)))
      (λ j model lane p q. down-fits s w h j model lane p (sym (ap (λ xs. slice_get xs j) o.lanes) ∙ q))
      (left-lanes s s' w h o.k o.b (record o.b { run = None }) run o.at o.full refl o.lanes o.pending_runs)
    where
      nothing : (x : RunModel) → None ≡ Some x → ⊥
      nothing x e = cc

  left : Leaving s w o.k run
  left = leaving s w h o.k o.b run o.at o.full

  known : All (IsKnown w.commands) (items_of (requests_of_run run))
  known = known-run w.commands o.k run left.known

  abbrev with_run : Link → Link
  with_run l = record l { requests = l.requests ++ requests_in (items_of (requests_of_run run)) }

  is-sent : (l : Link) → with_run l ≡ sent l (lying run)
  is-sent l = λ n. record l { requests = l.requests ++ same-requests run left.known.0 n }

  numbered : (i : ℕ) (l : Link) → Numbers (h.links).ids o.link.port.id i → slice_get w.links i ≡ Some l → OpenShadow s.nodes w.commands o.link l → Simulated
  numbered i l numbers at open' =
      let l' : Link = with_run l in
      let links' : List Link = slice_set w.links i l' in
      let node' : l.node ≡ node-of = open'.node ∙ ((h.links).backends node-of o.link working).0 in
      carries i links' (inl (l, at, open'.is_open, node', ap (slice_set w.links i) (is-sent l)))
      (backend-changes s.nodes s.carrier s'.carrier s.closed s.opened w (record w { links = links' }) h.links node-of i o.link o.link' l l' working now sight
      node id numbers at refl
      (open-written o.link o.link' (requests_of_run run) o.writes s.nodes w.commands l open' known)
      (λ x m z. z)
      (λ x m z. z))

  unnumbered : IsUnnumbered (h.links).ids o.link.port.id → IsIdle o.link → Simulated
  unnumbered un idle =
      let l : Link = new_link node-of in
      let open' = open-idle s.nodes w.commands o.link node-of ((h.links).backends node-of o.link working).0 idle in
      carries (length w.links) (w.links ++ with_run l ∷ []) (inr (refl, ap (λ (x : Link). w.links ++ x ∷ []) (is-sent l)))
      (links-added s.nodes s.carrier s'.carrier s.closed s.opened w h.links node-of o.link o.link' (with_run l) working now sight node id un
      (open-written o.link o.link' (requests_of_run run) o.writes s.nodes w.commands l open' known))

  pub sends : Simulated
  sends = ⊎_elim
      (λ (x : (i : ℕ) × (l : Link) × Numbers (h.links).ids o.link.port.id i × (slice_get w.links i ≡ Some l) × OpenShadow s.nodes w.commands o.link l). numbered x.0 x.1 x.2 x.3 x.4)
      (λ (x : IsUnnumbered (h.links).ids o.link.port.id × IsIdle o.link). unnumbered x.0 x.1)
      ((h.links).backends node-of o.link working).2
