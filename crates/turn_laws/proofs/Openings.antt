-- A node is dialled: the new connection is idle, and the machine has no link for it yet.
use Rattle.std.proofs.Common.{◌≡◌, ◌≢◌, ◌⊎◌, inl, inr, ⊎_elim, ℕ, suc, ◌<◌, true, false, List, [], ◌++◌, Some, None, refl, sym, ap, ◌∙◌, subst, arith, length}
use Rattle.std.specs.Prelude.{slice_get, slice_set, Option}
use Rattle.slot_map.specs.Table.{Endpoint}
use Rattle.node_link.specs.LinkModel.{LinkModel}
use Rattle.proxy_turns.specs.declared.newcomer.Newcomer.{Newcomer}
use Rattle.proxy_turns.specs.declared.backend.Backend.{Backend}
use Rattle.proxy_turns.specs.Backend.{fresh_link}
use Rattle.proxy_turns.specs.CarrierModel.{CarrierModel, CarrierEvent, Opened, Reached}
use Rattle.world_laws.specs.State.{WorldModel}
use Rattle.world_laws.specs.Places.{total}
use Rattle.world_laws.proofs.Recorded.{at-set, set-same, set-other}
use Rattle.turn_laws.specs.Wire.{Wire, new_wire}
use Rattle.turn_laws.specs.System.{System}
use Rattle.turn_laws.specs.Shadow.{IsShadow, LinksShadow, BackendShadow, LaneShadow, IsIdle, IsUnnumbered}
use Rattle.turn_laws.specs.Underway.{IsWorking, downs_of, downs_in, told_in, lost_in}
use Rattle.turn_laws.specs.Steps.{CarrierStep, Opens, FailsAt}
use Rattle.turn_laws.proofs.Downs.{SameBag, total-set-flat}
use Rattle.turn_laws.proofs.Frames.{same-seats, down-fits, carrier-frame, still-closed}
use Rattle.turn_laws.proofs.Bags.{refusals, debts, bag-parts}
use Rattle.turn_laws.proofs.Carriers.{not-up}
use Rattle.turn_laws.proofs.SameTold.{front-get}
use Rattle.turn_laws.proofs.Seen.{seen-works}

pub no-link : (o : Option (LinkModel Wire)) (link : LinkModel Wire) → o ≡ None → o ≡ Some link → ⊥
no-link o link e f = cc

pub one-backend : (xs : List (Backend Wire)) (k : ℕ) (x y : Backend Wire) → slice_get xs k ≡ Some x → slice_get xs k ≡ Some y → x ≡ y
one-backend xs k x y p q = let one : Some x ≡ Some y = sym p ∙ q in cc

pub one-connection : (o : Option (LinkModel Wire)) (x y : LinkModel Wire) → o ≡ Some x → o ≡ Some y → x ≡ y
one-connection o x y p q = let one : Some x ≡ Some y = sym p ∙ q in cc

idle-at : (id k : ℕ) → IsIdle (fresh_link (new_wire id k) k)
idle-at id k = record { wired = refl; none = λ j d lt. absurd (omega arith); asking = refl; requests = refl; answered = []; due = refl; matched = refl }

-- a node is dialled, and its backend has a link
pub record OpensAt {C J : Type 0} (s s' : System C J) : Type 0 where
  pub k : ℕ
  pub backend : Backend Wire
  pub backend' : Backend Wire
  pub endpoint : Endpoint
  pub port : Wire
  pub here : slice_get s.carrier.backends k ≡ Some backend
  pub none : backend.link ≡ None
  pub node : slice_get s.carrier.nodes k ≡ Some endpoint
  pub leads : Opens s endpoint (Some port) s.carrier.failures s'.carrier.failures
  pub backends : s'.carrier.backends ≡ slice_set s.carrier.backends k backend'
  pub linked : backend'.link ≡ Some (fresh_link port k)
  pub owes : backend'.pending_told ≡ backend.pending_told
  pub lanes : s'.carrier.lanes ≡ s.carrier.lanes
  pub pending_runs : s'.carrier.pending_runs ≡ s.carrier.pending_runs
  pub opened : s'.opened ≡ suc s.opened

module _ {C J : Type 0} (event : CarrierEvent) (s s' : System C J) (w : WorldModel) (h : IsShadow s w) (on : CarrierStep s event s') (o : OpensAt s s') where
  abbrev k : ℕ
  k = o.k

  abbrev backend : Backend Wire
  backend = o.backend

  abbrev Carried : Type 0
  Carried = CarrierModel (Newcomer C J) Wire

  backends : s'.carrier.backends ≡ slice_set s.carrier.backends k o.backend'
  backends = o.backends

  seen : (j : ℕ) (l : Backend Wire) → slice_get s'.carrier.backends j ≡ Some l → ((j ≡ k) × (l ≡ o.backend')) ⊎ ((j ≢ k) × (slice_get s.carrier.backends j ≡ Some l))
  seen j l e = at-set s.carrier.backends k o.backend' j l (sym (ap (λ xs. slice_get xs j) backends) ∙ e)

  -- a working connection is the new one, or was there
  works : (j : ℕ) (link : LinkModel Wire) → IsWorking s'.carrier j link → ((j ≡ k) × (link ≡ fresh_link o.port k)) ⊎ IsWorking s.carrier j link
  works j link x = ⊎_elim
      (λ (z : (j ≡ k) × (x.0 ≡ o.backend')). inl (z.0, one-connection (x.0).link link (fresh_link o.port k) x.2 (ap (λ (l : Backend Wire). l.link) z.1 ∙ o.linked)))
      (λ (z : (j ≢ k) × (slice_get s.carrier.backends j ≡ Some x.0)). inr (x.0, z.1, x.2, x.3))
      (seen j x.0 x.1)

  -- none worked there
  was-none : (j : ℕ) (link : LinkModel Wire) → j ≡ k → IsWorking s.carrier j link → ⊥
  was-none j link e x =
      let same : x.0 ≡ backend = one-backend s.carrier.backends k x.0 backend (ap (slice_get s.carrier.backends) (sym e) ∙ x.1) o.here in
      no-link backend.link link o.none (ap (λ (l : Backend Wire). l.link) (sym same) ∙ x.2)

  fails : (j : ℕ) (link link' : LinkModel Wire) → FailsAt s j link link' s' → ⊥
  fails j link link' x = ⊎_elim
      (λ (z : (j ≡ k) × (x.1 ≡ o.backend')). was-none j link z.0 x.0)
      (λ (z : (j ≢ k) × (slice_get s.carrier.backends j ≡ Some x.1)).
      let same : x.0.0 ≡ x.1 = one-backend s.carrier.backends j x.0.0 x.1 x.0.1 z.1 in
      let it : link ≡ link' = one-connection (x.1).link link link' (ap (λ (l : Backend Wire). l.link) (sym same) ∙ x.0.2) x.3 in
      not-up (Some link') link' refl (ap (λ (c : LinkModel Wire). c.failure) (sym it) ∙ x.0.3) x.4)
      (seen j x.1 x.2)

  there : IsWorking s'.carrier k (fresh_link o.port k)
  there = (o.backend', ap (λ xs. slice_get xs k) backends ∙ set-same s.carrier.backends k backend o.backend' o.here, o.linked, refl)

  -- the new wire has the next number
  numbered : o.port ≡ new_wire s.opened k
  numbered = (o.leads).2 ∙ ap (new_wire s.opened) (h.apart (o.leads).0 k o.endpoint (front-get s.carrier.nodes s.nodes (o.leads).0 o.endpoint h.table (o.leads).1) (front-get s.carrier.nodes s.nodes k o.endpoint h.table o.node))

  cases : (j : ℕ) (link : LinkModel Wire) → IsWorking s'.carrier j link → ((j ≡ k) × (link ≡ fresh_link (new_wire s.opened k) k)) ⊎ IsWorking s.carrier j link
  cases j link x = ⊎_elim
      (λ (z : (j ≡ k) × (link ≡ fresh_link o.port k)). inl (z.0, z.1 ∙ ap (λ p. fresh_link p k) numbered))
      (λ (z : IsWorking s.carrier j link). inr z)
      (works j link x)

  id-of : (link : LinkModel Wire) → link ≡ fresh_link (new_wire s.opened k) k → link.port.id ≡ s.opened
  id-of link e = ap (λ (c : LinkModel Wire). c.port.id) e

  unnumbered : IsUnnumbered (h.links).ids s.opened
  unnumbered i e = absurd (omega (arith, (h.links).below i s.opened e))

  fresh-backend : (j : ℕ) (link : LinkModel Wire) → j ≡ k → link ≡ fresh_link (new_wire s.opened k) k
      → (link.node ≡ j) × (link.port.id < suc s.opened) × BackendShadow s.nodes w (h.links).ids link
  fresh-backend j link ej e = subst
      (λ (c : LinkModel Wire). (c.node ≡ j) × (c.port.id < suc s.opened) × BackendShadow s.nodes w (h.links).ids c) (sym e)
      (sym ej, omega arith, inr (unnumbered, idle-at s.opened k))

  opened-links : LinksShadow s.nodes s'.carrier s.closed (suc s.opened) w
  opened-links = record {
    ids = (h.links).ids;
    all = (h.links).all;
    below = λ i id e. omega (arith, (h.links).below i id e);
    once = (h.links).once;
    backends = λ j link x. ⊎_elim
        (λ (z : (j ≡ k) × (link ≡ fresh_link (new_wire s.opened k) k)). fresh-backend j link z.0 z.1)
        (λ (z : IsWorking s.carrier j link). let l = (h.links).backends j link z in (l.0, omega (arith, l.1), l.2))
        (cases j link x);
    wires = λ j wire e. let x = (h.links).wires j wire e in (omega (arith, x.0), x.1);
    apart = λ j m a b p q e. ⊎_elim
        (λ (y : (j ≡ k) × (a ≡ fresh_link (new_wire s.opened k) k)). ⊎_elim
        (λ (z : (m ≡ k) × (b ≡ fresh_link (new_wire s.opened k) k)). y.0 ∙ sym z.0)
        (λ (z : IsWorking s.carrier m b). absurd (omega (arith, ((h.links).backends m b z).1, id-of a y.1, e)))
        (cases m b q))
        (λ (y : IsWorking s.carrier j a). ⊎_elim
        (λ (z : (m ≡ k) × (b ≡ fresh_link (new_wire s.opened k) k)). absurd (omega (arith, ((h.links).backends j a y).1, id-of b z.1, e)))
        (λ (z : IsWorking s.carrier m b). (h.links).apart j m a b y z e)
        (cases m b q))
        (cases j a p);
    aside = λ j i a wire p q. ⊎_elim
        (λ (y : (j ≡ k) × (a ≡ fresh_link (new_wire s.opened k) k)). λ e. absurd (omega (arith, ((h.links).wires i wire q).0, id-of a y.1, e)))
        (λ (y : IsWorking s.carrier j a). (h.links).aside j i a wire y q)
        (cases j a p);
    each = (h.links).each;
    seen = λ i id e. seen-works s.carrier s'.carrier s.closed (λ j link x. (x.0, ap (λ xs. slice_get xs j) backends ∙ set-other s.carrier.backends k o.backend' j x.0 (λ same. was-none j link same x) x.1, x.2, x.3)) id ((h.links).seen i id e);
  }

  links' : LinksShadow s.nodes s'.carrier s'.closed s'.opened w
  links' = subst (λ xs. LinksShadow s.nodes s'.carrier xs s'.opened w) (sym (still-closed s s' fails on.breaks))
      (subst (λ n. LinksShadow s.nodes s'.carrier s.closed n w) (sym o.opened) opened-links)

  bag : SameBag (downs_of s) (downs_of s')
  bag f =
      let fl : s'.workers ≡ s.workers = ap (λ (x : System C J). x.workers) on.leaves in
      let rings : total f (downs_in s'.workers s'.carrier.lanes) ≡ total f (downs_in s.workers s.carrier.lanes) = λ i. total f (downs_in (fl i) (o.lanes i)) in
      omega (
        arith,
        bag-parts f s,
        bag-parts f s',
        rings,
        ap (λ hs. total f (refusals hs)) o.pending_runs,
        ap (λ ls. total f (debts ls)) backends,
        total-set-flat f (λ (backend : Backend Wire). told_in backend.pending_told ++ lost_in backend.link) s.carrier.backends k backend o.backend' o.here,
        (let e : total f (told_in o.backend'.pending_told ++ lost_in o.backend'.link) ≡ total f (told_in backend.pending_told ++ lost_in (Some (fresh_link o.port k))) = λ i. total f (told_in (o.owes i) ++ lost_in (o.linked i)) in e),
        ap (λ l. total f (told_in backend.pending_told ++ lost_in l)) o.none,
      )

  pub opens : IsShadow s' w
  opens =
      carrier-frame event s s' w h on links' (same-seats s s' (ap length o.lanes) o.pending_runs)
      (λ j model lane p q. down-fits s w h j model lane p (sym (ap (λ xs. slice_get xs j) o.lanes) ∙ q))
      bag
      (λ j model lane p q. subst (LaneShadow w j model lane) (sym (ap (λ xs. slice_get xs j) o.pending_runs)) (h.lanes j model lane p (sym (ap (λ xs. slice_get xs j) o.lanes) ∙ q)))

module _ {C J : Type 0} (s s' : System C J) where
  abbrev CarriedTo : Type 0
  CarriedTo = CarrierModel (Newcomer C J) Wire

  pub opened : (w : WorldModel) → IsShadow s w → CarrierStep s Opened s' → IsShadow s' w
  opened w h on =
      let d = on.does in
      opens Opened s s' w h on (record {
        k = d.0;
        backend = d.1;
        backend' = record d.1 { link = Some (fresh_link d.3 d.0); asked = false };
        endpoint = d.2;
        port = d.3;
        here = d.4;
        none = d.5;
        node = d.6;
        leads = d.7;
        backends = ap (λ (c : CarriedTo). c.backends) d.8;
        linked = refl;
        owes = refl;
        lanes = ap (λ (c : CarriedTo). c.lanes) d.8;
        pending_runs = ap (λ (c : CarriedTo). c.pending_runs) d.8;
        opened = ap (λ (x : System C J). x.opened) on.leaves;
      })

  -- after a loss
  pub reached : (w : WorldModel) → IsShadow s w → CarrierStep s Reached s' → IsShadow s' w
  reached w h on =
      let d = on.does in
      opens Reached s s' w h on (record {
        k = d.0;
        backend = d.1;
        backend' = record d.1 { link = Some (fresh_link d.3 d.0); to_ask = true; asked = false };
        endpoint = d.2;
        port = d.3;
        here = d.4;
        none = d.5;
        node = d.7;
        leads = d.8;
        backends = ap (λ (c : CarriedTo). c.backends) d.9;
        linked = refl;
        owes = refl;
        lanes = ap (λ (c : CarriedTo). c.lanes) d.9;
        pending_runs = ap (λ (c : CarriedTo). c.pending_runs) d.9;
        opened = ap (λ (x : System C J). x.opened) on.leaves;
      })
