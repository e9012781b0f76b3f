-- What a broken connection still has is thrown away.
use Rattle.std.proofs.Common.{◌≡◌, ◌≢◌, inl, inr, ⊎_elim, ℕ, ◌<◌, ◌≤◌, ◌==◌, true, false, List, [], Some, refl, sym, ap, ◌∙◌, subst, arith, length}
use Rattle.std.specs.Prelude.{slice_get, slice_set}
use Rattle.std.proofs.lemmas.Bool.Decides.{eqb_tells}
use Rattle.slot_map.specs.Table.{Endpoint}
use Rattle.proxy_turns.specs.CarrierModel.{CarrierModel}
use Rattle.world_laws.specs.State.{WorldModel, Link}
use Rattle.world_laws.specs.declared.event.Event.{Event}
use Rattle.world_laws.proofs.Recorded.{at-set, set-other}
use Rattle.turn_laws.specs.Walks.{Walk}
use Rattle.turn_laws.specs.Wire.{Wire}
use Rattle.turn_laws.specs.System.{System}
use Rattle.turn_laws.specs.Shadow.{IsShadow, LinksShadow, WireShadow, OpenShadow, ClosedShadow, IsUnnumbered, Numbers, requests_in}
use Rattle.turn_laws.specs.Steps.{Thrown, Discards}
use Rattle.turn_laws.specs.Refines.{Simulates}
use Rattle.turn_laws.proofs.Frames.{log-later}
use Rattle.turn_laws.proofs.Seen.{seen-closed}

abbrev pub linked : WorldModel → List Link → ℕ → WorldModel
linked w links moment = record w { links = links; moment = moment }

module _ {H : Type 0} (nodes : List Endpoint) (a : CarrierModel H Wire) (closed : List Wire) (opened : ℕ) (w : WorldModel) (h : LinksShadow nodes a closed opened w) (links : List Link) (moment : ℕ)
    (j : ℕ) (wire wire' : Wire) (at : slice_get closed j ≡ Some wire) (id : wire'.id ≡ wire.id)
    (size : length links ≡ length w.links) (shows : WireShadow (linked w links moment) h.ids wire')
    (stays : (i other : ℕ) (m : Link) → Numbers h.ids other i → other ≢ wire.id → slice_get w.links i ≡ Some m → slice_get links i ≡ Some m) where
  pub wire-changes : LinksShadow nodes a (slice_set closed j wire') opened (linked w links moment)
  wire-changes = record {
    ids = h.ids;
    all = h.all ∙ sym size;
    below = h.below;
    once = h.once;
    backends = λ k x works.
        let old = h.backends k x works in (
          old.0,
          old.1,
          ⊎_elim
              (λ (z : (i : ℕ) × (m : Link) × Numbers h.ids x.port.id i × (slice_get w.links i ≡ Some m) × OpenShadow nodes w.commands x m).
              inl (z.0, z.1, z.2, stays z.0 x.port.id z.1 z.2 (h.aside k j x wire works at) z.3, z.4))
              (λ z. inr z)
              old.2,
        );
    wires = λ i x e. ⊎_elim
        (λ (z : (i ≡ j) × (x ≡ wire')).
        subst (λ (y : Wire). (y.id < opened) × WireShadow (linked w links moment) h.ids y) (sym z.1) (subst (λ n. n < opened) (sym id) (h.wires j wire at).0, shows))
        (λ (z : (i ≢ j) × (slice_get closed i ≡ Some x)).
        let old = h.wires i x z.1 in (
          old.0,
          ⊎_elim
              (λ (y : (n : ℕ) × (m : Link) × Numbers h.ids x.id n × (slice_get w.links n ≡ Some m) × ClosedShadow w.commands x m).
              inl (y.0, y.1, y.2, stays y.0 x.id y.1 y.2 (λ same. z.0 (h.each i j x wire z.1 at same)) y.3, y.4))
              (λ y. inr y)
              old.1,
        ))
        (at-set closed j wire' i x e);
    apart = h.apart;
    aside = λ k i x y works e. ⊎_elim
        (λ (z : (i ≡ j) × (y ≡ wire')). λ same. h.aside k j x wire works at (same ∙ ap (λ (u : Wire). u.id) z.1 ∙ id))
        (λ (z : (i ≢ j) × (slice_get closed i ≡ Some y)). h.aside k i x y works z.1)
        (at-set closed j wire' i y e);
    each = λ i k x y p q e. ⊎_elim
        (λ (u : (i ≡ j) × (x ≡ wire')). ⊎_elim
        (λ (v : (k ≡ j) × (y ≡ wire')). u.0 ∙ sym v.0)
        (λ (v : (k ≢ j) × (slice_get closed k ≡ Some y)). u.0 ∙ h.each j k wire y at v.1 (sym id ∙ ap (λ (z : Wire). z.id) (sym u.1) ∙ e))
        (at-set closed j wire' k y q))
        (λ (u : (i ≢ j) × (slice_get closed i ≡ Some x)). ⊎_elim
        (λ (v : (k ≡ j) × (y ≡ wire')). h.each i j x wire u.1 at (e ∙ ap (λ (z : Wire). z.id) v.1 ∙ id) ∙ sym v.0)
        (λ (v : (k ≢ j) × (slice_get closed k ≡ Some y)). h.each i k x y u.1 v.1 e)
        (at-set closed j wire' k y q))
        (at-set closed j wire' i x p);
    seen = λ i m e. seen-closed a closed j wire wire' at id m (h.seen i m e);
  }

-- another number has another link
pub not-mine : (ids : List ℕ) (links : List Link) (n mine i other : ℕ) (l' m : Link) → Numbers ids mine n → Numbers ids other i → other ≢ mine → slice_get links i ≡ Some m → slice_get (slice_set links n l') i ≡ Some m
not-mine ids links n mine i other l' m numbers numbered apart e = ⊎_elim
    (λ (z : ((i == n) ≡ true) × (i ≡ n)). absurd (apart (same z.1)))
    (λ (z : ((i == n) ≡ false) × (i ≢ n)). set-other links n l' i m z.1 e)
    (eqb_tells i n)
  where
    same : i ≡ n → other ≡ mine
    same e = let one : Some other ≡ Some mine = sym numbered ∙ ap (slice_get ids) e ∙ numbers in cc

module _ {C J : Type 0} where
  -- one broken wire changes, and with it the machine's links
  pub broken-frame : (s s' : System C J) (w : WorldModel) (closed' : List Wire) (links : List Link) (moment : ℕ) → w.moment ≤ moment → IsShadow s w → s' ≡ record s { closed = closed' }
      → LinksShadow s.nodes s.carrier closed' s.opened (linked w links moment) → IsShadow s' (linked w links moment)
  broken-frame s s' w closed' links moment later h e shadow = subst (λ x. IsShadow x (linked w links moment)) (sym e) (record {
    workers = h.workers;
    limit = h.limit;
    cluster = h.cluster;
    initial = h.initial;
    apart = h.apart;
    room = h.room;
    table = h.table;
    listed = h.listed;
    numbered = h.numbered;
    sides = h.sides;
    seated = h.seated;
    up_steps = h.up_steps;
    down_steps = h.down_steps;
    unfinished = h.unfinished;
    within = h.within;
    to_worker = h.to_worker;
    told = h.told;
    lanes = h.lanes;
    links = shadow;
    clients = h.clients;
    unseen = h.unseen;
    downs = h.downs;
    awaited = h.awaited;
    waiting = h.waiting;
    asking = h.asking;
    log = log-later s.log w (linked w links moment) refl refl refl later h.log;
  })

module _ {C J : Type 0} (s s' : System C J) (w : WorldModel) (h : IsShadow s w) (j : ℕ) (on : Discards s j s') where
  abbrev wire : Wire
  wire = on.0

  abbrev wire' : Wire
  wire' = record wire { items = [] }

  abbrev pub Simulated : Type 0
  Simulated = (events : List Event) × (w' : WorldModel) × Walk w events w' × IsShadow s' w'

  -- the machine does nothing
  still : WireShadow w (h.links).ids wire' → Simulated
  still shows = (
    [],
    w,
    refl,
    broken-frame s s' w (slice_set s.closed j wire') w.links w.moment (omega arith) h on.2
        (wire-changes s.nodes s.carrier s.closed s.opened w h.links w.links w.moment j wire wire' on.1 refl refl shows (λ i other m p ne e. e)),
  )

  pub thrown-one : Simulated
  thrown-one = ⊎_elim
      (λ (x : (n : ℕ) × (l : Link) × Numbers (h.links).ids wire.id n × (slice_get w.links n ≡ Some l) × ClosedShadow w.commands wire l).
      let shadow = x.4 in
      still (inl (x.0, x.1, x.2, x.3, record { node = shadow.node; is_open = shadow.is_open; asking = shadow.asking; requests = ((x.1).requests, refl); known = λ i d lt. absurd (omega arith); backs = shadow.backs })))
      (λ (x : IsUnnumbered (h.links).ids wire.id × (requests_in wire.items ≡ [])). still (inr (x.0, refl)))
      ((h.links).wires j wire on.1).1

module _ (C J : Type 0) where
  pub thrown : (j : ℕ) → Simulates C J (Thrown j)
  thrown j s s' w h _ on = thrown-one s s' w h j on
