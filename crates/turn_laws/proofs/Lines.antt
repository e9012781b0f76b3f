-- One connection and its link change together, and the others stay.
use Rattle.std.proofs.Common.{◌≡◌, ◌≢◌, ◌⊎◌, inl, inr, ⊎_elim, ℕ, ◌<◌, ◌==◌, true, false, List, Some, sym, ap, ◌∙◌, subst, length}
use Rattle.std.specs.Prelude.{slice_get, slice_set}
use Rattle.std.proofs.lemmas.Bool.Decides.{eqb_tells}
use Rattle.slot_map.specs.Table.{Endpoint}
use Rattle.node_link.specs.LinkModel.{LinkModel}
use Rattle.world_laws.specs.State.{WorldModel, Link}
use Rattle.world_laws.proofs.Nodes.{set-size}
use Rattle.world_laws.proofs.Recorded.{set-same, set-other}
use Rattle.proxy_turns.specs.CarrierModel.{CarrierModel}
use Rattle.turn_laws.specs.Wire.{Wire}
use Rattle.turn_laws.specs.Underway.{IsWorking}
use Rattle.turn_laws.specs.Shadow.{LinksShadow, BackendShadow, OpenShadow, ClosedShadow, Numbers, SeenIn}

module _ {H : Type 0} (nodes : List Endpoint) (a b : CarrierModel H Wire) (closed : List Wire) (opened : ℕ) (w w' : WorldModel) (h : LinksShadow nodes a closed opened w) where
  -- The connection of backend k goes from `link` to `link'`, and its link, number n, from l to l'.
  module _ (k n : ℕ) (link link' : LinkModel Wire) (l l' : Link)
      (working : IsWorking a k link) (now : (j : ℕ) (x : LinkModel Wire) → IsWorking b j x → ((j ≡ k) × (x ≡ link')) ⊎ ((j ≢ k) × IsWorking a j x)) (sight : (m : ℕ) → SeenIn a closed m → SeenIn b closed m)
      (node : link'.node ≡ k) (id : link'.port.id ≡ link.port.id)
      (numbers : Numbers (h.ids) link.port.id n) (at : slice_get w.links n ≡ Some l) (links : w'.links ≡ slice_set w.links n l')
      (shows : OpenShadow nodes w'.commands link' l')
      (others : (x : LinkModel Wire) (m : Link) → OpenShadow nodes w.commands x m → OpenShadow nodes w'.commands x m)
      (wires : (x : Wire) (m : Link) → ClosedShadow w.commands x m → ClosedShadow w'.commands x m) where
    -- another's link is another
    elsewhere : (i other : ℕ) (m : Link) → Numbers (h.ids) other i → other ≢ link.port.id → slice_get w.links i ≡ Some m → slice_get w'.links i ≡ Some m
    elsewhere i other m numbered apart e = ⊎_elim
        (λ (z : ((i == n) ≡ true) × (i ≡ n)). absurd (apart (same-id i other numbered z.1)))
        (λ (z : ((i == n) ≡ false) × (i ≢ n)). ap (λ xs. slice_get xs i) links ∙ set-other w.links n l' i m z.1 e)
        (eqb_tells i n)
      where
        same-id : (i other : ℕ) → Numbers (h.ids) other i → i ≡ n → other ≡ link.port.id
        same-id i other numbered e = let one : Some other ≡ Some (link.port.id) = sym numbered ∙ ap (slice_get h.ids) e ∙ numbers in cc

    there : slice_get w'.links n ≡ Some l'
    there = ap (λ xs. slice_get xs n) links ∙ set-same w.links n l l' at

    mine : (j : ℕ) (x : LinkModel Wire) → j ≡ k → x ≡ link' → (x.node ≡ j) × (x.port.id < opened) × BackendShadow nodes w' h.ids x
    mine j x ej e = subst (λ (c : LinkModel Wire). (c.node ≡ j) × (c.port.id < opened) × BackendShadow nodes w' h.ids c) (sym e) (
      node ∙ sym ej,
      subst (λ m. m < opened) (sym id) (h.backends k link working).1,
      inl (n, l', subst (λ m. Numbers h.ids m n) (sym id) numbers, there, shows),
    )

    theirs : (j : ℕ) (x : LinkModel Wire) → j ≢ k → IsWorking a j x → (x.node ≡ j) × (x.port.id < opened) × BackendShadow nodes w' h.ids x
    theirs j x ne working' =
        let old = h.backends j x working' in (
          old.0,
          old.1,
          ⊎_elim
              (λ (z : (i : ℕ) × (m : Link) × Numbers h.ids x.port.id i × (slice_get w.links i ≡ Some m) × OpenShadow nodes w.commands x m).
              inl (z.0, z.1, z.2, elsewhere z.0 x.port.id z.1 z.2 (λ e. ne (h.apart j k x link working' working e)) z.3, others x z.1 z.4))
              (λ z. inr z)
              old.2,
        )

    pub backend-changes : LinksShadow nodes b closed opened w'
    backend-changes = record {
      ids = h.ids;
      all = h.all ∙ sym (ap length links ∙ set-size w.links n l');
      below = h.below;
      once = h.once;
      backends = λ j x working'. ⊎_elim
          (λ (z : (j ≡ k) × (x ≡ link')). mine j x z.0 z.1)
          (λ (z : (j ≢ k) × IsWorking a j x). theirs j x z.0 z.1)
          (now j x working');
      wires = λ j wire e.
          let old = h.wires j wire e in (
            old.0,
            ⊎_elim
                (λ (z : (i : ℕ) × (m : Link) × Numbers h.ids wire.id i × (slice_get w.links i ≡ Some m) × ClosedShadow w.commands wire m).
                inl (z.0, z.1, z.2, elsewhere z.0 wire.id z.1 z.2 (λ same. h.aside k j link wire working e (sym same)) z.3, wires wire z.1 z.4))
                (λ z. inr z)
                old.1,
          );
      apart = λ j m x y p q e. ⊎_elim
          (λ (u : (j ≡ k) × (x ≡ link')). ⊎_elim
          (λ (v : (m ≡ k) × (y ≡ link')). u.0 ∙ sym v.0)
          (λ (v : (m ≢ k) × IsWorking a m y). u.0 ∙ h.apart k m link y working v.1 (sym id ∙ ap (λ (c : LinkModel Wire). c.port.id) (sym u.1) ∙ e))
          (now m y q))
          (λ (u : (j ≢ k) × IsWorking a j x). ⊎_elim
          (λ (v : (m ≡ k) × (y ≡ link')). h.apart j k x link u.1 working (e ∙ ap (λ (c : LinkModel Wire). c.port.id) v.1 ∙ id) ∙ sym v.0)
          (λ (v : (m ≢ k) × IsWorking a m y). h.apart j m x y u.1 v.1 e)
          (now m y q))
          (now j x p);
      aside = λ j i x wire p q. ⊎_elim
          (λ (u : (j ≡ k) × (x ≡ link')). λ e. h.aside k i link wire working q (sym id ∙ ap (λ (c : LinkModel Wire). c.port.id) (sym u.1) ∙ e))
          (λ (u : (j ≢ k) × IsWorking a j x). h.aside j i x wire u.1 q)
          (now j x p);
      each = h.each;
      seen = λ i m e. sight m (h.seen i m e);
    }
