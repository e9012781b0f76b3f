-- Each connection that has a link in the machine works or is broken, whatever the carrier and the nodes do.
use Rattle.std.proofs.Common.{◌≡◌, ◌≢◌, inl, inr, ⊎_elim, ℕ, suc, ◌==◌, true, false, List, [], ◌∷◌, ◌++◌, Some, None, refl, sym, ap, ◌∙◌, arith, length}
use Rattle.std.specs.Prelude.{slice_get, slice_set, Option}
use Rattle.std.proofs.lemmas.Bool.Decides.{eqb_tells}
use Rattle.node_link.specs.LinkModel.{LinkModel}
use Rattle.proxy_turns.specs.CarrierModel.{CarrierModel}
use Rattle.proxy_turns.specs.declared.backend.Backend.{Backend}
use Rattle.world_laws.proofs.Recorded.{before-last, set-same, set-other}
use Rattle.turn_laws.specs.Wire.{Wire}
use Rattle.turn_laws.specs.Underway.{IsWorking}
use Rattle.turn_laws.specs.Shadow.{SeenIn}

one-there : {X : Type 0} (o : Option X) (x y : X) → o ≡ Some x → o ≡ Some y → x ≡ y
one-there o x y p q = let one : Some x ≡ Some y = sym p ∙ q in cc

last-there : {X : Type 0} (xs : List X) (y : X) → slice_get (xs ++ y ∷ []) (length xs) ≡ Some y
last-there [] y = refl
last-there (x ∷ xs) y = at-suc (length (x ∷ xs)) (length xs) (omega arith) (last-there xs y)
  where
    at-suc : (n m : ℕ) → n ≡ suc m → slice_get (xs ++ y ∷ []) m ≡ Some y → slice_get (x ∷ xs ++ y ∷ []) n ≡ Some y
    at-suc n m e at = ap (slice_get (x ∷ xs ++ y ∷ [])) e ∙ at

module _ {H : Type 0} (a b : CarrierModel H Wire) (closed : List Wire) where
  -- what works still does
  pub seen-works : ((k : ℕ) (link : LinkModel Wire) → IsWorking a k link → IsWorking b k link) → (n : ℕ) → SeenIn a closed n → SeenIn b closed n
  seen-works works n x = ⊎_elim
      (λ (z : (k : ℕ) × (link : LinkModel Wire) × IsWorking a k link × (link.port.id ≡ n)). inl (z.0, z.1, works z.0 z.1 z.2, z.3))
      (λ (z : (j : ℕ) × (wire : Wire) × (slice_get closed j ≡ Some wire) × (wire.id ≡ n)). inr z)
      x

  module _ (k : ℕ) (backend backend' : Backend Wire) (at : slice_get a.backends k ≡ Some backend) (backends : b.backends ≡ slice_set a.backends k backend') where
    stays-works : (j : ℕ) (x : LinkModel Wire) → j ≢ k → IsWorking a j x → IsWorking b j x
    stays-works j x ne y = (y.0, ap (λ xs. slice_get xs j) backends ∙ set-other a.backends k backend' j y.0 ne y.1, y.2, y.3)

    here-now : slice_get b.backends k ≡ Some backend'
    here-now = ap (λ xs. slice_get xs k) backends ∙ set-same a.backends k backend backend' at

    -- one backend's connection goes on
    pub seen-set : (link link' : LinkModel Wire) → backend.link ≡ Some link → backend'.link ≡ Some link' → link'.failure ≡ None → link'.port.id ≡ link.port.id → (n : ℕ) → SeenIn a closed n → SeenIn b closed n
    seen-set link link' was is works id n x = ⊎_elim
        (λ (z : (j : ℕ) × (y : LinkModel Wire) × IsWorking a j y × (y.port.id ≡ n)). ⊎_elim
        (λ (e : ((z.0 == k) ≡ true) × (z.0 ≡ k)).
        let same : z.2.0 ≡ backend = one-there (slice_get a.backends k) z.2.0 backend (ap (slice_get a.backends) (sym e.1) ∙ z.2.1) at in
        let it : z.1 ≡ link = one-there backend.link z.1 link (ap (λ (u : Backend Wire). u.link) (sym same) ∙ z.2.2) was in
        inl (k, link', (backend', here-now, is, works), id ∙ ap (λ (u : LinkModel Wire). u.port.id) (sym it) ∙ z.3))
        (λ (e : ((z.0 == k) ≡ false) × (z.0 ≢ k)). inl (z.0, z.1, stays-works z.0 z.1 e.1 z.2, z.3))
        (eqb_tells z.0 k))
        (λ (z : (j : ℕ) × (wire : Wire) × (slice_get closed j ≡ Some wire) × (wire.id ≡ n)). inr z)
        x

    -- one backend's connection stays, or none worked there
    pub seen-stays : ((x : LinkModel Wire) → backend.link ≡ Some x → x.failure ≡ None → backend'.link ≡ Some x) → (n : ℕ) → SeenIn a closed n → SeenIn b closed n
    seen-stays same = seen-works (λ j x y. ⊎_elim
        (λ (e : ((j == k) ≡ true) × (j ≡ k)).
        let it : y.0 ≡ backend = one-there (slice_get a.backends k) y.0 backend (ap (slice_get a.backends) (sym e.1) ∙ y.1) at in
        (backend', ap (slice_get b.backends) e.1 ∙ here-now, same x (ap (λ (u : Backend Wire). u.link) (sym it) ∙ y.2) y.3, y.3))
        (λ (e : ((j == k) ≡ false) × (j ≢ k)). stays-works j x e.1 y)
        (eqb_tells j k))

    -- one backend's connection breaks
    pub seen-broken : (link : LinkModel Wire) (wire : Wire) → backend.link ≡ Some link → wire.id ≡ link.port.id → (n : ℕ) → SeenIn a closed n → SeenIn b (closed ++ wire ∷ []) n
    seen-broken link wire was id n x = ⊎_elim
        (λ (z : (j : ℕ) × (y : LinkModel Wire) × IsWorking a j y × (y.port.id ≡ n)). ⊎_elim
        (λ (e : ((z.0 == k) ≡ true) × (z.0 ≡ k)).
        let same : z.2.0 ≡ backend = one-there (slice_get a.backends k) z.2.0 backend (ap (slice_get a.backends) (sym e.1) ∙ z.2.1) at in
        let it : z.1 ≡ link = one-there backend.link z.1 link (ap (λ (u : Backend Wire). u.link) (sym same) ∙ z.2.2) was in
        inr (length closed, wire, last-there closed wire, id ∙ ap (λ (u : LinkModel Wire). u.port.id) (sym it) ∙ z.3))
        (λ (e : ((z.0 == k) ≡ false) × (z.0 ≢ k)). inl (z.0, z.1, stays-works z.0 z.1 e.1 z.2, z.3))
        (eqb_tells z.0 k))
        (λ (z : (j : ℕ) × (w : Wire) × (slice_get closed j ≡ Some w) × (w.id ≡ n)). inr (z.0, z.1, before-last closed (wire ∷ []) z.0 z.1 z.2, z.3))
        x

-- a broken connection goes on
pub seen-closed : {H : Type 0} (a : CarrierModel H Wire) (closed : List Wire) (j : ℕ) (wire wire' : Wire) → slice_get closed j ≡ Some wire → wire'.id ≡ wire.id → (n : ℕ) → SeenIn a closed n → SeenIn a (slice_set closed j wire') n
seen-closed {H} a closed j wire wire' at id n x = ⊎_elim
    (λ (z : (k : ℕ) × (link : LinkModel Wire) × IsWorking a k link × (link.port.id ≡ n)). inl z)
    (λ (z : (i : ℕ) × (w : Wire) × (slice_get closed i ≡ Some w) × (w.id ≡ n)). ⊎_elim
    (λ (e : ((z.0 == j) ≡ true) × (z.0 ≡ j)).
    let same : z.1 ≡ wire = one-there (slice_get closed j) z.1 wire (ap (slice_get closed) (sym e.1) ∙ z.2) at in
    inr (j, wire', set-same closed j wire wire' at, id ∙ ap (λ (w : Wire). w.id) (sym same) ∙ z.3))
    (λ (e : ((z.0 == j) ≡ false) × (z.0 ≢ j)). inr (z.0, z.1, set-other closed j wire' z.0 z.1 e.1 z.2, z.3))
    (eqb_tells z.0 j))
    x
