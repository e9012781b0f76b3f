-- The machine throws away what its closed links to a node hold, where the broken connections to the node hold nothing.
use Rattle.std.proofs.Common.{◌≡◌, ◌≢◌, inl, inr, ⊎_elim, ℕ, zero, suc, ◌+◌, ◌<◌, ◌==◌, Bool, true, false, List, [], ◌∷◌, ◌++◌, Some, None, refl, sym, ap, ◌∙◌, subst, arith, length}
use Rattle.std.specs.Prelude.{slice_get, slice_set, Option}
use Rattle.std.proofs.lemmas.Bool.{false≢true}
use Rattle.std.proofs.lemmas.Bool.Decides.{eqb_tells}
use Rattle.world_laws.specs.State.{WorldModel, Link}
use Rattle.world_laws.specs.declared.state.LinkRequest.{LinkRequest}
use Rattle.world_laws.specs.declared.event.Event.{Event}
use Rattle.world_laws.specs.declared.event.Event.TheVariants.{Discard}
use Rattle.world_laws.proofs.Nodes.{set-size}
use Rattle.world_laws.proofs.Recorded.{at-set, set-same, set-other}
use Rattle.turn_laws.specs.Walks.{Walk}
use Rattle.turn_laws.specs.Wire.{Wire}
use Rattle.turn_laws.specs.System.{System}
use Rattle.turn_laws.specs.Shadow.{IsShadow, LinksShadow, OpenShadow, ClosedShadow, Numbers, requests_in}
use Rattle.turn_laws.proofs.Throwing.{linked, broken-frame}
use Rattle.turn_laws.proofs.Walks.{walks_join}

once-there : {X : Type 0} (o : Option X) (x y : X) → o ≡ Some x → o ≡ Some y → x ≡ y
once-there o x y p q = let one : Some x ≡ Some y = sym p ∙ q in cc

none-there : {X : Type 0} (o : Option X) (x : X) → o ≡ None → o ≡ Some x → ⊥
none-there o x p q = cc

some-requests : (q : LinkRequest) (qs : List LinkRequest) → q ∷ qs ≡ [] → ⊥
some-requests q qs e = absurd (omega (arith, ap length e))

-- every closed link to the node among the first `n` holds nothing
abbrev pub AreEmpty : ℕ → ℕ → List Link → Type 0
AreEmpty node n links = (i : ℕ) (l : Link) → i < n → slice_get links i ≡ Some l → l.is_open ≡ false → l.node ≡ node → l.requests ≡ []

module _ {C J : Type 0} (s : System C J) (node : ℕ) (gone : (j : ℕ) (wire : Wire) → slice_get s.closed j ≡ Some wire → wire.node ≡ node → wire.items ≡ []) where
  module _ (w : WorldModel) (h : IsShadow s w) (n : ℕ) (l : Link) (at : slice_get w.links n ≡ Some l) (shut : l.is_open ≡ false) (there : l.node ≡ node) where
    abbrev l' : Link
    l' = record l { requests = [] }

    abbrev links : List Link
    links = slice_set w.links n l'

    abbrev w' : WorldModel
    w' = linked w links (w.moment + 1)

    shadow : LinksShadow s.nodes s.carrier s.closed s.opened w'
    shadow = record {
      ids = (h.links).ids;
      all = (h.links).all ∙ sym (set-size w.links n l');
      below = (h.links).below;
      once = (h.links).once;
      backends = λ k x works.
          let old = (h.links).backends k x works in (
            old.0,
            old.1,
            ⊎_elim
                (λ (z : (i : ℕ) × (m : Link) × Numbers (h.links).ids x.port.id i × (slice_get w.links i ≡ Some m) × OpenShadow s.nodes w.commands x m).
                inl (
                  z.0,
                  z.1,
                  z.2,
                  set-other w.links n l' z.0 z.1 (λ same.
                      let one : z.1 ≡ l = once-there (slice_get w.links n) z.1 l (ap (slice_get w.links) (sym same) ∙ z.3) at in
                      false≢true (sym shut ∙ ap (λ (m : Link). m.is_open) (sym one) ∙ (z.4).is_open)) z.3,
                  z.4,
                ))
                (λ z. inr z)
                old.2,
          );
      wires = λ j x e.
          let old = (h.links).wires j x e in (
            old.0,
            ⊎_elim
                (λ (z : (i : ℕ) × (m : Link) × Numbers (h.links).ids x.id i × (slice_get w.links i ≡ Some m) × ClosedShadow w.commands x m). inl (⊎_elim
                (λ (y : ((z.0 == n) ≡ true) × (z.0 ≡ n)).
                let one : z.1 ≡ l = once-there (slice_get w.links n) z.1 l (ap (slice_get w.links) (sym y.1) ∙ z.3) at in
                let o : ClosedShadow w.commands x l = subst (ClosedShadow w.commands x) one z.4 in
                let empty : requests_in x.items ≡ [] = ap requests_in (gone j x e (sym o.node ∙ there)) in
                (n, l', subst (λ i. Numbers (h.links).ids x.id i) y.1 z.2, set-same w.links n l l' at, record { node = o.node; is_open = o.is_open; asking = o.asking; requests = ([], ap (λ rs. rs ++ []) empty); known = o.known; backs = o.backs }))
                (λ (y : ((z.0 == n) ≡ false) × (z.0 ≢ n)). (z.0, z.1, z.2, set-other w.links n l' z.0 z.1 y.1 z.3, z.4))
                (eqb_tells z.0 n)))
                (λ z. inr z)
                old.1,
          );
      apart = (h.links).apart;
      aside = (h.links).aside;
      each = (h.links).each;
      seen = (h.links).seen;
    }

    emptied : IsShadow s w'
    emptied = broken-frame s s w s.closed links (w.moment + 1) (omega arith) h refl shadow

  -- the machine after that
  abbrev pub Cleared : ℕ → WorldModel → Type 0
  Cleared n w = (events : List Event) × (w' : WorldModel) × Walk w events w' × IsShadow s w' × (length w'.links ≡ length w.links) × AreEmpty node n w'.links

  more : (n : ℕ) (w : WorldModel) → Cleared n w → Cleared (suc n) w
  more n w r = look (slice_get r.1.links n) refl
    where
      -- nothing is to be done
      still : ((l : Link) → slice_get r.1.links n ≡ Some l → l.is_open ≡ false → l.node ≡ node → l.requests ≡ []) → Cleared (suc n) w
      still here = (
        r.0,
        r.1,
        r.2,
        r.3,
        r.4,
        λ i l lt e shut there. ⊎_elim
            (λ (z : ((i == n) ≡ true) × (i ≡ n)). here l (ap (slice_get r.1.links) (sym z.1) ∙ e) shut there)
            (λ (z : ((i == n) ≡ false) × (i ≢ n)). r.5 i l (omega (arith, lt, z.1)) e shut there)
            (eqb_tells i n),
      )

      throw : (l : Link) → slice_get r.1.links n ≡ Some l → l.is_open ≡ false → l.node ≡ node → (l.requests ≡ [] → ⊥) → Cleared (suc n) w
      throw l at shut there some =
          let now : WorldModel = w' r.1 r.3 n l at shut there in (
            r.0 ++ Discard n ∷ [],
            now,
            walks_join r.0 (Discard n ∷ []) w r.1 now r.2 (now, (l, at, shut, some, refl), refl),
            emptied r.1 r.3 n l at shut there,
            set-size r.1.links n (record l { requests = [] }) ∙ r.4,
            λ i m lt e shut' there'. ⊎_elim
                (λ (z : (i ≡ n) × (m ≡ record l { requests = [] })). ap (λ (x : Link). x.requests) z.1)
                (λ (z : (i ≢ n) × (slice_get r.1.links i ≡ Some m)). r.5 i m (omega (arith, lt, z.0)) z.1 shut' there')
                (at-set r.1.links n (record l { requests = [] }) i m e),
          )

      full : (l : Link) → slice_get r.1.links n ≡ Some l → l.is_open ≡ false → l.node ≡ node → (qs : List LinkRequest) → l.requests ≡ qs → Cleared (suc n) w
      full l at shut there [] e = still (λ m p shut' there'. ap (λ (x : Link). x.requests) (once-there (slice_get r.1.links n) m l p at) ∙ e)
      full l at shut there (q ∷ qs) e = throw l at shut there (λ f. some-requests q qs (sym e ∙ f))

      by-node : (l : Link) → slice_get r.1.links n ≡ Some l → l.is_open ≡ false → Cleared (suc n) w
      by-node l at shut = ⊎_elim
          (λ (z : ((l.node == node) ≡ true) × (l.node ≡ node)). full l at shut z.1 l.requests refl)
          (λ (z : ((l.node == node) ≡ false) × (l.node ≢ node)). still (λ m p shut' there. absurd (z.1 (ap (λ (x : Link). x.node) (once-there (slice_get r.1.links n) l m at p) ∙ there))))
          (eqb_tells l.node node)

      by-state : (l : Link) → slice_get r.1.links n ≡ Some l → (b : Bool) → l.is_open ≡ b → Cleared (suc n) w
      by-state l at true e = still (λ m p shut there. absurd (false≢true (sym shut ∙ ap (λ (x : Link). x.is_open) (once-there (slice_get r.1.links n) m l p at) ∙ e)))
      by-state l at false e = by-node l at e

      look : (o : Option Link) → slice_get r.1.links n ≡ o → Cleared (suc n) w
      look None e = still (λ m p. absurd (none-there (slice_get r.1.links n) m e p))
      look (Some l) e = by-state l e l.is_open refl

  pub clears : (n : ℕ) (w : WorldModel) → IsShadow s w → Cleared n w
  clears zero w h = ([], w, refl, h, refl, λ i l lt. absurd (omega (arith, lt)))
  clears (suc n) w h = more n w (clears n w h)
