-- Where a connection fails in a step, its wire is one of the broken.
use Rattle.std.proofs.Common.{◌≡◌, ◌⊎◌, inl, inr, ⊎_elim, ℕ, zero, suc, true, false, List, [], ◌∷◌, ◌++◌, Some, None, refl, sym, ap, ◌∙◌, subst}
use Rattle.std.specs.Prelude.{Option, IsSome, slice_get}
use Rattle.node_link.specs.LinkModel.{LinkModel}
use Rattle.node_link.specs.declared.link.Failure.{Failure}
use Rattle.proxy_turns.specs.declared.backend.Backend.{Backend}
use Rattle.proxy_turns.specs.declared.newcomer.Newcomer.{Newcomer}
use Rattle.proxy_turns.specs.CarrierModel.{CarrierModel}
use Rattle.turn_laws.specs.Wire.{Wire}
use Rattle.turn_laws.specs.System.{System}
use Rattle.turn_laws.specs.Steps.{Breaks}

-- the first link works, and the second one in its place has failed
abbrev Fails : Option (LinkModel Wire) → Option (LinkModel Wire) → LinkModel Wire → LinkModel Wire → Type 0
Fails a b link link' = (a ≡ Some link) × (link.failure ≡ None) × (b ≡ Some link') × IsSome link'.failure

abbrev NeverFails : Option (LinkModel Wire) → Option (LinkModel Wire) → Type 0
NeverFails a b = (link link' : LinkModel Wire) → Fails a b link link' → ⊥

abbrev SomeFails : Option (LinkModel Wire) → Option (LinkModel Wire) → Type 0
SomeFails a b = (link : LinkModel Wire) × (link' : LinkModel Wire) × Fails a b link link'

never-from : (a b : Option (LinkModel Wire)) → a ≡ None → NeverFails a b
never-from a b e link link' x = let n : None ≡ Some link = sym e ∙ x.0 in absurd (cc)

never-to : (a b : Option (LinkModel Wire)) → b ≡ None → NeverFails a b
never-to a b e link link' x = let n : None ≡ Some link' = sym e ∙ x.2 in absurd (cc)

never-again : (one two : LinkModel Wire) (why : Failure) → one.failure ≡ Some why → NeverFails (Some one) (Some two)
never-again one two why e link link' x =
    let same : one ≡ link = cc in
    let n : Some why ≡ None = sym e ∙ ap (λ (l : LinkModel Wire). l.failure) same ∙ x.1 in absurd (cc)

never-yet : (one two : LinkModel Wire) → two.failure ≡ None → NeverFails (Some one) (Some two)
never-yet one two e link link' x =
    let same : link' ≡ two = cc in
    let n : false ≡ true = subst IsSome (ap (λ (l : LinkModel Wire). l.failure) same ∙ e) x.3 in absurd (cc)

abbrev Told : Option (LinkModel Wire) → Option (LinkModel Wire) → Type 0
Told a b = NeverFails a b ⊎ SomeFails a b

of-two : (one two : LinkModel Wire) (p q : Option Failure) → one.failure ≡ p → two.failure ≡ q → Told (Some one) (Some two)
of-two one two (Some why) q e f = inl (never-again one two why e)
of-two one two None None e f = inl (never-yet one two f)
of-two one two None (Some why) e f = inr (one, two, (refl, e, refl, subst IsSome (sym f) refl))

of-links : (a b : Option (LinkModel Wire)) → Told a b
of-links None b = inl (never-from None b refl)
of-links (Some one) None = inl (never-to (Some one) None refl)
of-links (Some one) (Some two) = of-two one two one.failure two.failure refl refl

-- this backend's link fails between the two lists
abbrev FailsIn : List (Backend Wire) → List (Backend Wire) → ℕ → LinkModel Wire → LinkModel Wire → Type 0
FailsIn olds news k link link' =
    ((backend : Backend Wire) × (slice_get olds k ≡ Some backend) × (backend.link ≡ Some link) × (link.failure ≡ None))
    × ((backend : Backend Wire) × (slice_get news k ≡ Some backend) × (backend.link ≡ Some link') × IsSome link'.failure)

abbrev ToldIn : List (Backend Wire) → List (Backend Wire) → Type 0
ToldIn olds news = ((k : ℕ) (link link' : LinkModel Wire) → FailsIn olds news k link link' → ⊥) ⊎ ((k : ℕ) × (link : LinkModel Wire) × (link' : LinkModel Wire) × FailsIn olds news k link link')

module _ (a b : Backend Wire) (olds news : List (Backend Wire)) where
  none-here : NeverFails a.link b.link → ((k : ℕ) (link link' : LinkModel Wire) → FailsIn olds news k link link' → ⊥) → (k : ℕ) (link link' : LinkModel Wire) → FailsIn (a ∷ olds) (b ∷ news) k link link' → ⊥
  none-here here later zero link link' x =
      let p : a ≡ x.0.0 = cc in
      let q : b ≡ x.1.0 = cc in
      here link link' (ap (λ (c : Backend Wire). c.link) p ∙ x.0.2, x.0.3, ap (λ (c : Backend Wire). c.link) q ∙ x.1.2, x.1.3)
  none-here here later (suc k) link link' x = later k link link' x

  one-here : SomeFails a.link b.link → ToldIn (a ∷ olds) (b ∷ news)
  one-here x = inr (0, x.0, x.1, ((a, refl, x.2.0, x.2.1), (b, refl, x.2.2, x.2.3)))

  joined : Told a.link b.link → ToldIn olds news → ToldIn (a ∷ olds) (b ∷ news)
  joined here later = ⊎_elim
      (λ (never : NeverFails a.link b.link). ⊎_elim
      (λ (nowhere : (k : ℕ) (link link' : LinkModel Wire) → FailsIn olds news k link link' → ⊥). let r : ToldIn (a ∷ olds) (b ∷ news) = inl (none-here never nowhere) in r)
      (λ (x : (k : ℕ) × (link : LinkModel Wire) × (link' : LinkModel Wire) × FailsIn olds news k link link'). let r : ToldIn (a ∷ olds) (b ∷ news) = inr (suc x.0, x.1, x.2, x.3) in r)
      later)
      (λ (x : SomeFails a.link b.link). one-here x)
      here

of-lists : (olds news : List (Backend Wire)) → ToldIn olds news
of-lists [] news = inl (λ k link link' x. let e : None ≡ Some x.0.0 = x.0.1 in absurd (cc))
of-lists (a ∷ olds) [] = inl (λ k link link' x. let e : None ≡ Some x.1.0 = x.1.1 in absurd (cc))
of-lists (a ∷ olds) (b ∷ news) = joined a b olds news (of-links a.link b.link) (of-lists olds news)

module _ {C J : Type 0} where
  -- the broken after a step of the carrier that leads there
  pub broken : (s : System C J) (carrier : CarrierModel (Newcomer C J) Wire) (opened : ℕ) → (closed : List Wire) × Breaks s (record s { carrier = carrier; closed = closed; opened = opened })
  broken s carrier opened = ⊎_elim
      (λ (never : (k : ℕ) (link link' : LinkModel Wire) → FailsIn s.carrier.backends carrier.backends k link link' → ⊥).
      let r : (closed : List Wire) × Breaks s (record s { carrier = carrier; closed = closed; opened = opened }) =
      (s.closed, inl (refl, λ k link link' x. never k link link' (x.0, (x.1, x.2, x.3, x.4)))) in r)
      (λ (x : (k : ℕ) × (link : LinkModel Wire) × (link' : LinkModel Wire) × FailsIn s.carrier.backends carrier.backends k link link').
      let r : (closed : List Wire) × Breaks s (record s { carrier = carrier; closed = closed; opened = opened }) =
      (s.closed ++ record x.2.port { values = [] } ∷ [], inr (x.0, x.1, x.2, (x.3.0, x.3.1.0, x.3.1.1, x.3.1.2, x.3.1.3), refl)) in r)
      (of-lists s.carrier.backends carrier.backends)
