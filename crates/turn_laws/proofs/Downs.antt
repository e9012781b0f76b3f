-- What is on its way down, as a bag: each step that moves a pair keeps every sum.
use Rattle.std.proofs.Common.{◌≡◌, inl, inr, ⊎_elim, ℕ, zero, suc, ◌+◌, ◌<◌, ◌&&◌, Bool, true, false, List, [], ◌∷◌, Some, refl, sym, ap, ◌∙◌, arith}
use Rattle.std.specs.Prelude.{slice_get, slice_set, if◌then◌else◌}
use Rattle.std.specs.List.{flat_map}
use Rattle.std.specs.Cmp.{first_so, second_so}
use Rattle.key_split.specs.Same.{same_ticket, same_told, same_ticket-Decides, same_told-Decides}
use Rattle.key_split.specs.declared.travel.Ticket.{Ticket}
use Rattle.key_split.specs.declared.travel.Told.{Told}
use Rattle.command_future.specs.CommandModel.{CommandModel}
use Rattle.world_laws.specs.Places.{total, is}
use Rattle.world_laws.proofs.Tally.{total-append, total-one, total-found}
use Rattle.turn_laws.specs.Shadow.{ToldFrom}

abbrev pub Pair : Type 0
Pair = Ticket × Told

-- two lists with the same items, in any order
abbrev pub SameBag : List Pair → List Pair → Type 0
SameBag a b = (f : Pair → ℕ) → total f a ≡ total f b

abbrev same_pair : Pair → Pair → Bool
same_pair p q = same_ticket p.0 q.0 && same_told p.1 q.1

abbrev pub one_for : Pair → Pair → ℕ
one_for p q = if same_pair p q then 1 else 0

pub pair-itself : (p : Pair) → one_for p p ≡ 1
pair-itself p =
    let t : same_ticket p.0 p.0 ≡ true = (same_ticket-Decides p.0 p.0).1 refl in
    let u : same_told p.1 p.1 ≡ true = (same_told-Decides p.1 p.1).1 refl in
    let both : same_pair p p ≡ true = λ i. t i && u i in ap (λ (b : Bool). if b then 1 else 0) both

pub pair-is : (p q : Pair) → 0 < one_for p q → q ≡ p
pair-is p q lt = go (same_pair p q) refl lt
  where
    go : (b : Bool) → same_pair p q ≡ b → 0 < (if b then 1 else 0) → q ≡ p
    go true e lt =
        let t : p.0 ≡ q.0 = (same_ticket-Decides p.0 q.0).0 (first_so (same_ticket p.0 q.0) (same_told p.1 q.1) e) in
        let u : p.1 ≡ q.1 = (same_told-Decides p.1 q.1).0 (second_so (same_ticket p.0 q.0) (same_told p.1 q.1) e) in
        λ i. (sym t i, sym u i)
    go false e lt = absurd (omega arith)

-- what is in one is in the other
pub bag-has : (a b : List Pair) → SameBag a b → (i : ℕ) (p : Pair) → slice_get a i ≡ Some p → (j : ℕ) × (slice_get b j ≡ Some p)
bag-has a b same i p e =
    let f = total-found (one_for p) b (omega (arith, same (one_for p), total-one (one_for p) a i p e, pair-itself p)) in
    (f.0, f.2 ∙ ap Some (pair-is p f.1 f.3))

pub told-same : (a b : List Pair) → SameBag a b → (d c : CommandModel) → ToldFrom a d c → ToldFrom b d c
told-same a b same d c t = ⊎_elim
    (λ (x : (c ≡ d) × (total (λ (p : Pair). is d.ticket p.0) a ≡ 0)). inl (x.0, sym (same (λ (p : Pair). is d.ticket p.0)) ∙ x.1))
    (λ (x : (told : Told) × (i : ℕ) × (slice_get a i ≡ Some (d.ticket, told)) × (c ≡ _)).
    let h = bag-has a b same x.1 (d.ticket, x.0) x.2 in inr (x.0, h.0, h.1, x.3))
    t

-- sums over lists of lists
pub total-set-flat : {X : Type 0} (f : Pair → ℕ) (g : X → List Pair) (xs : List X) (i : ℕ) (x y : X) → slice_get xs i ≡ Some x
    → total f (flat_map g (slice_set xs i y)) + total f (g x) ≡ total f (flat_map g xs) + total f (g y)
total-set-flat f g [] i x y e = absurd (cc)
total-set-flat f g (z ∷ xs) zero x y e =
    let same : z ≡ x = cc in
    omega (arith, ap (λ u. total f (g u)) same, total-append f (g z) (flat_map g xs), total-append f (g y) (flat_map g xs))
total-set-flat f g (z ∷ xs) (suc i) x y e =
    omega (arith, total-set-flat f g xs i x y e, total-append f (g z) (flat_map g xs), total-append f (g z) (flat_map g (slice_set xs i y)))

-- one pair more
abbrev pub OneMore : List Pair → Pair → List Pair → Type 0
OneMore a p b = (f : Pair → ℕ) → total f b ≡ total f a + f p

pub more-has : (a b : List Pair) (p : Pair) → OneMore a p b → (j : ℕ) × (slice_get b j ≡ Some p)
more-has a b p more =
    let f = total-found (one_for p) b (omega (arith, more (one_for p), pair-itself p)) in
    (f.0, f.2 ∙ ap Some (pair-is p f.1 f.3))

pub more-keeps : (a b : List Pair) (p : Pair) → OneMore a p b → (i : ℕ) (q : Pair) → slice_get a i ≡ Some q → (j : ℕ) × (slice_get b j ≡ Some q)
more-keeps a b p more i q e =
    let f = total-found (one_for q) b (omega (arith, more (one_for q), total-one (one_for q) a i q e, pair-itself q)) in
    (f.0, f.2 ∙ ap Some (pair-is q f.1 f.3))

pub is-other : (t u : Ticket) → (t ≡ u → ⊥) → is t u ≡ 0
is-other t u ne = go (same_ticket t u) refl
  where
    go : (b : Bool) → same_ticket t u ≡ b → ◌≡◌ {A = ℕ} (if b then 1 else 0) 0
    go true e = absurd (ne ((same_ticket-Decides t u).0 e))
    go false e = refl
