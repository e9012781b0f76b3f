-- Sums over lists.
use Rattle.std.proofs.Common.{◌≡◌, ℕ, zero, suc, ◌+◌, ◌<◌, ◌≤◌, Bool, true, false, List, [], ◌∷◌, ◌++◌, Some, refl, ap, arith, ◌≢◌}
use Rattle.std.specs.Prelude.{slice_get, slice_set, remove}
use Rattle.key_split.specs.declared.travel.Ticket.{Ticket}
use Rattle.key_split.specs.declared.travel.Told.{Told}
use Rattle.world_laws.specs.State.{WorldModel, Arrival, Posted, Link, LinkRequest, LinkReply}
use Rattle.world_laws.specs.declared.state.LinkRequest.TheVariants.{Asking, Runs}
use Rattle.world_laws.specs.declared.state.LinkReply.TheVariants.{Welcome, To}
use Rattle.world_laws.specs.Places.{Item, total, in_requests, in_backs, in_lane, in_link, tally}
use Rattle.world_laws.specs.Places.Item.{Stands, Lies, Sent, Comes}

pub total-append : {X : Type 0} (f : X → ℕ) (xs ys : List X) → total f (xs ++ ys) ≡ total f xs + total f ys
total-append f [] ys = omega arith
total-append f (x ∷ xs) ys = omega (arith, total-append f xs ys)

pub total-set : {X : Type 0} (f : X → ℕ) (xs : List X) (i : ℕ) (x y : X) → slice_get xs i ≡ Some x → total f (slice_set xs i y) + f x ≡ total f xs + f y
total-set f [] i x y e = absurd (cc)
total-set f (z ∷ xs) zero x y e = let same : z ≡ x = cc in omega (arith, ap f same)
total-set f (z ∷ xs) (suc i) x y e = omega (arith, total-set f xs i x y e)

pub total-remove : {X : Type 0} (f : X → ℕ) (xs : List X) (i : ℕ) (x : X) → slice_get xs i ≡ Some x → total f (remove xs i) + f x ≡ total f xs
total-remove f [] i x e = absurd (cc)
total-remove f (z ∷ xs) zero x e = let same : z ≡ x = cc in omega (arith, ap f same)
total-remove f (z ∷ xs) (suc i) x e = omega (arith, total-remove f xs i x e)

-- the flag after these requests
abbrev pub flag_after : Bool → List LinkRequest → Bool
flag_after flag [] = flag
flag_after flag (Asking ∷ rs) = flag_after true rs
flag_after flag (Runs t ∷ rs) = flag_after false rs

-- Sums of four functions that compare item by item.

total-le : {X : Type 0} (f g a b : X → ℕ) → ((x : X) → f x + g x ≤ a x + b x) → (xs : List X) → total f xs + total g xs ≤ total a xs + total b xs
total-le f g a b h [] = omega arith
total-le f g a b h (x ∷ xs) = omega (arith, h x, total-le f g a b h xs)

-- the same, with one item's share left out
total-rest : {X : Type 0} (f g a b : X → ℕ) → ((x : X) → f x + g x ≤ a x + b x) → (xs : List X) (i : ℕ) (x : X) → slice_get xs i ≡ Some x → total f xs + total g xs + a x + b x ≤ total a xs + total b xs + f x + g x
total-rest f g a b h [] i x e = absurd (cc)
total-rest f g a b h (z ∷ xs) zero x e = let same : z ≡ x = cc in omega (arith, ap f same, ap g same, ap a same, ap b same, total-le f g a b h xs)
total-rest f g a b h (z ∷ xs) (suc i) x e = omega (arith, h z, total-rest f g a b h xs i x e)

module _ (f g a b : Item → ℕ) (h : (i : Item) → f i + g i ≤ a i + b i) where
  requests-le : (o : Bool) (n : ℕ) (flag : Bool) (rs : List LinkRequest) → in_requests f o n flag rs + in_requests g o n flag rs ≤ in_requests a o n flag rs + in_requests b o n flag rs
  requests-le o n flag [] = omega arith
  requests-le o n flag (Asking ∷ rs) = requests-le o n true rs
  requests-le o n flag (Runs ts ∷ rs) = omega (arith, total-le (λ (t : Ticket). f (Sent o n flag t)) (λ t. g (Sent o n flag t)) (λ t. a (Sent o n flag t)) (λ t. b (Sent o n flag t)) (λ t. h (Sent o n flag t)) ts, requests-le o n false rs)

  backs-le : (bs : List LinkReply) → in_backs f bs + in_backs g bs ≤ in_backs a bs + in_backs b bs
  backs-le [] = omega arith
  backs-le (Welcome ∷ bs) = backs-le bs
  backs-le (To t told ∷ bs) = omega (arith, h (Comes t told), backs-le bs)

  lane-le : (x : Posted) → in_lane f x + in_lane g x ≤ in_lane a x + in_lane b x
  lane-le x = total-le (λ (t : Ticket). f (Lies x.node x.asking t)) (λ t. g (Lies x.node x.asking t)) (λ t. a (Lies x.node x.asking t)) (λ t. b (Lies x.node x.asking t)) (λ t. h (Lies x.node x.asking t)) x.tickets

  links-le : (ls : List Link) → total (in_link f) ls + total (in_link g) ls ≤ total (in_link a) ls + total (in_link b) ls
  links-le [] = omega arith
  links-le (l ∷ ls) = omega (arith, requests-le l.is_open l.node l.asking l.requests, backs-le l.backs, links-le ls)

  pub tally-le : (w : WorldModel) → tally f w + tally g w ≤ tally a w + tally b w
  tally-le w = omega (
    arith,
    total-le (λ (c : Arrival). f (Stands c)) (λ c. g (Stands c)) (λ c. a (Stands c)) (λ c. b (Stands c)) (λ c. h (Stands c)) w.commands,
    total-le (in_lane f) (in_lane g) (in_lane a) (in_lane b) lane-le w.ups,
    links-le w.links,
    total-le (λ (p : Ticket × Told). f (Comes p.0 p.1)) (λ p. g (Comes p.0 p.1)) (λ p. a (Comes p.0 p.1)) (λ p. b (Comes p.0 p.1)) (λ p. h (Comes p.0 p.1)) w.downs,
  )

  pub tally-rest : (w : WorldModel) (i : ℕ) (c : Arrival) → slice_get w.commands i ≡ Some c → tally f w + tally g w + a (Stands c) + b (Stands c) ≤ tally a w + tally b w + f (Stands c) + g (Stands c)
  tally-rest w i c e = omega (
    arith,
    total-rest (λ (c : Arrival). f (Stands c)) (λ c. g (Stands c)) (λ c. a (Stands c)) (λ c. b (Stands c)) (λ c. h (Stands c)) w.commands i c e,
    total-le (in_lane f) (in_lane g) (in_lane a) (in_lane b) lane-le w.ups,
    links-le w.links,
    total-le (λ (p : Ticket × Told). f (Comes p.0 p.1)) (λ p. g (Comes p.0 p.1)) (λ p. a (Comes p.0 p.1)) (λ p. b (Comes p.0 p.1)) (λ p. h (Comes p.0 p.1)) w.downs,
  )

pub total-one : {X : Type 0} (f : X → ℕ) (xs : List X) (i : ℕ) (x : X) → slice_get xs i ≡ Some x → f x ≤ total f xs
total-one f [] i x e = absurd (cc)
total-one f (z ∷ xs) zero x e = let same : z ≡ x = cc in omega (arith, ap f same)
total-one f (z ∷ xs) (suc i) x e = omega (arith, total-one f xs i x e)

-- two places of one list
pub total-two : {X : Type 0} (f : X → ℕ) (xs : List X) (i j : ℕ) (x y : X) → slice_get xs i ≡ Some x → slice_get xs j ≡ Some y → i ≢ j → f x + f y ≤ total f xs
total-two f [] i j x y p q ne = absurd (cc)
total-two f (z ∷ xs) zero zero x y p q ne = absurd (ne refl)
total-two f (z ∷ xs) zero (suc j) x y p q ne = let same : z ≡ x = cc in omega (arith, ap f same, total-one f xs j y q)
total-two f (z ∷ xs) (suc i) zero x y p q ne = let same : z ≡ y = cc in omega (arith, ap f same, total-one f xs i x p)
total-two f (z ∷ xs) (suc i) (suc j) x y p q ne = omega (arith, total-two f xs i j x y p q (λ e. ne (ap suc e)))

-- what is counted is there
pub total-found : {X : Type 0} (f : X → ℕ) (xs : List X) → 0 < total f xs → (i : ℕ) × (x : X) × (slice_get xs i ≡ Some x) × (0 < f x)
total-found f [] h = absurd (omega arith)
total-found {X} f (x ∷ xs) h = go (f x) refl (total-found f xs)
  where
    go : (n : ℕ) → f x ≡ n → (0 < total f xs → (i : ℕ) × (y : X) × (slice_get xs i ≡ Some y) × (0 < f y)) → (i : ℕ) × (y : X) × (slice_get (x ∷ xs) i ≡ Some y) × (0 < f y)
    go zero e r = let q = r (omega arith) in (suc q.0, q.1, q.2, q.3)
    go (suc n) e r = (0, x, refl, omega arith)
