-- What the tables of an audit keep.
use Rattle.std.proofs.Common.{◌≡◌, ◌↔◌, inl, inr, ℕ, ◌+◌, ◌<◌, Bool, true, false, List, [], cond, length, get_or, Any, Some, None, Option, refl, sym, ap, ◌∙◌, subst, arith, IsTrue, rules}
use Rattle.std.specs.Prelude.{slice_get, is_some, is_none}
use Rattle.std.proofs.lemmas.Bool.{cases_lt}
use Rattle.std.proofs.lemmas.Option.{get_or_from_slice_get, slice_get_within, slice_get-get_or}
use Rattle.key_split.specs.declared.travel.Ticket.{Ticket}
use Rattle.cluster_world.specs.declared.places.Key.{Key}
use Rattle.cluster_world.specs.Index.{same_key, ticket_key, found, place_in, Stands, IsIndexTo, IsIndex, Differ}

pub no-way : {A : Type 0} → false ≡ true → A
no-way e = absurd (cc)

pub key-self : (k : Key) → same_key k k ≡ true
key-self k = search rules

pub same-key : (a b : Key) → same_key a b ≡ true → a ≡ b
same-key a b e = search rules

key-ticket : (t u : Ticket) → ticket_key t ≡ ticket_key u → t ≡ u
key-ticket t u e = λ i. record { worker = (e i).worker; client = (e i).client; part = (e i).number }

same-ticket : (t u : Ticket) → same_key (ticket_key t) (ticket_key u) ≡ true → t ≡ u
same-ticket t u e = key-ticket t u (same-key (ticket_key t) (ticket_key u) e)

other-ticket : (t u : Ticket) → same_key (ticket_key t) (ticket_key u) ≡ false → t ≡ u → ⊥
other-ticket t u apart e = no-way (sym apart ∙ subst (λ v. same_key (ticket_key t) (ticket_key v) ≡ true) e (key-self (ticket_key t)))

last : (n k : ℕ) → k < n + 1 → (k < n → ⊥) → n ≡ k
last n k lt never = elim (cases_lt k n) [ inl below ↦ absurd (never below) | inr above ↦ omega (arith, lt, above) ]

not-last : (n k : ℕ) → k < n + 1 → (k ≡ n → ⊥) → k < n
not-last n k lt never = elim (cases_lt k n) [ inl below ↦ below | inr above ↦ absurd (never (omega (arith, lt, above))) ]

pub is-none : {A : Type 0} (o : Option A) → is_none o ≡ true → o ≡ None
is-none None e = refl
is-none (Some x) e = no-way e

module _ {X : Type 0} (of : X → Ticket) (xs : List X) where
  pub index-start : IsIndexTo of xs 0 (place_in [])
  index-start t k = (λ e. absurd (cc), λ s. absurd (omega (arith, s.0)))

  -- the thing at n got its place
  pub index-more : (n : ℕ) (x : X) (old new : List (Key × ℕ)) → slice_get xs n ≡ Some x → IsIndexTo of xs n (place_in old) → place_in old (of x) ≡ None
      → ((key : Key) → found new key ≡ cond (same_key (ticket_key (of x)) key) (Some n) (found old key)) → IsIndexTo of xs (n + 1) (place_in new)
  index-more n x old new at index fresh put t k = go (same_key (ticket_key (of x)) (ticket_key t)) refl
    where
      go : (b : Bool) → same_key (ticket_key (of x)) (ticket_key t) ≡ b → (place_in new t ≡ Some k) ↔ Stands of xs (n + 1) t k
      go true s =
          let here : of x ≡ t = same-ticket (of x) t s in
          let is : place_in new t ≡ Some n = put (ticket_key t) ∙ ap (λ b. cond b (Some n) (found old (ticket_key t))) s in (
            λ e. (let same : n ≡ k = cc in (omega (arith, same), x, ap (slice_get xs) (sym same) ∙ at, here)),
            λ w. (
                let before : k < n → ⊥ = λ lt. (let old-is : place_in old t ≡ Some k = (index t k).1 (lt, w.1, w.2, w.3) in let none : place_in old t ≡ None = ap (place_in old) (sym here) ∙ fresh in absurd (cc)) in
                let same : n ≡ k = last n k w.0 before in is ∙ ap Some same),
          )
      go false s =
          let is : place_in new t ≡ place_in old t = put (ticket_key t) ∙ ap (λ b. cond b (Some n) (found old (ticket_key t))) s in (
            λ e. (let w = (index t k).0 (sym is ∙ e) in (omega (arith, w.0), w.1, w.2, w.3)),
            λ w. is ∙ (index t k).1 (
              not-last n k w.0 (λ e. other-ticket (of x) t s (let mine : slice_get xs n ≡ Some w.1 = ap (slice_get xs) (sym e) ∙ w.2 in let one : x ≡ w.1 = cc in ap of one ∙ w.3)),
              w.1,
              w.2,
              w.3,
            ),
          )

  -- the thing at n has the ticket of one before it
  pub index-repeats : (n : ℕ) (x : X) (at : Ticket → Option ℕ) → slice_get xs n ≡ Some x → IsIndexTo of xs n at → is_none (at (of x)) ≡ false → Differ of xs → ⊥
  index-repeats n x at here index some differ = go (at (of x)) refl
    where
      go : (o : Option ℕ) → at (of x) ≡ o → ⊥
      go None e = no-way (sym some ∙ ap is_none e)
      go (Some k) e =
          let w = (index (of x) k).0 e in
          let lt : k < n = w.0 in
          differ k n x lt (slice_get_within xs n x here) (ap of (get_or_from_slice_get xs k w.1 x w.2) ∙ w.3 ∙ ap of (sym (get_or_from_slice_get xs n x x here)))

  pub index-differ : (at : Ticket → Option ℕ) → IsIndex of xs at → Differ of xs
  index-differ at index i j d lt within same =
      let first : at (of (get_or xs i d)) ≡ Some i = (index (of (get_or xs i d)) i).1 (omega (arith, lt, within), get_or xs i d, slice_get-get_or xs i d (omega (arith, lt, within)), refl) in
      let second : at (of (get_or xs i d)) ≡ Some j = (index (of (get_or xs i d)) j).1 (within, get_or xs j d, slice_get-get_or xs j d within, sym same) in
      let one : i ≡ j = cc in
      omega (arith, lt, one)

  pub has-ticket : (at : Ticket → Option ℕ) (t : Ticket) → IsIndex of xs at → IsTrue (is_some (at t)) ↔ Any (λ x. of x ≡ t) xs
  has-ticket at t index = go (at t) refl
    where
      go : (o : Option ℕ) → at t ≡ o → IsTrue (is_some (at t)) ↔ Any (λ x. of x ≡ t) xs
      go None e = (λ yes. no-way (sym (ap is_some e) ∙ yes), λ any. absurd (let some : at t ≡ Some any.0 = (index t any.0).1 (any.2, any.1, slice_get-get_or xs any.0 any.1 any.2 ∙ ap Some any.3, any.4) in cc))
      go (Some k) e = (λ yes. (let w = (index t k).0 e in (k, w.1, w.0, get_or_from_slice_get xs k w.1 w.1 w.2, w.3)), λ any. ap is_some e)

  -- what the one thing of that ticket is
  pub any-here : (at : Ticket → Option ℕ) (P : X → Type 0) (t : Ticket) (k : ℕ) (x : X) → IsIndex of xs at → at t ≡ Some k → slice_get xs k ≡ Some x → P x ↔ Any (λ y. (of y ≡ t) × P y) xs
  any-here at P t k x index is here =
      let w = (index t k).0 is in
      let mine : slice_get xs k ≡ Some w.1 = w.2 in
      let one : x ≡ w.1 = cc in (
        λ p. (k, x, w.0, get_or_from_slice_get xs k x x here, (ap of one ∙ w.3, p)),
        λ any. (
            let there : slice_get xs any.0 ≡ Some any.1 = slice_get-get_or xs any.0 any.1 any.2 ∙ ap Some any.3 in
            let so : at t ≡ Some any.0 = (index t any.0).1 (any.2, any.1, there, any.4.0) in
            let same : k ≡ any.0 = cc in
            let again : slice_get xs k ≡ Some any.1 = ap (slice_get xs) same ∙ there in
            let is : any.1 ≡ x = cc in
            subst P is any.4.1),
      )

  pub any-nowhere : (at : Ticket → Option ℕ) (P : X → Type 0) (t : Ticket) → IsIndex of xs at → at t ≡ None → Any (λ y. (of y ≡ t) × P y) xs → ⊥
  any-nowhere at P t index is any =
      let some : at t ≡ Some any.0 = (index t any.0).1 (any.2, any.1, slice_get-get_or xs any.0 any.1 any.2 ∙ ap Some any.3, any.4.0) in
      absurd (cc)

  pub place-within : (at : Ticket → Option ℕ) (t : Ticket) (k : ℕ) → IsIndex of xs at → at t ≡ Some k → k < length xs
  place-within at t k index is = ((index t k).0 is).0
