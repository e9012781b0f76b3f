-- The finite map that the entries of a hash map stand for, by numbers.
use Rattle.std.proofs.Common.{◌≡◌, ℕ, zero, suc, slice_get, nat_eq, Bool, Bor, List, [], ◌∷◌, length, arith, cond, Option, is_some, Some, None, true, false, eqb→eq, refl, sym, ap, ◌∙◌, subst}
use Rattle.std.specs.Ordering.{nat_cmp, eq_by_cmp}
use Rattle.std.specs.Cmp.{nat_cmp_total, unsigned_ties, eq_by_cmp_equiv, nat_eq_equiv}
use Rattle.indexmap.specs.IndexMap.{IndexMap, IsUnique, set_value_at, values}
use Rattle.indexmap.proofs.CallerLemmas.{updates-with_value_at}
use Rattle.std.specs.FinMap.{FinMap, empty, get, get-empty, insert, remove, from_entries, find, get-from_entries, get-insert, get-remove, same_map, nat_cmp-IsAntisymmetric}
use Rattle.std.specs.Map.{lookup, keys_of, values_of}
use Rattle.std.specs.Option.{MatchOption, option_copied}
use Rattle.std.specs.Prelude.{T}
use Rattle.std.proofs.lemmas.Bool.{false≢true}

turned : (k q : ℕ) → nat_eq k q ≡ eq_by_cmp nat_cmp q k
turned k q = unsigned_ties k q ∙ (eq_by_cmp_equiv nat_cmp_total).symm k q

pub none_some : {A : Type 0} (x : A) → None ≡ Some x → ⊥
none_some {A} x e = subst there e tt
  where
    there : Option A → Type 0
    there None = Unit {0}
    there (Some y) = ⊥

pub is_some_some : {A : Type 0} (o : Option A) → is_some o ≡ true → (x : A) × (o ≡ Some x)
is_some_some None e = absurd (false≢true e)
is_some_some (Some x) e = (x, refl)

abbrev head_or : ℕ → List ℕ → ℕ
head_or other [] = other
head_or other (x ∷ xs) = x

module _ {X : Type 0} where
  find-lookup : (q : ℕ) (es : List (ℕ × X)) → lookup (nat_eq q) es ≡ find nat_cmp q es
  find-lookup q [] = refl
  find-lookup q (e ∷ es) = λ i. cond (unsigned_ties q e.0 i) (Some e.1) (find-lookup q es i)

  -- the value at a number
  pub at_number : (q : ℕ) (es : List (ℕ × X)) → lookup (nat_eq q) es ≡ get (from_entries {R = nat_cmp} es) q
  at_number q es = find-lookup q es ∙ sym (get-from_entries nat_cmp_total es q)

  -- the same look-ups, the same map
  pub same_look-ups : (old new : List (ℕ × X)) → ((q : ℕ) → lookup (nat_eq q) new ≡ lookup (nat_eq q) old) → from_entries {R = nat_cmp} new ≡ from_entries {R = nat_cmp} old
  same_look-ups old new h =
      same_map nat_cmp_total nat_cmp-IsAntisymmetric _ _ (λ q. sym (at_number q new) ∙ h q ∙ at_number q old)

  pub put_at : (k : ℕ) (v : X) (old new : List (ℕ × X)) → ((q : ℕ) → lookup (nat_eq q) new ≡ cond (nat_eq k q) (Some v) (lookup (nat_eq q) old))
      → from_entries {R = nat_cmp} new ≡ insert (from_entries {R = nat_cmp} old) k v
  put_at k v old new h =
      same_map nat_cmp_total nat_cmp-IsAntisymmetric _ _
      (λ q. sym (at_number q new) ∙ h q ∙ ap (λ b. cond b (Some v) (lookup (nat_eq q) old)) (turned k q)
      ∙ ap (cond (eq_by_cmp nat_cmp q k) (Some v)) (at_number q old) ∙ sym (get-insert nat_cmp_total (from_entries {R = nat_cmp} old) k v q))

  pub taken_at : (k : ℕ) (old new : List (ℕ × X)) → ((q : ℕ) → lookup (nat_eq q) new ≡ cond (nat_eq k q) None (lookup (nat_eq q) old))
      → from_entries {R = nat_cmp} new ≡ remove (from_entries {R = nat_cmp} old) k
  taken_at k old new h =
      same_map nat_cmp_total nat_cmp-IsAntisymmetric _ _
      (λ q. sym (at_number q new) ∙ h q ∙ ap (λ b. cond b None (lookup (nat_eq q) old)) (turned k q)
      ∙ ap (cond (eq_by_cmp nat_cmp q k) None) (at_number q old) ∙ sym (get-remove nat_cmp_total (from_entries {R = nat_cmp} old) k q))

  pub wrote : (k : ℕ) (c c' : X) (old new : List (ℕ × X)) → lookup (nat_eq k) old ≡ Some c
      → ((q : ℕ) → lookup (nat_eq q) new ≡ cond (nat_eq k q) (Some c') (lookup (nat_eq q) old))
      → (get (from_entries {R = nat_cmp} old) k ≡ Some c) × (from_entries {R = nat_cmp} new ≡ insert (from_entries {R = nat_cmp} old) k c')
  wrote k c c' old new at h = (sym (at_number k old) ∙ at, put_at k c' old new h)

  picked : (b : Bool) (o r : Option X) → (b ≡ true → r ≡ o) → cond b o r ≡ r
  picked true o r h = sym (h refl)
  picked false o r h = refl

  -- what stands there is put again
  pub put_again : (m : FinMap nat_cmp X) (k : ℕ) (c : X) → get m k ≡ Some c → insert m k c ≡ m
  put_again m k c at =
      same_map nat_cmp_total nat_cmp-IsAntisymmetric _ _
      (λ q. get-insert nat_cmp_total m k c q ∙ picked (eq_by_cmp nat_cmp q k) (Some c) (get m q)
      (λ same. ap (get m) (eqb→eq q k (subst T (sym (unsigned_ties q k ∙ same)) tt)) ∙ at))

  -- no entries, the empty map
  pub empty_by : (es : List (ℕ × X)) → length es ≡ 0 → from_entries {R = nat_cmp} es ≡ empty
  empty_by [] e = refl
  empty_by (x ∷ es) e = absurd (omega (arith, e))

  pub none_by : (es : List (ℕ × X)) → from_entries {R = nat_cmp} es ≡ empty → length es ≡ 0
  none_by [] e = refl
  none_by (x ∷ es) e =
      let here : get (insert (from_entries {R = nat_cmp} es) x.0 x.1) x.0 ≡ Some x.1 =
      get-insert nat_cmp_total (from_entries es) x.0 x.1 x.0 ∙ ap (λ b. cond b (Some x.1) (get (from_entries {R = nat_cmp} es) x.0)) ((eq_by_cmp_equiv nat_cmp_total).refl x.0) in
      absurd (none_some x.1 (sym (get-empty nat_cmp x.0) ∙ ap (λ (m : FinMap nat_cmp X). get m x.0) (sym e) ∙ here))

  here : (e : ℕ × X) (es : List (ℕ × X)) → get (from_entries {R = nat_cmp} (e ∷ es)) e.0 ≡ Some e.1
  here e es = get-insert nat_cmp_total (from_entries es) e.0 e.1 e.0 ∙ ap (λ b. cond b (Some e.1) (get (from_entries {R = nat_cmp} es) e.0)) ((eq_by_cmp_equiv nat_cmp_total).refl e.0)

  -- the first of the numbers, where there is one, has a value
  pub first_there : (entries : List (ℕ × X)) (numbers rest : List ℕ) (given : Option (Bor ℕ)) → numbers ≡ keys_of entries
      → MatchOption given ((numbers ≡ []) × (rest ≡ [])) (λ k. numbers ≡ k.now ∷ rest)
      → MatchOption (option_copied given) (entries ≡ []) (λ number. (x : X) × (get (from_entries {R = nat_cmp} entries) number ≡ Some x))
  first_there [] numbers rest None are none = refl
  first_there (e ∷ es) numbers rest None are none = absurd (omega (arith, ap length (sym are ∙ none.0)))
  first_there [] numbers rest (Some k) are there = absurd (omega (arith, ap length (sym are ∙ there)))
  first_there (e ∷ es) numbers rest (Some k) are there =
      let first : e.0 ≡ k.now = ap (head_or 0) (sym are ∙ there) in
      (e.1, subst (λ n. get (from_entries {R = nat_cmp} (e ∷ es)) n ≡ Some e.1) first (here e es))

  value_or : X → Option X → X
  value_or other None = other
  value_or other (Some x) = x

  pair_value : X → Option (ℕ × X) → X
  pair_value other None = other
  pair_value other (Some e) = e.1

  -- none is there where no value is
  pub none_at : (es : List (ℕ × X)) (i : ℕ) → slice_get (values_of es) i ≡ None → slice_get es i ≡ None
  none_at [] i at = refl
  none_at (e ∷ es) zero at = absurd (none_some e.1 (sym at))
  none_at (e ∷ es) (suc i) at = none_at es i at

  -- the number of the client at a place
  number_at : (es : List (ℕ × X)) (i : ℕ) (c : X) → slice_get (values_of es) i ≡ Some c → (k : ℕ) × (slice_get es i ≡ Some (k, c))
  unfolding value_or
  number_at [] i c at = absurd (none_some c at)
  number_at (e ∷ es) zero c at = (e.0, λ j. Some (e.0, ap (value_or c) at j))
  number_at (e ∷ es) (suc i) c at = number_at es i c at

  same_again : (es : List (ℕ × X)) (i k : ℕ) (c : X) → slice_get es i ≡ Some (k, c) → set_value_at es i c ≡ es
  unfolding pair_value
  same_again [] i k c at = refl
  same_again (e ∷ es) zero k c at = λ j. (e.0, ap (pair_value c) (sym at) j) ∷ es
  same_again (e ∷ es) (suc i) k c at = ap (λ l. e ∷ l) (same_again es i k c at)

  module _ {S : Type 0} (m : IndexMap ℕ X S) (i : ℕ) (c c' : X) where
    -- what is written at a place is put at its number
    pub wrote_at : slice_get (values m) i ≡ Some c → IsUnique nat_eq m
        → (k : ℕ) × (get (from_entries {R = nat_cmp} m.entries) k ≡ Some c) × (from_entries {R = nat_cmp} (set_value_at m.entries i c') ≡ insert (from_entries {R = nat_cmp} m.entries) k c')
        × (slice_get m.entries i ≡ Some (k, c))
    wrote_at at unique =
        let place = number_at m.entries i c at in
        let k = place.0 in
        let there = updates-with_value_at m i c nat_eq_equiv unique k c place.1 in
        let new = updates-with_value_at m i c' nat_eq_equiv unique k c place.1 in (
          k,
          sym (at_number k m.entries) ∙ ap (lookup (nat_eq k)) (sym (same_again m.entries i k c place.1)) ∙ there.1,
          put_at k c' m.entries (set_value_at m.entries i c') new.0,
          place.1,
        )
