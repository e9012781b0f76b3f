-- What rows say of a list, and how they change with it.
use Rattle.std.proofs.Common.{◌≡◌, ◌≢◌, ◌⊎◌, ◌↔◌, inl, inr, ℕ, zero, suc, ◌+◌, ◌<◌, ◌≤◌, Bool, true, false, List, [], ◌∷◌, ◌++◌, length, Some, refl, sym, ap, ◌∙◌, subst, arith}
use Rattle.std.proofs.lemmas.Bool.{cases_lt}
use Rattle.std.specs.Prelude.{if◌then◌else◌, slice_get, slice_set, count_by}
use Rattle.std.proofs.lemmas.List.Sums.{sum_by-cons}
use Rattle.std.proofs.lemmas.Option.{slice_get_within}
use Rattle.cluster_world.specs.declared.rows.Row.{Row}
use Rattle.cluster_world.specs.Rows.{rank, no_row, one_more, one_over, IsRow, IsRowSoFar}

-- what stands in a list after one was set, or put behind the others

pub at-set : {X : Type 0} (xs : List X) (i j : ℕ) (y z : X) → slice_get (slice_set xs i y) j ≡ Some z → ((j ≡ i) × (z ≡ y)) ⊎ ((j ≢ i) × (slice_get xs j ≡ Some z))
at-set [] i j y z at = cc
at-set (h ∷ xs) zero zero y z at = inl (refl, (let e : Some y ≡ Some z = at in cc))
at-set (h ∷ xs) zero (suc j) y z at = inr (λ same. omega (arith, same), at)
at-set (h ∷ xs) (suc i) zero y z at = inr (λ same. omega (arith, same), at)
at-set (h ∷ xs) (suc i) (suc j) y z at = elim (at-set xs i j y z at) [ inl here ↦ inl (ap suc here.0, here.1) | inr there ↦ inr (λ same. there.0 (omega (arith, same)), there.1) ]

pub at-end : {X : Type 0} (xs : List X) (j : ℕ) (y z : X) → slice_get (xs ++ y ∷ []) j ≡ Some z → ((j ≡ length xs) × (z ≡ y)) ⊎ ((j < length xs) × (slice_get xs j ≡ Some z))
at-end [] zero y z at = inl (refl, (let e : Some y ≡ Some z = at in cc))
at-end [] (suc j) y z at = cc
at-end (h ∷ xs) zero y z at = inr (omega arith, at)
at-end (h ∷ xs) (suc j) y z at = elim (at-end xs j y z at) [ inl here ↦ inl (omega (arith, here.0), here.1) | inr there ↦ inr (omega (arith, there.0), there.1) ]

pub front-stays : {X : Type 0} (xs : List X) (j : ℕ) (y z : X) → slice_get xs j ≡ Some z → slice_get (xs ++ y ∷ []) j ≡ Some z
front-stays [] j y z at = cc
front-stays (h ∷ xs) zero y z at = at
front-stays (h ∷ xs) (suc j) y z at = front-stays xs j y z at

pub end-is : {X : Type 0} (xs : List X) (y : X) → slice_get (xs ++ y ∷ []) (length xs) ≡ Some y
end-is [] y = refl
end-is (h ∷ xs) y = end-is xs y

pub others-stay : {X : Type 0} (xs : List X) (i j : ℕ) (y z : X) → j ≢ i → slice_get xs j ≡ Some z → slice_get (slice_set xs i y) j ≡ Some z
others-stay [] i j y z apart at = cc
others-stay (h ∷ xs) zero zero y z apart at = absurd (apart refl)
others-stay (h ∷ xs) zero (suc j) y z apart at = at
others-stay (h ∷ xs) (suc i) zero y z apart at = at
others-stay (h ∷ xs) (suc i) (suc j) y z apart at = others-stay xs i j y z (λ same. apart (ap suc same)) at

pub set-is : {X : Type 0} (xs : List X) (i : ℕ) (x y : X) → slice_get xs i ≡ Some x → slice_get (slice_set xs i y) i ≡ Some y
set-is [] i x y at = cc
set-is (h ∷ xs) zero x y at = refl
set-is (h ∷ xs) (suc i) x y at = set-is xs i x y at

pub set-length : {X : Type 0} (xs : List X) (i : ℕ) (y : X) → length (slice_set xs i y) ≡ length xs
set-length [] i y = refl
set-length (h ∷ xs) zero y = refl
set-length (h ∷ xs) (suc i) y = ap suc (set-length xs i y)

pub end-length : {X : Type 0} (xs : List X) (y : X) → length (xs ++ y ∷ []) ≡ suc (length xs)
end-length [] y = refl
end-length (h ∷ xs) y = ap suc (end-length xs y)

pub which : (i j : ℕ) → (i ≡ j) ⊎ (i ≢ j)
which i j = elim (cases_lt i j) [
  | inl lt ↦ inr (λ same. omega (arith, lt, same))
  | inr le ↦ elim (cases_lt j i) [ inl lt ↦ inr (λ same. omega (arith, lt, same)) | inr le' ↦ inl (omega (arith, le, le')) ]
]

module _ {X : Type 0} (p : X → Bool) where
  pub rank-start : (xs : List X) → rank p xs 0 ≡ 0
  rank-start [] = refl
  rank-start (x ∷ xs) = refl

  pub rank-up : (xs : List X) (j i : ℕ) → j ≤ i → rank p xs j ≤ rank p xs i
  rank-up [] j i le = omega arith
  rank-up (x ∷ xs) zero i le = omega arith
  rank-up (x ∷ xs) (suc j) zero le = absurd (omega (arith, le))
  rank-up (x ∷ xs) (suc j) (suc i) le = omega (arith, rank-up xs j i (omega (arith, le)))

  step : (b : Bool) (m n : ℕ) → b ≡ true → m ≤ n → m < (if b then 1 else 0) + n
  step true m n e le = omega (arith, le)
  step false m n e le = absurd (cc)

  pub rank-less : (xs : List X) (j i : ℕ) (x : X) → slice_get xs j ≡ Some x → p x ≡ true → j < i → rank p xs j < rank p xs i
  rank-less [] j i x at is lt = cc
  rank-less (y ∷ xs) j zero x at is lt = absurd (omega (arith, lt))
  rank-less (y ∷ xs) zero (suc i) x at is lt =
      let same : y ≡ x = cc in
      step (p y) 0 (rank p xs i) (ap p same ∙ is) (omega arith)
  rank-less (y ∷ xs) (suc j) (suc i) x at is lt = omega (arith, rank-less xs j i x at is (omega (arith, lt)))

  -- the one of that rank
  pub record Ranked (xs : List X) (i n : ℕ) : Type 0 where
    pub place : ℕ
    pub item : X
    pub below : place < i
    pub there : slice_get xs place ≡ Some item
    pub kind : p item ≡ true
    pub ranks : rank p xs place ≡ n

  later : (x : X) (xs : List X) (i n m : ℕ) → (if p x then 1 else 0) + m ≡ n → Ranked xs i m → Ranked (x ∷ xs) (suc i) n
  later x xs i n m sum r = record { place = suc r.place; item = r.item; below = omega (arith, r.below); there = r.there; kind = r.kind; ranks = omega (arith, r.ranks, sum) }

  nth-in : (x : X) (xs : List X) (i : ℕ) → ((n : ℕ) → n < rank p xs i → Ranked xs i n) → (b : Bool) → p x ≡ b → (n : ℕ) → n < (if p x then 1 else 0) + rank p xs i → Ranked (x ∷ xs) (suc i) n
  nth-in x xs i rest true is zero lt = record { place = 0; item = x; below = omega arith; there = refl; kind = is; ranks = refl }
  nth-in x xs i rest true is (suc n) lt =
      let one : (if p x then 1 else 0) ≡ 1 = ap {B = ℕ} (λ b. if b then 1 else 0) is in
      later x xs i (suc n) n (omega (arith, one)) (rest n (omega (arith, one, lt)))
  nth-in x xs i rest false is n lt =
      let none : (if p x then 1 else 0) ≡ 0 = ap {B = ℕ} (λ b. if b then 1 else 0) is in
      later x xs i n n (omega (arith, none)) (rest n (omega (arith, none, lt)))

  pub rank-nth : (xs : List X) (i n : ℕ) → n < rank p xs i → Ranked xs i n
  rank-nth [] i n lt = absurd (omega (arith, lt))
  rank-nth (x ∷ xs) zero n lt = absurd (omega (arith, lt))
  rank-nth (x ∷ xs) (suc i) n lt = nth-in x xs i (rank-nth xs i) (p x) refl n lt

  pub rank-front : (xs : List X) (i : ℕ) (y : X) → i ≤ length xs → rank p (xs ++ y ∷ []) i ≡ rank p xs i
  rank-front [] zero y le = refl
  rank-front [] (suc i) y le = absurd (omega (arith, le))
  rank-front (x ∷ xs) zero y le = refl
  rank-front (x ∷ xs) (suc i) y le = ap (λ n. (if p x then 1 else 0) + n) (rank-front xs i y (omega (arith, le)))

  pub rank-end : (xs : List X) (y : X) → rank p (xs ++ y ∷ []) (suc (length xs)) ≡ rank p xs (length xs) + (if p y then 1 else 0)
  rank-end [] y = omega arith
  rank-end (x ∷ xs) y = omega (arith, rank-end xs y)

  pub rank-set : (xs : List X) (i j : ℕ) (x y : X) → slice_get xs i ≡ Some x → p y ≡ p x → rank p (slice_set xs i y) j ≡ rank p xs j
  rank-set [] i j x y at same = cc
  rank-set (z ∷ xs) zero zero x y at same = refl
  rank-set (z ∷ xs) (suc i) zero x y at same = refl
  rank-set (z ∷ xs) zero (suc j) x y at same =
      let is : z ≡ x = cc in
      ap (λ b. (if b then 1 else 0) + rank p xs j) (same ∙ ap p (sym is))
  rank-set (z ∷ xs) (suc i) (suc j) x y at same = ap (λ n. (if p z then 1 else 0) + n) (rank-set xs i j x y at same)

  pub rank-one : (xs : List X) (i j : ℕ) (x y : X) → slice_get xs i ≡ Some x → slice_get xs j ≡ Some y → p x ≡ true → p y ≡ true → rank p xs i ≡ rank p xs j → i ≡ j
  rank-one xs i j x y ati atj px py same = elim (cases_lt i j) [
    | inl lt ↦ absurd (omega (arith, same, rank-less xs i j x ati px lt))
    | inr le ↦ elim (cases_lt j i) [ inl lt ↦ absurd (omega (arith, same, rank-less xs j i y atj py lt)) | inr le' ↦ omega (arith, le, le') ]
  ]

  pub rank-all : (xs : List X) → rank p xs (length xs) ≡ count_by p xs
  rank-all [] = refl
  rank-all (x ∷ xs) = ap (λ n. (if p x then 1 else 0) + n) (rank-all xs) ∙ sym (sum_by-cons (λ y. if p y then 1 else 0) x xs)

  more-fits : (b : Bool) (m n : ℕ) → m ≤ n → (if b then 1 else 0) + m ≤ suc n
  more-fits true m n le = omega (arith, le)
  more-fits false m n le = omega (arith, le)

  pub rank-fits : (xs : List X) (i : ℕ) → rank p xs i ≤ length xs
  rank-fits [] i = omega arith
  rank-fits (x ∷ xs) zero = omega arith
  rank-fits (x ∷ xs) (suc i) = more-fits (p x) (rank p xs i) (length xs) (rank-fits xs i)

  module _ (Over : X → Type 0) where
    pub row-start : IsRow p Over [] no_row
    row-start = record { counted = refl; within = omega arith; over = λ i x at is. absurd (cc) }

    -- one that is not over comes
    pub row-end : (xs : List X) (y : X) (r : Row) → (Over y → ⊥) → IsRow p Over xs r → IsRow p Over (xs ++ y ∷ []) (if p y then one_more r else r)
    row-end xs y r not-over row = go (p y) refl
      where
        still : (i : ℕ) (x : X) → r.over ≤ rank p xs (length xs) → slice_get (xs ++ y ∷ []) i ≡ Some x → p x ≡ true → Over x ↔ (rank p (xs ++ y ∷ []) i < r.over)
        still i x within at is = elim (at-end xs i y x at) [
          | inl here ↦ (
            λ o. absurd (not-over (subst Over here.1 o)),
            λ lt. absurd (let same : rank p (xs ++ y ∷ []) i ≡ rank p xs (length xs) = ap (rank p (xs ++ y ∷ [])) here.0 ∙ rank-front xs (length xs) y (omega arith) in omega (arith, lt, same, within)),
          )
          | inr there ↦
              let same : rank p (xs ++ y ∷ []) i ≡ rank p xs i = rank-front xs i y (omega (arith, there.0)) in
              subst (λ n. Over x ↔ (n < r.over)) (sym same) (row.over i x there.1 is)
        ]

        go : (b : Bool) → p y ≡ b → IsRow p Over (xs ++ y ∷ []) (if b then one_more r else r)
        go true is =
            let counted : r.count + 1 ≡ rank p (xs ++ y ∷ []) (length (xs ++ y ∷ [])) =
            omega (arith, row.counted, ap (rank p (xs ++ y ∷ [])) (end-length xs y), rank-end xs y, ap {B = ℕ} (λ b. if b then 1 else 0) is) in
            record { counted = counted; within = omega (arith, row.within); over = λ i x. still i x (omega (arith, row.within, row.counted)) }
        go false is =
            let counted : r.count ≡ rank p (xs ++ y ∷ []) (length (xs ++ y ∷ [])) =
            omega (arith, row.counted, ap (rank p (xs ++ y ∷ [])) (end-length xs y), rank-end xs y, ap {B = ℕ} (λ b. if b then 1 else 0) is) in
            record { counted = counted; within = row.within; over = λ i x. still i x (omega (arith, row.within, row.counted)) }

    module _ (xs : List X) (i : ℕ) (x y : X) (at : slice_get xs i ≡ Some x) (same : p y ≡ p x) where
      counted-set : (r : Row) → IsRow p Over xs r → r.count ≡ rank p (slice_set xs i y) (length (slice_set xs i y))
      counted-set r row = row.counted ∙ sym (rank-set xs i (length xs) x y at same) ∙ ap (rank p (slice_set xs i y)) (sym (set-length xs i y))

      -- one changes, and is over as before
      pub row-set : (r : Row) → (p x ≡ true → Over y ↔ Over x) → IsRow p Over xs r → IsRow p Over (slice_set xs i y) r
      row-set r so row = record {
        counted = counted-set r row;
        within = row.within;
        over = λ j z there is. subst (λ n. Over z ↔ (n < r.over)) (sym (rank-set xs i j x y at same)) (elim (at-set xs i j y z there) [
          | inl here ↦
              let mine : p x ≡ true = sym same ∙ ap p (sym here.1) ∙ is in
              let was = row.over i x at mine in
              let now = so mine in (
                λ o. subst (λ k. rank p xs k < r.over) (sym here.0) (was.0 (now.0 (subst Over here.1 o))),
                λ lt. subst Over (sym here.1) (now.1 (was.1 (subst (λ k. rank p xs k < r.over) here.0 lt))),
              )
          | inr other ↦ row.over j z other.1 is
        ]);
      }

      -- the next is over
      pub row-over : (r : Row) → p x ≡ true → rank p xs i ≡ r.over → Over y → IsRow p Over xs r → IsRow p Over (slice_set xs i y) (one_over r)
      row-over r mine next now row = record {
        counted = counted-set r row;
        within = omega (arith, next, row.counted, rank-less xs i (length xs) x at mine (slice_get_within xs i x at));
        over = λ j z there is. subst (λ n. Over z ↔ (n < r.over + 1)) (sym (rank-set xs i j x y at same)) (elim (at-set xs i j y z there) [
          | inl here ↦ (
            λ o. omega (arith, next, ap (rank p xs) here.0),
            λ lt. subst Over (sym here.1) now,
          )
          | inr other ↦
              let was = row.over j z other.1 is in (
                λ o. omega (arith, was.0 o),
                λ lt. was.1 (elim (cases_lt (rank p xs j) r.over) [
                  | inl less ↦ less
                  | inr le ↦ absurd (other.0 (rank-one xs j i z x other.1 at is mine (omega (arith, le, lt, next))))
                ]),
              )
        ]);
      }

    -- those before it are over exactly where that number is
    pub come : (xs : List X) (i : ℕ) (r : Row) → IsRow p Over xs r → ((j : ℕ) (y : X) → j < i → slice_get xs j ≡ Some y → p y ≡ true → Over y) ↔ (rank p xs i ≤ r.over)
    come xs i r row = (
      λ all. elim (cases_lt r.over (rank p xs i)) [
        | inl lt ↦
            let next = rank-nth xs i r.over lt in
            absurd (omega (arith, next.ranks, (row.over next.place next.item next.there next.kind).0 (all next.place next.item next.below next.there next.kind)))
        | inr le ↦ le
      ],
      λ le j y lt at is. (row.over j y at is).1 (omega (arith, le, rank-less xs j i y at is lt)),
    )

    -- rows of which the first are over, and others may be

    pub so-far-start : IsRowSoFar p Over [] no_row
    so-far-start = record { counted = refl; within = omega arith; over = λ i x at is lt. absurd (cc) }

    pub so-far-end : (xs : List X) (y : X) (r : Row) → IsRowSoFar p Over xs r → IsRowSoFar p Over (xs ++ y ∷ []) (if p y then one_more r else r)
    so-far-end xs y r row = go (p y) refl
      where
        still : (i : ℕ) (x : X) → slice_get (xs ++ y ∷ []) i ≡ Some x → p x ≡ true → rank p (xs ++ y ∷ []) i < r.over → Over x
        still i x at is lt = elim (at-end xs i y x at) [
          | inl here ↦ absurd (omega (arith, lt, row.within, row.counted, ap (rank p (xs ++ y ∷ [])) here.0, rank-front xs (length xs) y (omega arith)))
          | inr there ↦ row.over i x there.1 is (omega (arith, lt, rank-front xs i y (omega (arith, there.0))))
        ]

        go : (b : Bool) → p y ≡ b → IsRowSoFar p Over (xs ++ y ∷ []) (if b then one_more r else r)
        go true is =
            let counted : r.count + 1 ≡ rank p (xs ++ y ∷ []) (length (xs ++ y ∷ [])) =
            omega (arith, row.counted, ap (rank p (xs ++ y ∷ [])) (end-length xs y), rank-end xs y, ap {B = ℕ} (λ b. if b then 1 else 0) is) in
            record { counted = counted; within = omega (arith, row.within); over = still }
        go false is =
            let counted : r.count ≡ rank p (xs ++ y ∷ []) (length (xs ++ y ∷ [])) =
            omega (arith, row.counted, ap (rank p (xs ++ y ∷ [])) (end-length xs y), rank-end xs y, ap {B = ℕ} (λ b. if b then 1 else 0) is) in
            record { counted = counted; within = row.within; over = still }

    module _ (xs : List X) (i : ℕ) (x y : X) (at : slice_get xs i ≡ Some x) (same : p y ≡ p x) where
      so-far-counted : (r : Row) → IsRowSoFar p Over xs r → r.count ≡ rank p (slice_set xs i y) (length (slice_set xs i y))
      so-far-counted r row = row.counted ∙ sym (rank-set xs i (length xs) x y at same) ∙ ap (rank p (slice_set xs i y)) (sym (set-length xs i y))

      -- one changes, and is over where it was
      pub so-far-set : (r : Row) → (p x ≡ true → Over x → Over y) → IsRowSoFar p Over xs r → IsRowSoFar p Over (slice_set xs i y) r
      so-far-set r so row = record {
        counted = so-far-counted r row;
        within = row.within;
        over = λ j z there is lt. elim (at-set xs i j y z there) [
          | inl here ↦
              let mine : p x ≡ true = sym same ∙ ap p (sym here.1) ∙ is in
              let lt' : rank p xs i < r.over = omega (arith, lt, rank-set xs i j x y at same, ap (rank p xs) here.0) in
              subst Over (sym here.1) (so mine (row.over i x at mine lt'))
          | inr other ↦ row.over j z other.1 is (omega (arith, lt, rank-set xs i j x y at same))
        ];
      }

      -- the next is over
      pub so-far-over : (r : Row) → p x ≡ true → rank p xs i ≡ r.over → Over y → IsRowSoFar p Over xs r → IsRowSoFar p Over (slice_set xs i y) (one_over r)
      so-far-over r mine next now row = record {
        counted = so-far-counted r row;
        within = omega (arith, next, row.counted, rank-less xs i (length xs) x at mine (slice_get_within xs i x at));
        over = λ j z there is lt. elim (at-set xs i j y z there) [
          | inl here ↦ subst Over (sym here.1) now
          | inr other ↦ elim (cases_lt (rank p xs j) r.over) [
            | inl less ↦ row.over j z other.1 is less
            | inr le ↦ absurd (other.0 (rank-one xs j i z x other.1 at is mine (omega (arith, le, lt, next, rank-set xs i j x y at same))))
          ]
        ];
      }
