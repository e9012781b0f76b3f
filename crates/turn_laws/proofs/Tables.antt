-- Tables by numbers.
use Rattle.std.proofs.Common.{eqb→eq, ◌≡◌, ◌≢◌, ◌⊎◌, inl, inr, ⊎_elim, ℕ, ◌==◌, Bool, true, false, Some, refl, sym, ap, ◌∙◌, subst, arith}
use Rattle.std.specs.Prelude.{T, cond}
use Rattle.std.specs.FinMap.{FinMap, get, insert, get-insert}
use Rattle.std.specs.Ordering.{nat_cmp, eq_by_cmp}
use Rattle.std.specs.Cmp.{nat_cmp_total, unsigned_ties}
use Rattle.std.proofs.lemmas.Bool.Decides.{eqb_tells, nat_tests}

pub same_number : (n : ℕ) → (n == n) ≡ true
same_number n = grind (arith, nat_tests)

pub nat_eq_by : (q k : ℕ) → eq_by_cmp nat_cmp q k ≡ true → q ≡ k
nat_eq_by q k same = eqb→eq q k (subst T (sym (unsigned_ties q k ∙ same)) tt)

-- the table with one in its place
pub put-same : {X : Type 0} (m : FinMap nat_cmp X) (k : ℕ) (x : X) → get (insert m k x) k ≡ Some x
put-same m k x = get-insert nat_cmp_total m k x k ∙ ap (λ b. cond b (Some x) (get m k)) (sym (unsigned_ties k k) ∙ same_number k)

pub put-other : {X : Type 0} (m : FinMap nat_cmp X) (k q : ℕ) (x : X) → q ≢ k → get (insert m k x) q ≡ get m q
put-other m k q x ne = go (eq_by_cmp nat_cmp q k) refl
  where
    go : (b : Bool) → eq_by_cmp nat_cmp q k ≡ b → get (insert m k x) q ≡ get m q
    go true e = absurd (ne (nat_eq_by q k e))
    go false e = get-insert nat_cmp_total m k x q ∙ ap (λ b. cond b (Some x) (get m q)) e

-- what stands in such a table
pub put-apart : {X : Type 0} (m : FinMap nat_cmp X) (k : ℕ) (x : X) (q : ℕ) (t : X) → get (insert m k x) q ≡ Some t → ((q ≡ k) × (t ≡ x)) ⊎ ((q ≢ k) × (get m q ≡ Some t))
put-apart {X} m k x q t e = ⊎_elim
    (λ (z : ((q == k) ≡ true) × (q ≡ k)). inl (z.1, (let one : Some t ≡ Some x = sym e ∙ ap (get (insert m k x)) z.1 ∙ put-same m k x in cc)))
    (λ (z : ((q == k) ≡ false) × (q ≢ k)). inr (z.1, sym (put-other m k q x z.1) ∙ e))
    (eqb_tells q k)
