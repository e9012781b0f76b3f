-- The history of all: its moments, and what shares one.
use Rattle.std.proofs.Common.{◌≡◌, ◌⊎◌, inl, inr, ⊎_elim, ℕ, zero, suc, ◌+◌, ◌<◌, ◌≤◌, List, [], ◌∷◌, ◌++◌, length, arith}
use Rattle.std.proofs.lemmas.Option.{slice_get_within}
use Rattle.node_model.specs.History.{EntryModel}
use Rattle.world_laws.specs.Headline.{At}
use Rattle.world_laws.proofs.Recorded.{GoTogether}
use Rattle.shared_laws.proofs.Mine.{is_ours}

-- of one run: one client's for one slot, all ours or all theirs
abbrev pub IsAlike : ℕ → EntryModel → EntryModel → Type 0
IsAlike n e f = GoTogether e f × (is_ours n e.ticket ≡ is_ours n f.ticket)

pub record Chronicle (n m : ℕ) (hs : List EntryModel) : Type 0 where
  pub past : (k : ℕ) (e : EntryModel) → At hs k e → e.moment ≤ m
  pub timed : (k l : ℕ) (e f : EntryModel) → At hs k e → At hs l f → k < l → e.moment ≤ f.moment
  pub together : (k l : ℕ) (e f : EntryModel) → At hs k e → At hs l f → e.moment ≡ f.moment → IsAlike n e f

at-joins : {X : Type 0} (xs ys : List X) (k : ℕ) (x : X) → At (xs ++ ys) k x → At xs k x ⊎ ((j : ℕ) × (k ≡ length xs + j) × At ys j x)
at-joins [] ys k x e = inr (k, omega arith, e)
at-joins (z ∷ xs) ys zero x e = inl e
at-joins {X} (z ∷ xs) ys (suc k) x e = ⊎_elim (λ (h : At xs k x). inl h) (λ (h : (j : ℕ) × (k ≡ length xs + j) × At ys j x). inr (h.0, omega (arith, h.1), h.2)) (at-joins xs ys k x e)

-- entries of one run, made now, are added behind
pub lengthened : (n m : ℕ) (hs es : List EntryModel) → ((k : ℕ) (e : EntryModel) → At es k e → e.moment ≡ suc m) → ((k l : ℕ) (e f : EntryModel) → At es k e → At es l f → IsAlike n e f)
    → Chronicle n m hs → Chronicle n (suc m) (hs ++ es)
lengthened n m hs es now alike h = record {
  past = λ k e p. ⊎_elim (λ (x : At hs k e). omega (arith, h.past k e x)) (λ (x : (j : ℕ) × (k ≡ length hs + j) × At es j e). omega (arith, now x.0 e x.2)) (at-joins hs es k e p);
  timed = λ k l e f p q lt. in_time k l e f lt (at-joins hs es k e p) (at-joins hs es l f q);
  together = λ k l e f p q same. at_once k l e f same (at-joins hs es k e p) (at-joins hs es l f q);
}
  where
    in_time : (k l : ℕ) (e f : EntryModel) → k < l → At hs k e ⊎ ((j : ℕ) × (k ≡ length hs + j) × At es j e) → At hs l f ⊎ ((j : ℕ) × (l ≡ length hs + j) × At es j f) → e.moment ≤ f.moment
    in_time k l e f lt (inl x) (inl y) = h.timed k l e f x y lt
    in_time k l e f lt (inl x) (inr y) = omega (arith, h.past k e x, now y.0 f y.2)
    in_time k l e f lt (inr x) (inl y) = let len : l < length hs = slice_get_within hs l f y in absurd (omega (arith, x.1))
    in_time k l e f lt (inr x) (inr y) = omega (arith, now x.0 e x.2, now y.0 f y.2)

    at_once : (k l : ℕ) (e f : EntryModel) → e.moment ≡ f.moment → At hs k e ⊎ ((j : ℕ) × (k ≡ length hs + j) × At es j e) → At hs l f ⊎ ((j : ℕ) × (l ≡ length hs + j) × At es j f) → IsAlike n e f
    at_once k l e f same (inl x) (inl y) = h.together k l e f x y same
    at_once k l e f same (inl x) (inr y) = absurd (omega (arith, same, h.past k e x, now y.0 f y.2))
    at_once k l e f same (inr x) (inl y) = absurd (omega (arith, same, h.past l f y, now x.0 e x.2))
    at_once k l e f same (inr x) (inr y) = alike x.0 y.0 e f x.2 y.2

-- time goes on
pub lasted : (n m : ℕ) (hs : List EntryModel) → Chronicle n m hs → Chronicle n (suc m) hs
lasted n m hs h = record { past = λ k e p. omega (arith, h.past k e p); timed = h.timed; together = h.together }
