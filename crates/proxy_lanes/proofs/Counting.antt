-- The exchange of the count by the next one keeps the rule of the history.
use Rattle.std.proofs.Common.{◌≡◌, ℕ, ◌+◌, ◌<◌, ◌==◌, Bool, true, false, List, [], ◌∷◌, ◌++◌, length, refl, ap, sym, subst, arith, inl, length-append, append-nil, None}
use Rattle.std.proofs.lemmas.Bool.Decides.{nat_tests}
use mathlib.Core.List.{IsPrefix}
use prog.Atomic.{either}
use Rattle.logbook.specs.Pages.{cell, View, no_nib, keeps, step, Moves, Goes}
use Rattle.slot_map.specs.declared.ops.MapOp.{MapOp}
use Rattle.proxy_lanes.specs.History.{IsCounted, Adds}
use Rattle.proxy_lanes.proofs.Beginnings.{begins_whole}

abbrev pub shown : List MapOp → List MapOp
shown log = []

abbrev pub moved : List MapOp → List MapOp → ℕ → Type 0
moved xs ys n = Unit {0}

-- what a client that trades nothing has before the step
abbrev pub bare : List MapOp → View MapOp ℕ
bare known = (known, (no_nib, None))

module _ (known : List MapOp) (operation : MapOp) where
  abbrev pub next_count : ℕ → ℕ
  next_count n = either (n == length known) (length known + 1) n

  abbrev pub Told : ℕ → View MapOp ℕ → Type 0
  Told = Adds (step 0 (length known) (length known + 1) operation) (bare known)

  goes : (log : List MapOp) → IsPrefix known log → (same : Bool) → (length log == length known) ≡ same
      → Goes IsCounted shown moved 0 (bare known) next_count Told ((length log, true) ∷ (0, true) ∷ []) log
  goes log begins true is =
      let whole : known ≡ log = begins_whole known log begins (grind (arith, nat_tests)) in
      let count : next_count (length log) ≡ length (log ++ operation ∷ []) = rw is (omega (arith, ap length whole, length-append log (operation ∷ []))) in
      (keeps, operation ∷ [], None, tt, ap (λ n. (n, true) ∷ (0, true) ∷ []) count, inl (refl, refl), rw is (ap (λ xs. xs ++ operation ∷ []) (sym whole)))
  goes log begins false is =
      let count : next_count (length log) ≡ length (log ++ []) = rw is (sym (ap length (append-nil log))) in
      (keeps, [], None, tt, ap (λ n. (n, true) ∷ (0, true) ∷ []) count, inl (refl, refl), rw is (ap length (append-nil log)))

  -- whatever the history is, the exchange adds the operation to all that was seen, or finds another length
  pub counts_on : Moves IsCounted shown moved 0 (bare known) next_count Told
  counts_on cells log counted begins away =
      subst (λ cs. (0 < length cs) × ((cell cs 0).1 ≡ true) × Goes IsCounted shown moved 0 (bare known) next_count Told cs log) (sym counted) (omega arith, refl, goes log begins (length log == length known) refl)
