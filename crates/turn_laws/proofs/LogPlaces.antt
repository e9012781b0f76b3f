-- Where a mark stands in the log, and where the machine's lists have it.
use Rattle.std.proofs.Common.{◌≡◌, ◌⊎◌, inl, inr, ⊎_elim, ℕ, zero, suc, ◌+◌, List, [], ◌∷◌, ◌++◌, Some, refl, sym, ap, ◌∙◌, subst, arith}
use Rattle.std.specs.Prelude.{map}
use Rattle.key_split.specs.PartModel.{PartModel}
use Rattle.key_split.specs.declared.travel.Ticket.{Ticket}
use Rattle.key_split.specs.declared.travel.Ended.{Ended}
use Rattle.node_model.specs.Store.{StoreModel, store_after}
use Rattle.node_model.specs.History.{EntryModel, IsLegal as IsLegalInWorld, left_by as left_in_world}
use Rattle.world_laws.proofs.Recorded.{before-last}
use Rattle.turn_laws.specs.Wire.{Execution}
use Rattle.turn_laws.specs.System.{Mark, Arrived, Executed, Answered}
use Rattle.turn_laws.specs.Shadow.{entry_at, arrived_in, executed_in, answered_in}
use Rattle.turn_laws.specs.LogHeadline.{At, IsIn, IsExecutedAt, IsLegal, history, left_by}
use Rattle.turn_laws.proofs.Elements.{in-right, nothing-there}

pub at-map : {X Y : Type 0} (f : X → Y) (xs : List X) (k : ℕ) (y : Y) → At (map f xs) k y → (x : X) × At xs k x × (f x ≡ y)
at-map f [] k y at = absurd (nothing-there k y at)
at-map f (x ∷ xs) zero y at = (x, refl, cc)
at-map f (x ∷ xs) (suc k) y at = at-map f xs k y at

pub map-at : {X Y : Type 0} (f : X → Y) (xs : List X) (k : ℕ) (x : X) → At xs k x → At (map f xs) k (f x)
map-at f [] k x at = absurd (nothing-there k x at)
map-at f (z ∷ xs) zero x at = let same : z ≡ x = cc in λ i. Some (f (same i))
map-at f (z ∷ xs) (suc k) x at = map-at f xs k x at

-- ---- one run, and what follows

module _ (m : ℕ) (rest : List Execution) (later : List EntryModel) where
  abbrev entries : List Execution → List EntryModel
  entries run = map (entry_at m) run ++ later

  -- an execution of the run or of what follows
  front : (run : List Execution) (k : ℕ) (e : Execution) → At (run ++ rest) k e
      → (IsIn run e × At (entries run) k (entry_at m e)) ⊎ ((j : ℕ) × At rest j e × ((y : EntryModel) → At later j y → At (entries run) k y))
  front [] k e at = inr (k, at, λ y h. h)
  front (x ∷ run) zero e at = let same : x ≡ e = cc in inl ((0, at), λ i. Some (entry_at m (same i)))
  front (x ∷ run) (suc k) e at = ⊎_elim
      (λ (z : IsIn run e × At (entries run) k (entry_at m e)). inl ((suc z.0.0, z.0.1), z.1))
      (λ (z : (j : ℕ) × At rest j e × ((y : EntryModel) → At later j y → At (entries run) k y)). inr z)
      (front run k e at)

  -- and back
  back : (run : List Execution) (k : ℕ) (y : EntryModel) → At (entries run) k y
      → ((e : Execution) × IsIn run e × At (run ++ rest) k e × (y ≡ entry_at m e)) ⊎ ((j : ℕ) × At later j y × ((e : Execution) → At rest j e → At (run ++ rest) k e))
  back [] k y at = inr (k, at, λ e h. h)
  back (x ∷ run) zero y at = inl (x, (0, refl), refl, cc)
  back (x ∷ run) (suc k) y at = ⊎_elim
      (λ (z : (e : Execution) × IsIn run e × At (run ++ rest) k e × (y ≡ entry_at m e)). inl (z.0, (suc z.1.0, z.1.1), z.2, z.3))
      (λ (z : (j : ℕ) × At later j y × ((e : Execution) → At rest j e → At (run ++ rest) k e)). inr z)
      (back run k y at)

  in-run : (run : List Execution) (e : Execution) → IsIn run e → IsIn (entries run) (entry_at m e)
  in-run run e (k, at) = (k, before-last (map (entry_at m) run) later k (entry_at m e) (map-at (entry_at m) run k e at))

  legal-run : (run : List Execution) (store : StoreModel) → ((left : StoreModel) → IsLegalInWorld left later → IsLegal left rest) → IsLegalInWorld store (entries run) → IsLegal store (run ++ rest)
  legal-run [] store on h = on store h
  legal-run (x ∷ run) store on h = (h.0, legal-run run (store_after store x.part) on h.1)

  left-run : (run : List Execution) (store : StoreModel) → ((left : StoreModel) → left_in_world left later ≡ left_by left rest) → left_in_world store (entries run) ≡ left_by store (run ++ rest)
  left-run [] store on = on store
  left-run (x ∷ run) store on = left-run run (store_after store x.part) on

-- ---- the log

module _ (clock : ℕ → ℕ) where
  -- the clock at a place further on
  on : (n i : ℕ) → clock (suc n + i) ≡ clock (n + suc i)
  on n i = let same : suc n + i ≡ n + suc i = omega arith in ap clock same

  here : (n : ℕ) → clock n ≡ clock (n + 0)
  here n = let same : n ≡ n + 0 = omega arith in ap clock same

  pub arrival-in : (n : ℕ) (log : List Mark) (i : ℕ) (t : Ticket) (p : PartModel) → At log i (Arrived t p) → IsIn (arrived_in clock n log) (t, p, clock (n + i))
  arrival-in n [] i t p at = absurd (nothing-there i (Arrived t p) at)
  arrival-in n (Arrived u q ∷ log) zero t p at =
      let a : u ≡ t = cc in
      let b : q ≡ p = cc in
      (0, λ i. Some (a i, b i, here n i))
  arrival-in n (Arrived u q ∷ log) (suc i) t p at =
      let r = arrival-in (suc n) log i t p at in
      (suc r.0, r.1 ∙ (λ j. Some (t, p, on n i j)))
  arrival-in n (Executed run ∷ log) zero t p at = absurd (cc)
  arrival-in n (Executed run ∷ log) (suc i) t p at =
      let r = arrival-in (suc n) log i t p at in
      (r.0, r.1 ∙ (λ j. Some (t, p, on n i j)))
  arrival-in n (Answered u end ∷ log) zero t p at = absurd (cc)
  arrival-in n (Answered u end ∷ log) (suc i) t p at =
      let r = arrival-in (suc n) log i t p at in
      (r.0, r.1 ∙ (λ j. Some (t, p, on n i j)))

  pub arrival-of : (n : ℕ) (log : List Mark) (j : ℕ) (x : Ticket × PartModel × ℕ) → At (arrived_in clock n log) j x → (i : ℕ) × At log i (Arrived x.0 x.1) × (x.2 ≡ clock (n + i))
  arrival-of n [] j x at = absurd (nothing-there j x at)
  arrival-of n (Arrived u q ∷ log) zero x at =
      let same : (u, q, clock n) ≡ x = cc in
      (0, (λ i. Some (Arrived (same i).0 (same i).1)), sym (λ i. (same i).2) ∙ here n)
  arrival-of n (Arrived u q ∷ log) (suc j) x at = let r = arrival-of (suc n) log j x at in (suc r.0, r.1, r.2 ∙ on n r.0)
  arrival-of n (Executed run ∷ log) j x at = let r = arrival-of (suc n) log j x at in (suc r.0, r.1, r.2 ∙ on n r.0)
  arrival-of n (Answered u end ∷ log) j x at = let r = arrival-of (suc n) log j x at in (suc r.0, r.1, r.2 ∙ on n r.0)

  pub answer-in : (n : ℕ) (log : List Mark) (i : ℕ) (t : Ticket) (end : Ended) → At log i (Answered t end) → IsIn (answered_in clock n log) (t, end, clock (n + i))
  answer-in n [] i t end at = absurd (nothing-there i (Answered t end) at)
  answer-in n (Answered u other ∷ log) zero t end at =
      let a : u ≡ t = cc in
      let b : other ≡ end = cc in
      (0, λ i. Some (a i, b i, here n i))
  answer-in n (Answered u other ∷ log) (suc i) t end at =
      let r = answer-in (suc n) log i t end at in
      (suc r.0, r.1 ∙ (λ j. Some (t, end, on n i j)))
  answer-in n (Executed run ∷ log) zero t end at = absurd (cc)
  answer-in n (Executed run ∷ log) (suc i) t end at =
      let r = answer-in (suc n) log i t end at in
      (r.0, r.1 ∙ (λ j. Some (t, end, on n i j)))
  answer-in n (Arrived u p ∷ log) zero t end at = absurd (cc)
  answer-in n (Arrived u p ∷ log) (suc i) t end at =
      let r = answer-in (suc n) log i t end at in
      (r.0, r.1 ∙ (λ j. Some (t, end, on n i j)))

  pub answer-of : (n : ℕ) (log : List Mark) (j : ℕ) (x : Ticket × Ended × ℕ) → At (answered_in clock n log) j x → (i : ℕ) × At log i (Answered x.0 x.1) × (x.2 ≡ clock (n + i))
  answer-of n [] j x at = absurd (nothing-there j x at)
  answer-of n (Answered u end ∷ log) zero x at =
      let same : (u, end, clock n) ≡ x = cc in
      (0, (λ i. Some (Answered (same i).0 (same i).1)), sym (λ i. (same i).2) ∙ here n)
  answer-of n (Answered u end ∷ log) (suc j) x at = let r = answer-of (suc n) log j x at in (suc r.0, r.1, r.2 ∙ on n r.0)
  answer-of n (Executed run ∷ log) j x at = let r = answer-of (suc n) log j x at in (suc r.0, r.1, r.2 ∙ on n r.0)
  answer-of n (Arrived u p ∷ log) j x at = let r = answer-of (suc n) log j x at in (suc r.0, r.1, r.2 ∙ on n r.0)

  -- an execution has its entry at the same place,
  pub entry-in : (n : ℕ) (log : List Mark) (k : ℕ) (e : Execution) → At (history log) k e → (i : ℕ) × IsExecutedAt log i e × At (executed_in clock n log) k (entry_at (clock (n + i)) e)
  entry-in n [] k e at = absurd (nothing-there k e at)
  entry-in n (Arrived t p ∷ log) k e at =
      let r = entry-in (suc n) log k e at in
      (suc r.0, r.1, r.2 ∙ (λ j. Some (entry_at (on n r.0 j) e)))
  entry-in n (Executed run ∷ log) k e at = ⊎_elim
      (λ (z : IsIn run e × At (map (entry_at (clock n)) run ++ executed_in clock (suc n) log) k (entry_at (clock n) e)).
      (0, (run, refl, z.0), z.1 ∙ (λ j. Some (entry_at (here n j) e))))
      (λ (z : (j : ℕ) × At (history log) j e × ((y : EntryModel) → At (executed_in clock (suc n) log) j y → At (map (entry_at (clock n)) run ++ executed_in clock (suc n) log) k y)).
      let r = entry-in (suc n) log z.0 e z.1 in
      (suc r.0, r.1, z.2 (entry_at (clock (n + suc r.0)) e) (r.2 ∙ (λ j. Some (entry_at (on n r.0 j) e)))))
      (front (clock n) (history log) (executed_in clock (suc n) log) run k e at)
  entry-in n (Answered t end ∷ log) k e at =
      let r = entry-in (suc n) log k e at in
      (suc r.0, r.1, r.2 ∙ (λ j. Some (entry_at (on n r.0 j) e)))

  -- and an entry its execution
  pub execution-of : (n : ℕ) (log : List Mark) (k : ℕ) (y : EntryModel) → At (executed_in clock n log) k y
      → (i : ℕ) × (e : Execution) × IsExecutedAt log i e × At (history log) k e × (y ≡ entry_at (clock (n + i)) e)
  execution-of n [] k y at = absurd (nothing-there k y at)
  execution-of n (Arrived t p ∷ log) k y at =
      let r = execution-of (suc n) log k y at in
      (suc r.0, r.1, r.2, r.3, r.4 ∙ (λ j. entry_at (on n r.0 j) r.1))
  execution-of n (Executed run ∷ log) k y at = ⊎_elim
      (λ (z : (e : Execution) × IsIn run e × At (run ++ history log) k e × (y ≡ entry_at (clock n) e)).
      (0, z.0, (run, refl, z.1), z.2, z.3 ∙ (λ j. entry_at (here n j) z.0)))
      (λ (z : (j : ℕ) × At (executed_in clock (suc n) log) j y × ((e : Execution) → At (history log) j e → At (run ++ history log) k e)).
      let r = execution-of (suc n) log z.0 y z.1 in
      (suc r.0, r.1, r.2, z.2 r.1 r.3, r.4 ∙ (λ j. entry_at (on n r.0 j) r.1)))
      (back (clock n) (history log) (executed_in clock (suc n) log) run k y at)
  execution-of n (Answered t end ∷ log) k y at =
      let r = execution-of (suc n) log k y at in
      (suc r.0, r.1, r.2, r.3, r.4 ∙ (λ j. entry_at (on n r.0 j) r.1))

  -- and by the place of its mark
  pub entry-at-mark : (n : ℕ) (log : List Mark) (i : ℕ) (e : Execution) → IsExecutedAt log i e → IsIn (executed_in clock n log) (entry_at (clock (n + i)) e)
  entry-at-mark n [] i e (run, at, there) = absurd (nothing-there i (Executed run) at)
  entry-at-mark n (Arrived t p ∷ log) zero e (run, at, there) = absurd (cc)
  entry-at-mark n (Arrived t p ∷ log) (suc i) e it =
      let r = entry-at-mark (suc n) log i e it in
      (r.0, r.1 ∙ (λ j. Some (entry_at (on n i j) e)))
  entry-at-mark n (Executed was ∷ log) zero e (run, at, there) =
      let same : run ≡ was = cc in
      let r = in-run (clock n) (history log) (executed_in clock (suc n) log) was e (subst (λ xs. IsIn xs e) same there) in
      (r.0, r.1 ∙ (λ j. Some (entry_at (here n j) e)))
  entry-at-mark n (Executed was ∷ log) (suc i) e it =
      let r = entry-at-mark (suc n) log i e it in
      let further = in-right (map (entry_at (clock n)) was) (executed_in clock (suc n) log) r.0 (entry_at (clock (suc n + i)) e) r.1 in
      (further.0, further.1 ∙ (λ j. Some (entry_at (on n i j) e)))
  entry-at-mark n (Answered t end ∷ log) zero e (run, at, there) = absurd (cc)
  entry-at-mark n (Answered t end ∷ log) (suc i) e it =
      let r = entry-at-mark (suc n) log i e it in
      (r.0, r.1 ∙ (λ j. Some (entry_at (on n i j) e)))

  pub legal-of : (n : ℕ) (log : List Mark) (store : StoreModel) → IsLegalInWorld store (executed_in clock n log) → IsLegal store (history log)
  legal-of n [] store h = tt
  legal-of n (Arrived t p ∷ log) store h = legal-of (suc n) log store h
  legal-of n (Executed run ∷ log) store h = legal-run (clock n) (history log) (executed_in clock (suc n) log) run store (legal-of (suc n) log) h
  legal-of n (Answered t end ∷ log) store h = legal-of (suc n) log store h

  pub left-of : (n : ℕ) (log : List Mark) (store : StoreModel) → left_in_world store (executed_in clock n log) ≡ left_by store (history log)
  left-of n [] store = refl
  left-of n (Arrived t p ∷ log) store = left-of (suc n) log store
  left-of n (Executed run ∷ log) store = left-run (clock n) (history log) (executed_in clock (suc n) log) run store (left-of (suc n) log)
  left-of n (Answered t end ∷ log) store = left-of (suc n) log store
