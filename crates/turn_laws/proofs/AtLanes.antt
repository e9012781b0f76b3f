-- The carrier's steps at a worker's lanes and at what is pending that the machine does not see.
use Rattle.std.proofs.Common.{◌≡◌, ◌≢◌, ◌⊎◌, inl, inr, ⊎_elim, ℕ, zero, suc, ◌+◌, ◌<◌, ◌≤◌, List, [], ◌∷◌, ◌++◌, Some, None, Result, Ok, Err, refl, sym, ap, ◌∙◌, subst, arith, length}
use Rattle.std.specs.Prelude.{slice_get, slice_set, Option, IsSome, All}
use Rattle.std.specs.List.{flat_map}
use Rattle.std.proofs.lemmas.Grind.{flat_map-append}
use Rattle.key_split.specs.Runs.{RunModel}
use Rattle.key_split.specs.declared.travel.Ticket.{Ticket}
use Rattle.key_split.specs.declared.travel.Told.TheVariants.{Unsent}
use Rattle.proxy_lanes.specs.declared.ends.lane_ends.LaneEnds.{LaneEnds}
use Rattle.proxy_lanes.specs.declared.ring.Outlet.{Outlet}
use Rattle.proxy_lanes.specs.declared.ring.Inlet.{Inlet}
use Rattle.proxy_lanes.specs.Lane.{Posts}
use Rattle.proxy_lanes.specs.Ends.{ChangesAt, Gives, GivesDown}
use Rattle.proxy_turns.specs.declared.newcomer.Newcomer.{Newcomer}
use Rattle.proxy_turns.specs.declared.pending_run.PendingRun.{PendingRun}
use Rattle.proxy_turns.specs.declared.backend.Backend.{Backend}
use Rattle.proxy_turns.specs.declared.backend.PendingTold.{PendingTold}
use Rattle.proxy_turns.specs.WorkerModel.{WorkerModel}
use Rattle.proxy_turns.specs.PendingRun.{no_pending_run, Delivers}
use Rattle.proxy_turns.specs.Backend.{new_backend}
use Rattle.proxy_turns.specs.CarrierModel.{CarrierModel, CarrierEvent, WorkerAdded, BackendAdded, Missed, NotFound, Took, Gave, GaveUnsent}
use Rattle.world_laws.specs.State.{WorldModel}
use Rattle.world_laws.specs.Places.{total}
use Rattle.world_laws.proofs.Nodes.{set-size}
use Rattle.world_laws.proofs.Tally.{total-append}
use Rattle.world_laws.proofs.Recorded.{at-set, at-last, before-last, set-same}
use Rattle.turn_laws.specs.Wire.{Wire}
use Rattle.turn_laws.specs.System.{System, between, IsInStep}
use Rattle.turn_laws.specs.Shadow.{IsShadow, UpsShadow, ListShadow, AreSeated}
use Rattle.turn_laws.specs.Underway.{downs_of, downs_in, down_in, refused_in, told_in, lost_in, ups_in, run_in}
use Rattle.turn_laws.specs.Steps.{CarrierStep, opened_by}
use Rattle.std.proofs.lemmas.List.Elements.{All-append, All-cons, All-nil}
use Rattle.turn_laws.proofs.Elements.{nothing-there, in-right}
use Rattle.turn_laws.proofs.Downs.{Pair, SameBag, total-set-flat}
use Rattle.turn_laws.proofs.Lanes.{between-post, post-steps, between-back, back-steps, between-take}
use Rattle.turn_laws.proofs.Frames.{SameLinks, works-still, no-failure, carrier-stutter, beside, same-seats, set-seats, DownFits, down-fits, StillSeen, seen-same}
use Rattle.turn_laws.proofs.Bags.{refusals, debts, bag-parts}
use Rattle.turn_laws.proofs.Seen.{seen-works, seen-stays}

-- a list's other items
pub get-other : {X : Type 0} (xs : List X) (i j : ℕ) (y : X) → j ≢ i → slice_get (slice_set xs i y) j ≡ slice_get xs j
get-other [] i j y ne = refl
get-other (z ∷ xs) zero zero y ne = absurd (ne refl)
get-other (z ∷ xs) zero (suc j) y ne = refl
get-other (z ∷ xs) (suc i) zero y ne = refl
get-other (z ∷ xs) (suc i) (suc j) y ne = get-other xs i j y (λ e. ne (ap suc e))

-- one more, which is empty
add_workers-pending_run : (pending_runs : List PendingRun) (e : PendingRun) (j : ℕ) → (slice_get (pending_runs ++ e ∷ []) j ≡ slice_get pending_runs j) ⊎ ((slice_get pending_runs j ≡ None) × (slice_get (pending_runs ++ e ∷ []) j ≡ Some e))
add_workers-pending_run [] e zero = inr (refl, refl)
add_workers-pending_run [] e (suc j) = inl refl
add_workers-pending_run (h ∷ pending_runs) e zero = inl refl
add_workers-pending_run (h ∷ pending_runs) e (suc j) = add_workers-pending_run pending_runs e j

pub short : {X : Type 0} (xs : List X) (k : ℕ) (x : X) → slice_get xs k ≡ Some x → k < length xs
short [] k x e = absurd (nothing-there k x e)
short (y ∷ xs) zero x e = omega arith
short (y ∷ xs) (suc k) x e = omega (arith, short xs k x e)

-- an item of a list of lists
pub in-flat : {X : Type 0} (g : X → List Pair) (xs : List X) (k : ℕ) (x : X) (p : Pair) → slice_get xs k ≡ Some x → slice_get (g x) 0 ≡ Some p → (i : ℕ) × (slice_get (flat_map g xs) i ≡ Some p)
in-flat g [] k x p at e = absurd (nothing-there k x at)
in-flat g (z ∷ xs) zero x p at e = let same : z ≡ x = cc in (0, before-last (g z) (flat_map g xs) 0 p (ap (λ u. slice_get (g u) 0) same ∙ e))
in-flat g (z ∷ xs) (suc k) x p at e = let r = in-flat g xs k x p at e in in-right (g z) (flat_map g xs) r.0 p r.1

abbrev pub DownSteps : Option (Outlet Pair) → Inlet Pair → Type 0
DownSteps o inlet = (outlet : Outlet Pair) → o ≡ Some outlet → IsInStep outlet inlet

one-outlet : (b : Option (Outlet Pair)) (next outlet : Outlet Pair) → b ≡ Some next → b ≡ Some outlet → next ≡ outlet
one-outlet b next outlet p q = let one : Some next ≡ Some outlet = sym p ∙ q in cc

steps-of : (b : Option (Outlet Pair)) (next : Outlet Pair) (inlet : Inlet Pair) → b ≡ Some next → IsInStep next inlet → DownSteps b inlet
steps-of b next inlet e step outlet q = subst (λ o. IsInStep o inlet) (one-outlet b next outlet e q) step

abbrev pub AfterGiven : Option (Outlet Pair) → Option (Outlet Pair) → Pair → Inlet Pair → Type 0
AfterGiven a b pair inlet = (down_in b inlet ≡ down_in a inlet ++ pair ∷ []) × DownSteps b inlet × IsSome b

given-some : (old next : Outlet Pair) (b : Option (Outlet Pair)) (pair : Pair) → b ≡ Some next → Posts old next pair (Ok tt) → (inlet : Inlet Pair) → IsInStep old inlet → AfterGiven (Some old) b pair inlet
given-some old next b pair e posts inlet step = (
  ap (λ o. down_in o inlet) e ∙ between-post old next inlet pair step posts,
  steps-of b next inlet e (post-steps old next inlet pair step posts),
  subst IsSome (sym e) refl,
)

not-given : (r : Result (Unit {0}) Pair) (pair : Pair) → r ≡ Ok tt → r ≡ Err pair → ⊥
not-given r pair e g = cc

-- a pair is given
pub given : (a b : Option (Outlet Pair)) (pair : Pair) → Gives a b pair (Ok tt) → (inlet : Inlet Pair) → DownSteps a inlet → AfterGiven a b pair inlet
given None b pair g inlet steps = absurd (not-given (Ok tt) pair refl g.1)
given (Some old) b pair g inlet steps = given-some old g.0 b pair g.1 g.2 inlet (steps old refl)

abbrev pub AfterBack : Option (Outlet Pair) → Option (Outlet Pair) → Inlet Pair → Type 0
AfterBack a b inlet = (down_in b inlet ≡ down_in a inlet) × DownSteps b inlet × (IsSome a → IsSome b)

back-some : (old next : Outlet Pair) (b : Option (Outlet Pair)) (pair : Pair) → b ≡ Some next → Posts old next pair (Err pair) → (inlet : Inlet Pair) → IsInStep old inlet → AfterBack (Some old) b inlet
back-some old next b pair e posts inlet step = (
  ap (λ o. down_in o inlet) e ∙ between-back old next inlet pair pair posts,
  steps-of b next inlet e (back-steps old next inlet pair pair step posts),
  λ _. subst IsSome (sym e) refl,
)

back-none : (b : Option (Outlet Pair)) (inlet : Inlet Pair) → b ≡ None → DownSteps None inlet → AfterBack None b inlet
back-none b inlet e steps = (ap (λ o. down_in o inlet) e, λ outlet q. steps outlet (sym e ∙ q), subst IsSome (sym e))

-- a pair comes back
pub came-back : (a b : Option (Outlet Pair)) (pair : Pair) → Gives a b pair (Err pair) → (inlet : Inlet Pair) → DownSteps a inlet → AfterBack a b inlet
came-back None b pair g inlet steps = back-none b inlet g.0 steps
came-back (Some old) b pair g inlet steps = back-some old g.0 b pair g.1 g.2 inlet (steps old refl)

-- what comes down the lane is still for its worker
abbrev pub AllFor : ℕ → List Pair → Type 0
AllFor k pairs = All (λ (q : Pair). q.0.worker ≡ k) pairs

one-for : (pair : Pair) → AllFor pair.0.worker (pair ∷ [])
one-for pair = All-cons (λ (q : Pair). q.0.worker ≡ pair.0.worker) pair [] refl (All-nil (λ (q : Pair). q.0.worker ≡ pair.0.worker))

given-fits : (a b : Option (Outlet Pair)) (pair : Pair) (inlet : Inlet Pair) → AfterGiven a b pair inlet → AllFor pair.0.worker (down_in a inlet) → DownSteps b inlet × AllFor pair.0.worker (down_in b inlet) × IsSome b
given-fits a b pair inlet g all = (g.1, subst (AllFor pair.0.worker) (sym g.0) (All-append (λ (q : Pair). q.0.worker ≡ pair.0.worker) (down_in a inlet) (pair ∷ []) all (one-for pair)), g.2)

pub back-fits : (a b : Option (Outlet Pair)) (k : ℕ) (inlet : Inlet Pair) → AfterBack a b inlet → AllFor k (down_in a inlet) → IsSome a → DownSteps b inlet × AllFor k (down_in b inlet) × IsSome b
back-fits a b k inlet g all some = (g.1, subst (AllFor k) (sym g.0) all, g.2 some)

tail-case : (f : Pair → ℕ) (a r r' : List Pair) (p q : ℕ) → total f r' + p ≡ total f r + q → total f (a ++ r') + p ≡ total f (a ++ r) + q
tail-case f a r r' p q e = omega (arith, e, total-append f a r, total-append f a r')

module _ {C J : Type 0} where
  head-case : (f : Pair → ℕ) (z model : WorkerModel C J) (l x y : LaneEnds (Newcomer C J)) (rest : List Pair) → Some z ≡ Some model → Some l ≡ Some x
      → total f (down_in y.down z.inlet ++ rest) + total f (down_in x.down model.inlet) ≡ total f (down_in l.down z.inlet ++ rest) + total f (down_in y.down model.inlet)
  head-case f z model l x y rest p q =
      let same : z ≡ model = cc in
      let lane : l ≡ x = cc in
      let e : total f (down_in l.down z.inlet) ≡ total f (down_in x.down model.inlet) = λ i. total f (down_in (lane i).down (same i).inlet) in
      let g : total f (down_in y.down z.inlet) ≡ total f (down_in y.down model.inlet) = λ i. total f (down_in y.down (same i).inlet) in
      omega (arith, e, g, total-append f (down_in l.down z.inlet) rest, total-append f (down_in y.down z.inlet) rest)

  -- the rings, as one lane changes
  rings-total : (f : Pair → ℕ) (workers : List (WorkerModel C J)) (lanes : List (LaneEnds (Newcomer C J))) (k : ℕ) (model : WorkerModel C J) (x y : LaneEnds (Newcomer C J))
      → slice_get workers k ≡ Some model → slice_get lanes k ≡ Some x
      → total f (downs_in workers (slice_set lanes k y)) + total f (down_in x.down model.inlet) ≡ total f (downs_in workers lanes) + total f (down_in y.down model.inlet)
  rings-total f [] lanes k model x y p q = absurd (nothing-there k model p)
  rings-total f (z ∷ workers) [] k model x y p q = absurd (nothing-there k x q)
  rings-total f (z ∷ workers) (l ∷ lanes) zero model x y p q = head-case f z model l x y (downs_in workers lanes) p q
  rings-total f (z ∷ workers) (l ∷ lanes) (suc k) model x y p q =
      tail-case f (down_in l.down z.inlet) (downs_in workers lanes) (downs_in workers (slice_set lanes k y)) (total f (down_in x.down model.inlet)) (total f (down_in y.down model.inlet))
      (rings-total f workers lanes k model x y p q)

  -- A step by which one worker's lane changes, and perhaps what is pending of it.
  module _ (event : CarrierEvent) (s s' : System C J) (w : WorldModel) (h : IsShadow s w) (step : CarrierStep s event s') (quiet : opened_by event s.opened ≡ s.opened) (links : SameLinks s s') (sight : StillSeen s s') where
    workers : s'.workers ≡ s.workers
    workers = ap (λ (x : System C J). x.workers) step.leaves

    pub lane-stutter : (k : ℕ) (x y : LaneEnds (Newcomer C J)) → slice_get s.carrier.lanes k ≡ Some x
        → s'.carrier.lanes ≡ slice_set s.carrier.lanes k y → (AreSeated s.carrier → AreSeated s'.carrier)
        → ((model : WorkerModel C J) → slice_get s.workers k ≡ Some model → DownFits k model y)
        → ((model : WorkerModel C J) → slice_get s.workers k ≡ Some model → ups_in model y (slice_get s'.carrier.pending_runs k) ≡ ups_in model x (slice_get s.carrier.pending_runs k))
        → ((j : ℕ) → j ≢ k → (model : WorkerModel C J) (lane : LaneEnds (Newcomer C J)) → ups_in model lane (slice_get s'.carrier.pending_runs j) ≡ ups_in model lane (slice_get s.carrier.pending_runs j))
        → ((model : WorkerModel C J) → slice_get s.workers k ≡ Some model → (f : Pair → ℕ)
        → total f (down_in y.down model.inlet) + total f (refusals s'.carrier.pending_runs) + total f (debts s'.carrier.backends)
        ≡ total f (down_in x.down model.inlet) + total f (refusals s.carrier.pending_runs) + total f (debts s.carrier.backends))
        → IsShadow s' w
    lane-stutter k x y at lanes seats steps ups others bag =
        carrier-stutter event s s' w h step quiet (works-still s s' links) (no-failure s s' links) sight
        (record { lanes = ap length lanes ∙ set-size s.carrier.lanes k y; seated = seats }) down_steps whole all
      where
        seen : (j : ℕ) (lane : LaneEnds (Newcomer C J)) → slice_get s'.carrier.lanes j ≡ Some lane → ((j ≡ k) × (lane ≡ y)) ⊎ ((j ≢ k) × (slice_get s.carrier.lanes j ≡ Some lane))
        seen j lane e = at-set s.carrier.lanes k y j lane (sym (ap (λ xs. slice_get xs j) lanes) ∙ e)

        down_steps : (j : ℕ) (model : WorkerModel C J) (lane : LaneEnds (Newcomer C J)) → slice_get s.workers j ≡ Some model → slice_get s'.carrier.lanes j ≡ Some lane → DownFits j model lane
        down_steps j model lane p q = ⊎_elim
            (λ (z : (j ≡ k) × (lane ≡ y)). subst (λ (l : LaneEnds (Newcomer C J)). DownFits j model l) (sym z.1) (subst (λ n. DownFits n model y) (sym z.0) (steps model (sym (ap (slice_get s.workers) z.0) ∙ p))))
            (λ (z : (j ≢ k) × (slice_get s.carrier.lanes j ≡ Some lane)). down-fits s w h j model lane p z.1)
            (seen j lane q)

        whole : SameBag (downs_of s) (downs_of s')
        whole f =
            let fl = beside s.workers s.carrier.lanes k x h.sides at in
            let rings : total f (downs_in s'.workers s'.carrier.lanes) ≡ total f (downs_in s.workers (slice_set s.carrier.lanes k y)) = λ i. total f (downs_in (workers i) (lanes i)) in
            omega (arith, bag-parts f s, bag-parts f s', rings, rings-total f s.workers s.carrier.lanes k fl.0 x y fl.1 at, bag fl.0 fl.1 f)

        all : UpsShadow s.workers s'.carrier w
        all j model lane p q = ⊎_elim
            (λ (z : (j ≡ k) × (lane ≡ y)).
            let at_k : slice_get s.workers k ≡ Some model = sym (ap (slice_get s.workers) z.0) ∙ p in
            let here : ups_in model lane (slice_get s'.carrier.pending_runs j) ≡ ups_in model x (slice_get s.carrier.pending_runs j) =
            (λ i. ups_in model (z.1 i) (slice_get s'.carrier.pending_runs (z.0 i))) ∙ ups model at_k ∙ (λ i. ups_in model x (slice_get s.carrier.pending_runs (sym z.0 i))) in
            let was : ListShadow w j (ups_in model x (slice_get s.carrier.pending_runs j)) = h.lanes j model x p (ap (slice_get s.carrier.lanes) z.0 ∙ at) in
            let now : ListShadow w j (ups_in model lane (slice_get s'.carrier.pending_runs j)) = subst (ListShadow w j) (sym here) was in now)
            (λ (z : (j ≢ k) × (slice_get s.carrier.lanes j ≡ Some lane)). subst (ListShadow w j) (sym (others j z.0 model lane)) (h.lanes j model lane p z.1))
            (seen j lane q)

    -- A step by which no lane changes, and nothing that is pending but for what is empty.
    pub pending_runs-stutter : s'.carrier.lanes ≡ s.carrier.lanes → (AreSeated s.carrier → AreSeated s'.carrier)
        → ((j : ℕ) (model : WorkerModel C J) (lane : LaneEnds (Newcomer C J)) → ups_in model lane (slice_get s'.carrier.pending_runs j) ≡ ups_in model lane (slice_get s.carrier.pending_runs j))
        → ((f : Pair → ℕ) → total f (refusals s'.carrier.pending_runs) + total f (debts s'.carrier.backends) ≡ total f (refusals s.carrier.pending_runs) + total f (debts s.carrier.backends))
        → IsShadow s' w
    pending_runs-stutter lanes seats ups bag =
        carrier-stutter event s s' w h step quiet (works-still s s' links) (no-failure s s' links) sight (record { lanes = ap length lanes; seated = seats })
        (λ j model lane p q. down-fits s w h j model lane p (sym (ap (λ xs. slice_get xs j) lanes) ∙ q))
        (λ f. (
        let rings : total f (downs_in s'.workers s'.carrier.lanes) ≡ total f (downs_in s.workers s.carrier.lanes) = λ i. total f (downs_in (workers i) (lanes i)) in
        omega (arith, bag-parts f s, bag-parts f s', rings, bag f)))
        (λ j model lane p q. subst (ListShadow w j) (sym (ups j model lane)) (h.lanes j model lane p (sym (ap (λ xs. slice_get xs j) lanes) ∙ q)))

  pub same-backends : (s s' : System C J) → s'.carrier.backends ≡ s.carrier.backends → SameLinks s s'
  same-backends s s' e k backend' link at linked = (backend', sym (ap (λ xs. slice_get xs k) e) ∙ at, linked)

  pub missed : (s s' : System C J) (w : WorldModel) → IsShadow s w → CarrierStep s Missed s' → IsShadow s' w
  missed s s' w h on =
      let backends : s'.carrier.backends ≡ s.carrier.backends = ap (λ (x : CarrierModel (Newcomer C J) Wire). x.backends) on.does.2 in
      let pending_runs : s'.carrier.pending_runs ≡ s.carrier.pending_runs = ap (λ (x : CarrierModel (Newcomer C J) Wire). x.pending_runs) on.does.2 in
      pending_runs-stutter Missed s s' w h on refl (same-backends s s' backends) (seen-same s s' backends) (ap (λ (x : CarrierModel (Newcomer C J) Wire). x.lanes) on.does.2) (same-seats s s' (ap (λ (x : CarrierModel (Newcomer C J) Wire). length x.lanes) on.does.2) pending_runs).seated
      (λ j model lane. λ i. ups_in model lane (slice_get (pending_runs i) j))
      (λ f. λ i. total f (refusals (pending_runs i)) + total f (debts (backends i)))

  pub not-found : (s s' : System C J) (w : WorldModel) → IsShadow s w → CarrierStep s NotFound s' → IsShadow s' w
  not-found s s' w h on =
      let e = on.does.2 in
      let backends : s'.carrier.backends ≡ s.carrier.backends = ap (λ (x : CarrierModel (Newcomer C J) Wire). x.backends) e in
      let pending_runs : s'.carrier.pending_runs ≡ s.carrier.pending_runs = ap (λ (x : CarrierModel (Newcomer C J) Wire). x.pending_runs) e in
      pending_runs-stutter NotFound s s' w h on refl (same-backends s s' backends) (seen-same s s' backends) (ap (λ (x : CarrierModel (Newcomer C J) Wire). x.lanes) e) (same-seats s s' (ap (λ (x : CarrierModel (Newcomer C J) Wire). length x.lanes) e) pending_runs).seated
      (λ j model lane. λ i. ups_in model lane (slice_get (pending_runs i) j))
      (λ f. λ i. total f (refusals (pending_runs i)) + total f (debts (backends i)))

  pub added : (s s' : System C J) (w : WorldModel) → IsShadow s w → CarrierStep s WorkerAdded s' → IsShadow s' w
  added s s' w h on =
      let backends : s'.carrier.backends ≡ s.carrier.backends = ap (λ (x : CarrierModel (Newcomer C J) Wire). x.backends) on.does in
      let pending_runs : s'.carrier.pending_runs ≡ s.carrier.pending_runs ++ no_pending_run ∷ [] = ap (λ (x : CarrierModel (Newcomer C J) Wire). x.pending_runs) on.does in
      pending_runs-stutter WorkerAdded s s' w h on refl (same-backends s s' backends) (seen-same s s' backends) (ap (λ (x : CarrierModel (Newcomer C J) Wire). x.lanes) on.does) (λ seated k b run p q. omega (arith, ap (λ (x : CarrierModel (Newcomer C J) Wire). length x.lanes) on.does, seated k b run (was-there k b run (sym (ap (λ xs. slice_get xs k) pending_runs) ∙ p) q) q))
      (λ j model lane. (λ i. ups_in model lane (slice_get (pending_runs i) j)) ∙ ⊎_elim
      (λ (e : slice_get (s.carrier.pending_runs ++ no_pending_run ∷ []) j ≡ slice_get s.carrier.pending_runs j). ap (ups_in model lane) e)
      (λ (e : (slice_get s.carrier.pending_runs j ≡ None) × (slice_get (s.carrier.pending_runs ++ no_pending_run ∷ []) j ≡ Some no_pending_run)).
      ap (ups_in model lane) e.1 ∙ sym (ap (ups_in model lane) e.0))
      (add_workers-pending_run s.carrier.pending_runs no_pending_run j))
      (λ f. omega (
        arith,
        (let e : total f (refusals s'.carrier.pending_runs) ≡ total f (refusals s.carrier.pending_runs ++ refusals (no_pending_run ∷ [])) = (λ i. total f (refusals (pending_runs i))) ∙ ap (total f) (flat_map-append (λ (pending_run : PendingRun). refused_in pending_run.refused) s.carrier.pending_runs (no_pending_run ∷ [])) in e),
        total-append f (refusals s.carrier.pending_runs) (refusals (no_pending_run ∷ [])),
        ap (λ ls. total f (debts ls)) backends,
      ))
    where
      was-there : (k : ℕ) (b : PendingRun) (run : RunModel) → slice_get (s.carrier.pending_runs ++ no_pending_run ∷ []) k ≡ Some b → b.run ≡ Some run → slice_get s.carrier.pending_runs k ≡ Some b
      was-there k b run p q = ⊎_elim (λ z. z)
          (λ (z : (k ≡ length s.carrier.pending_runs) × (b ≡ no_pending_run)). let bad : None ≡ Some run = ap (λ (x : PendingRun). x.run) (sym z.1) ∙ q in absurd (cc))
          (at-last s.carrier.pending_runs no_pending_run k b p)

  pub lined : (s s' : System C J) (w : WorldModel) → IsShadow s w → CarrierStep s BackendAdded s' → IsShadow s' w
  lined s s' w h on =
      let backends : s'.carrier.backends ≡ s.carrier.backends ++ new_backend ∷ [] = ap (λ (x : CarrierModel (Newcomer C J) Wire). x.backends) on.does in
      let pending_runs : s'.carrier.pending_runs ≡ s.carrier.pending_runs = ap (λ (x : CarrierModel (Newcomer C J) Wire). x.pending_runs) on.does in
      let links : SameLinks s s' = λ k backend' link at linked. ⊎_elim
      (λ (e : slice_get s.carrier.backends k ≡ Some backend'). (backend', e, linked))
      (λ (e : (k ≡ length s.carrier.backends) × (backend' ≡ new_backend)). let bad : None ≡ Some link = ap (λ (x : Backend Wire). x.link) (sym e.1) ∙ linked in absurd (cc))
      (at-last s.carrier.backends new_backend k backend' (sym (ap (λ xs. slice_get xs k) backends) ∙ at)) in
      pending_runs-stutter BackendAdded s s' w h on refl links (seen-works s.carrier s'.carrier s.closed (λ k it x. (x.0, ap (λ xs. slice_get xs k) backends ∙ before-last s.carrier.backends (new_backend ∷ []) k x.0 x.1, x.2, x.3))) (ap (λ (x : CarrierModel (Newcomer C J) Wire). x.lanes) on.does) (same-seats s s' (ap (λ (x : CarrierModel (Newcomer C J) Wire). length x.lanes) on.does) pending_runs).seated
      (λ j model lane. λ i. ups_in model lane (slice_get (pending_runs i) j))
      (λ f. omega (
        arith,
        (let e : total f (debts s'.carrier.backends) ≡ total f (debts s.carrier.backends ++ debts (new_backend ∷ [])) = (λ i. total f (debts (backends i))) ∙ ap (total f) (flat_map-append (λ (backend : Backend Wire). told_in backend.pending_told ++ lost_in backend.link) s.carrier.backends (new_backend ∷ [])) in e),
        total-append f (debts s.carrier.backends) (debts (new_backend ∷ [])),
        ap (λ ls. total f (refusals ls)) pending_runs,
      ))

  -- a run comes from a lane, and is pending
  pub took : (s s' : System C J) (w : WorldModel) → IsShadow s w → CarrierStep s Took s' → IsShadow s' w
  took s s' w h on =
      let d = on.does in
      let k : ℕ = d.0 in
      let pending_run : PendingRun = d.1 in
      let pending_run' : PendingRun = d.2 in
      let run : RunModel = d.4.0 in
      let was : pending_run ≡ no_pending_run = d.4.1 in
      let now : pending_run' ≡ record pending_run { run = Some run } = d.4.2 in
      let x : LaneEnds (Newcomer C J) = d.4.3.0 in
      let y : LaneEnds (Newcomer C J) = d.4.3.1 in
      let down : y.down ≡ x.down = ap (λ (l : LaneEnds (Newcomer C J)). l.down) d.4.3.4.0 in
      let backends : s'.carrier.backends ≡ s.carrier.backends = ap (λ (c : CarrierModel (Newcomer C J) Wire). c.backends) d.5 in
      let pending_runs : s'.carrier.pending_runs ≡ slice_set s.carrier.pending_runs k pending_run' = ap (λ (c : CarrierModel (Newcomer C J) Wire). c.pending_runs) d.5 in
      let fl : s'.workers ≡ s.workers = ap (λ (z : System C J). z.workers) on.leaves in
      let held : slice_get s'.carrier.pending_runs k ≡ Some pending_run' = ap (λ xs. slice_get xs k) pending_runs ∙ set-same s.carrier.pending_runs k pending_run pending_run' d.3 in
      lane-stutter Took s s' w h on refl (same-backends s s' backends) (seen-same s s' backends) k x y d.4.3.2 d.4.3.3 (set-seats s s' k pending_run' (ap length d.4.3.3 ∙ set-size s.carrier.lanes k y) pending_runs (λ b e seated. short s.carrier.lanes k x d.4.3.2)).seated
      (λ model p. (λ outlet e. h.down_steps k model x p d.4.3.2 outlet (sym down ∙ e), subst (λ o. All (λ (q : Pair). q.0.worker ≡ k) (down_in o model.inlet)) (sym down) (h.to_worker k model x p d.4.3.2), subst IsSome (sym down) (h.unfinished k x d.4.3.2)))
      (λ model p.
      let there : slice_get s'.carrier.lanes k ≡ Some y = ap (λ xs. slice_get xs k) d.4.3.3 ∙ set-same s.carrier.lanes k x y d.4.3.2 in
      let first : between model.outlet x.up ≡ run ∷ between model.outlet y.up = between-take model.outlet x.up y.up run (on.in_step k model y (ap (λ xs. slice_get xs k) fl ∙ p) there) d.4.3.4.1 in
      let full : pending_run'.run ≡ Some run = ap (λ (z : PendingRun). z.run) now in
      let empty : pending_run.run ≡ None = ap (λ (z : PendingRun). z.run) was in
      ap (ups_in model y) held ∙ ap (λ o. run_in o ++ between model.outlet y.up) full ∙ sym first
      ∙ sym (ap (λ o. run_in o ++ between model.outlet x.up) empty) ∙ sym (ap (ups_in model x) d.3))
      (λ j ne model lane. ap (ups_in model lane) (ap (λ xs. slice_get xs j) pending_runs ∙ get-other s.carrier.pending_runs k j pending_run' ne))
      (λ model p f. omega (
        arith,
        ap (λ o. total f (down_in o model.inlet)) down,
        ap (λ ls. total f (debts ls)) backends,
        ap (λ hs. total f (refusals hs)) pending_runs,
        total-set-flat f (λ (pending_run : PendingRun). refused_in pending_run.refused) s.carrier.pending_runs k pending_run pending_run' d.3,
        ap (λ (z : PendingRun). total f (refused_in z.refused)) now,
      ))

  pub ups-up : (model : WorkerModel C J) (x y : LaneEnds (Newcomer C J)) → y.up ≡ x.up → (pending_run : Option PendingRun) → ups_in model y pending_run ≡ ups_in model x pending_run
  ups-up model x y e None = ap (between model.outlet) e
  ups-up model x y e (Some pending_run) = ap (λ u. run_in pending_run.run ++ between model.outlet u) e

  -- one with the same run
  same-run : (model : WorkerModel C J) (lane : LaneEnds (Newcomer C J)) (pending_runs : List PendingRun) (k j : ℕ) (pending_run pending_run' : PendingRun) → slice_get pending_runs k ≡ Some pending_run → pending_run'.run ≡ pending_run.run
      → ups_in model lane (slice_get (slice_set pending_runs k pending_run') j) ≡ ups_in model lane (slice_get pending_runs j)
  same-run model lane [] k j pending_run pending_run' at e = refl
  same-run model lane (z ∷ pending_runs) zero zero pending_run pending_run' at e =
      let same : z ≡ pending_run = cc in ap (λ o. run_in o ++ between model.outlet lane.up) (e ∙ ap (λ (u : PendingRun). u.run) (sym same))
  same-run model lane (z ∷ pending_runs) zero (suc j) pending_run pending_run' at e = refl
  same-run model lane (z ∷ pending_runs) (suc k) zero pending_run pending_run' at e = refl
  same-run model lane (z ∷ pending_runs) (suc k) (suc j) pending_run pending_run' at e = same-run model lane pending_runs k j pending_run pending_run' at e

  -- a pair goes to a worker that there is
  delivered : (s : System C J) (w : WorldModel) → IsShadow s w → (pair : Pair) (i : ℕ) → slice_get (downs_of s) i ≡ Some pair → (lanes' : List (LaneEnds (Newcomer C J)))
      → Delivers s.carrier.lanes pair lanes' → ChangesAt s.carrier.lanes pair.0.worker lanes' (λ lane lane'. GivesDown lane lane' pair (Ok tt))
  delivered s w h pair i e lanes' d = ⊎_elim (λ x. x)
      (λ (x : (length s.carrier.lanes ≤ pair.0.worker) × (lanes' ≡ s.carrier.lanes)). absurd (omega (arith, x.0, h.within i pair e))) d

  -- what is pending_told is given: it was on its way down already
  pub gave : (s s' : System C J) (w : WorldModel) → IsShadow s w → CarrierStep s Gave s' → IsShadow s' w
  gave s s' w h on =
      let d = on.does in
      let k : ℕ = d.0 in
      let backend : Backend Wire = d.1 in
      let backend' : Backend Wire = d.2 in
      let pending_told : PendingTold = d.4.0 in
      let pair : Pair = (pending_told.ticket, pending_told.told) in
      let now : backend' ≡ record backend { pending_told = None } = d.4.4 in
      let owes : told_in backend.pending_told ≡ pair ∷ [] = ap told_in d.4.1 in
      let backends : s'.carrier.backends ≡ slice_set s.carrier.backends k backend' = ap (λ (c : CarrierModel (Newcomer C J) Wire). c.backends) d.5 in
      let pending_runs : s'.carrier.pending_runs ≡ s.carrier.pending_runs = ap (λ (c : CarrierModel (Newcomer C J) Wire). c.pending_runs) d.5 in
      let in_line : slice_get (told_in backend.pending_told ++ lost_in backend.link) 0 ≡ Some pair = ap (λ ps. slice_get (ps ++ lost_in backend.link) 0) owes in
      let found = in-flat (λ (backend : Backend Wire). told_in backend.pending_told ++ lost_in backend.link) s.carrier.backends k backend pair d.3 in_line in
      let place = in-right (downs_in s.workers s.carrier.lanes ++ refusals s.carrier.pending_runs) (debts s.carrier.backends) found.0 pair found.1 in
      let c = delivered s w h pair place.0 place.1 s'.carrier.lanes d.4.3 in
      let x : LaneEnds (Newcomer C J) = c.0 in
      let y : LaneEnds (Newcomer C J) = c.1 in
      let up : y.up ≡ x.up = ap (λ (l : LaneEnds (Newcomer C J)). l.up) c.4.0 in
      let links : SameLinks s s' = λ j l link at linked. ⊎_elim
      (λ (e : (j ≡ k) × (l ≡ backend')). (backend, ap (slice_get s.carrier.backends) e.0 ∙ d.3, sym (ap (λ (z : Backend Wire). z.link) now) ∙ ap (λ (z : Backend Wire). z.link) (sym e.1) ∙ linked))
      (λ (e : (j ≢ k) × (slice_get s.carrier.backends j ≡ Some l)). (l, e.1, linked))
      (at-set s.carrier.backends k backend' j l (sym (ap (λ xs. slice_get xs j) backends) ∙ at)) in
      lane-stutter Gave s s' w h on refl links (seen-stays s.carrier s'.carrier s.closed k backend backend' d.3 backends (λ it e f. ap (λ (z : Backend Wire). z.link) now ∙ e)) pair.0.worker x y c.2 c.3 (same-seats s s' (ap length c.3 ∙ set-size s.carrier.lanes pair.0.worker y) pending_runs).seated
      (λ model p. given-fits x.down y.down pair model.inlet (given x.down y.down pair c.4.1 model.inlet (h.down_steps pair.0.worker model x p c.2)) (h.to_worker pair.0.worker model x p c.2))
      (λ model p. ups-up model x y up (slice_get s'.carrier.pending_runs pair.0.worker) ∙ (λ i. ups_in model x (slice_get (pending_runs i) pair.0.worker)))
      (λ j ne model lane. λ i. ups_in model lane (slice_get (pending_runs i) j))
      (λ model p f. omega (
        arith,
        ap (total f) (given x.down y.down pair c.4.1 model.inlet (h.down_steps pair.0.worker model x p c.2)).0,
        total-append f (down_in x.down model.inlet) (pair ∷ []),
        ap (λ hs. total f (refusals hs)) pending_runs,
        ap (λ ls. total f (debts ls)) backends,
        total-set-flat f (λ (backend : Backend Wire). told_in backend.pending_told ++ lost_in backend.link) s.carrier.backends k backend backend' d.3,
        ap (λ (z : Backend Wire). total f (told_in z.pending_told ++ lost_in z.link)) now,
        ap (λ ps. total f (ps ++ lost_in backend.link)) owes,
      ))

  pub gave-unsent : (s s' : System C J) (w : WorldModel) → IsShadow s w → CarrierStep s GaveUnsent s' → IsShadow s' w
  gave-unsent s s' w h on =
      let d = on.does in
      let k : ℕ = d.0 in
      let pending_run : PendingRun = d.1 in
      let pending_run' : PendingRun = d.2 in
      let ticket : Ticket = d.4.0 in
      let pair : Pair = (ticket, Unsent) in
      let later : List Ticket = d.4.1 in
      let now : pending_run' ≡ record pending_run { refused = later } = d.4.4 in
      let owes : refused_in pending_run.refused ≡ pair ∷ refused_in later = ap refused_in d.4.2 in
      let backends : s'.carrier.backends ≡ s.carrier.backends = ap (λ (c : CarrierModel (Newcomer C J) Wire). c.backends) d.5 in
      let pending_runs : s'.carrier.pending_runs ≡ slice_set s.carrier.pending_runs k pending_run' = ap (λ (c : CarrierModel (Newcomer C J) Wire). c.pending_runs) d.5 in
      let found = in-flat (λ (pending_run : PendingRun). refused_in pending_run.refused) s.carrier.pending_runs k pending_run pair d.3 (ap (λ ps. slice_get ps 0) owes) in
      let right = in-right (downs_in s.workers s.carrier.lanes) (refusals s.carrier.pending_runs) found.0 pair found.1 in
      let place : slice_get (downs_of s) right.0 ≡ Some pair = before-last (downs_in s.workers s.carrier.lanes ++ refusals s.carrier.pending_runs) (debts s.carrier.backends) right.0 pair right.1 in
      let c = delivered s w h pair right.0 place s'.carrier.lanes d.4.3 in
      let x : LaneEnds (Newcomer C J) = c.0 in
      let y : LaneEnds (Newcomer C J) = c.1 in
      let up : y.up ≡ x.up = ap (λ (l : LaneEnds (Newcomer C J)). l.up) c.4.0 in
      let same : (j : ℕ) (model : WorkerModel C J) (lane : LaneEnds (Newcomer C J)) → ups_in model lane (slice_get s'.carrier.pending_runs j) ≡ ups_in model lane (slice_get s.carrier.pending_runs j) =
      λ j model lane. (λ i. ups_in model lane (slice_get (pending_runs i) j)) ∙ same-run model lane s.carrier.pending_runs k j pending_run pending_run' d.3 (ap (λ (z : PendingRun). z.run) now) in
      lane-stutter GaveUnsent s s' w h on refl (same-backends s s' backends) (seen-same s s' backends) pair.0.worker x y c.2 c.3 (set-seats s s' k pending_run' (ap length c.3 ∙ set-size s.carrier.lanes pair.0.worker y) pending_runs (λ b e seated. seated k pending_run b d.3 (ap (λ (z : PendingRun). z.run) (sym now) ∙ e))).seated
      (λ model p. given-fits x.down y.down pair model.inlet (given x.down y.down pair c.4.1 model.inlet (h.down_steps pair.0.worker model x p c.2)) (h.to_worker pair.0.worker model x p c.2))
      (λ model p. ups-up model x y up (slice_get s'.carrier.pending_runs pair.0.worker) ∙ same pair.0.worker model x)
      (λ j ne model lane. same j model lane)
      (λ model p f. omega (
        arith,
        ap (total f) (given x.down y.down pair c.4.1 model.inlet (h.down_steps pair.0.worker model x p c.2)).0,
        total-append f (down_in x.down model.inlet) (pair ∷ []),
        ap (λ hs. total f (refusals hs)) pending_runs,
        ap (λ ls. total f (debts ls)) backends,
        total-set-flat f (λ (pending_run : PendingRun). refused_in pending_run.refused) s.carrier.pending_runs k pending_run pending_run' d.3,
        ap (λ (z : PendingRun). total f (refused_in z.refused)) now,
        ap (total f) owes,
      ))
