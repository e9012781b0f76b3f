-- What the carrier does that the machine does not see.
use Rattle.std.proofs.Common.{◌≡◌, ◌≢◌, ◌⊎◌, ⊎_elim, ℕ, ◌++◌, Some, None, refl, sym, ap, ◌∙◌, subst, arith, length}
use Rattle.std.specs.Prelude.{slice_get, slice_set, IsSome, Option}
use Rattle.std.proofs.lemmas.Bool.{false≢true}
use Rattle.node_link.specs.LinkModel.{LinkModel}
use Rattle.proxy_turns.specs.declared.backend.Backend.{Backend}
use Rattle.proxy_turns.specs.CarrierModel.{CarrierEvent}
use Rattle.world_laws.specs.State.{WorldModel}
use Rattle.world_laws.specs.Places.{total}
use Rattle.world_laws.proofs.Recorded.{at-set}
use Rattle.turn_laws.specs.Wire.{Wire}
use Rattle.turn_laws.specs.System.{System}
use Rattle.turn_laws.specs.Shadow.{IsShadow, UpsShadow, LaneShadow}
use Rattle.turn_laws.specs.Underway.{IsWorking, downs_of, downs_in, told_in, lost_in}
use Rattle.turn_laws.specs.Steps.{CarrierStep, FailsAt, opened_by}
use Rattle.turn_laws.proofs.Downs.{SameBag, total-set-flat}
use Rattle.turn_laws.proofs.Bags.{refusals, debts, line_downs, bag-parts}
use Rattle.turn_laws.proofs.Frames.{same-seats, carrier-stutter, down-fits, StillSeen}
use Rattle.turn_laws.proofs.Seen.{seen-stays}

abbrev pub IsDown : Option (LinkModel Wire) → Type 0
IsDown None = Unit {0}
IsDown (Some link) = IsSome link.failure

abbrev pub StaysDown : Backend Wire → Backend Wire → Type 0
StaysDown backend backend' = (backend'.link ≡ backend.link) ⊎ (IsDown backend.link × IsDown backend'.link)

pub not-down : (o : Option (LinkModel Wire)) (link : LinkModel Wire) → o ≡ Some link → link.failure ≡ None → IsDown o → ⊥
not-down None link e f d = absurd (cc)
not-down (Some l) link e f d = let same : l ≡ link = cc in let none : l.failure ≡ None = ap (λ (x : LinkModel Wire). x.failure) same ∙ f in absurd (false≢true (subst IsSome none d))

pub not-up : (o : Option (LinkModel Wire)) (link : LinkModel Wire) → o ≡ Some link → link.failure ≡ None → IsSome link.failure → ⊥
not-up o link e f d = absurd (false≢true (subst IsSome f d))

module _ {C J : Type 0} where
  -- of a step of the carrier: the workers stay
  workers-stay : (event : CarrierEvent) (s s' : System C J) → CarrierStep s event s' → s'.workers ≡ s.workers
  workers-stay event s s' step = ap (λ (x : System C J). x.workers) step.leaves

  -- A step by which lanes and pending_runs stay, and one backend changes, whose link stays or had failed.
  pub backend-stutter : (event : CarrierEvent) (s s' : System C J) (w : WorldModel) (k : ℕ) (backend backend' : Backend Wire) → IsShadow s w
      → CarrierStep s event s' → opened_by event s.opened ≡ s.opened → slice_get s.carrier.backends k ≡ Some backend
      → s'.carrier.backends ≡ slice_set s.carrier.backends k backend' → s'.carrier.lanes ≡ s.carrier.lanes → s'.carrier.pending_runs ≡ s.carrier.pending_runs
      → StaysDown backend backend' → SameBag (line_downs backend) (line_downs backend') → IsShadow s' w
  backend-stutter event s s' w k backend backend' h step quiet at backends lanes pending_runs stays bag =
      carrier-stutter event s s' w h step quiet works fails sight (same-seats s s' (ap length lanes) pending_runs)
      (λ j model lane p q. down-fits s w h j model lane p (sym (ap (λ xs. slice_get xs j) lanes) ∙ q))
      whole ups
    where
      seen : (j : ℕ) (l : Backend Wire) → slice_get s'.carrier.backends j ≡ Some l → ((j ≡ k) × (l ≡ backend')) ⊎ ((j ≢ k) × (slice_get s.carrier.backends j ≡ Some l))
      seen j l e = at-set s.carrier.backends k backend' j l (sym (ap (λ xs. slice_get xs j) backends) ∙ e)

      works : (j : ℕ) (link : LinkModel Wire) → IsWorking s'.carrier j link → IsWorking s.carrier j link
      works j link x = ⊎_elim
          (λ (y : (j ≡ k) × (x.0 ≡ backend')).
          let linked : backend'.link ≡ Some link = ap (λ (z : Backend Wire). z.link) (sym y.1) ∙ x.2 in ⊎_elim
          (λ (z : backend'.link ≡ backend.link). (backend, subst (λ n. slice_get s.carrier.backends n ≡ Some backend) (sym y.0) at, sym z ∙ linked, x.3))
          (λ (z : IsDown backend.link × IsDown backend'.link). absurd (not-down backend'.link link linked x.3 z.1)) stays)
          (λ (y : (j ≢ k) × (slice_get s.carrier.backends j ≡ Some x.0)). (x.0, y.1, x.2, x.3))
          (seen j x.0 x.1)

      sight : StillSeen s s'
      sight = seen-stays s.carrier s'.carrier s.closed k backend backend' at backends (λ x e f. ⊎_elim
          (λ (z : backend'.link ≡ backend.link). z ∙ e)
          (λ (z : IsDown backend.link × IsDown backend'.link). absurd (not-down backend.link x e f z.0))
          stays)

      fails : (j : ℕ) (link link' : LinkModel Wire) → FailsAt s j link link' s' → ⊥
      fails j link link' x = ⊎_elim
          (λ (y : (j ≡ k) × (x.1 ≡ backend')).
          let one : Some (x.0.0) ≡ Some backend = sym x.0.1 ∙ ap (slice_get s.carrier.backends) y.0 ∙ at in
          let it : x.0.0 ≡ backend = cc in
          let was : backend.link ≡ Some link = ap (λ (z : Backend Wire). z.link) (sym it) ∙ x.0.2 in ⊎_elim
          (λ (z : backend'.link ≡ backend.link).
          let linked : Some link' ≡ Some link = sym x.3 ∙ ap (λ (u : Backend Wire). u.link) y.1 ∙ z ∙ was in
          let same : link' ≡ link = cc in
          not-up backend.link link' (was ∙ ap Some (sym same)) (ap (λ (u : LinkModel Wire). u.failure) same ∙ x.0.3) x.4)
          (λ (z : IsDown backend.link × IsDown backend'.link). not-down backend.link link was x.0.3 z.0) stays)
          (λ (y : (j ≢ k) × (slice_get s.carrier.backends j ≡ Some x.1)).
          let one : Some (x.0.0) ≡ Some x.1 = sym x.0.1 ∙ y.1 in
          let it : x.0.0 ≡ x.1 = cc in
          let linked : Some link ≡ Some link' = sym x.0.2 ∙ ap (λ (u : Backend Wire). u.link) it ∙ x.3 in
          let same : link ≡ link' = cc in
          not-up (Some link') link' refl (ap (λ (u : LinkModel Wire). u.failure) (sym same) ∙ x.0.3) x.4)
          (seen j x.1 x.2)

      whole : SameBag (downs_of s) (downs_of s')
      whole f =
          let fl = workers-stay event s s' step in
          let rings : total f (downs_in s'.workers s'.carrier.lanes) ≡ total f (downs_in s.workers s.carrier.lanes) = λ i. total f (downs_in (fl i) (lanes i)) in
          let held : total f (refusals s'.carrier.pending_runs) ≡ total f (refusals s.carrier.pending_runs) = λ i. total f (refusals (pending_runs i)) in
          let owing : total f (debts s'.carrier.backends) ≡ total f (debts (slice_set s.carrier.backends k backend')) = λ i. total f (debts (backends i)) in
          omega (arith, bag-parts f s, bag-parts f s', rings, held, owing, total-set-flat f (λ (backend : Backend Wire). told_in backend.pending_told ++ lost_in backend.link) s.carrier.backends k backend backend' at, bag f)

      ups : UpsShadow s.workers s'.carrier w
      ups j model lane p q =
          let x = h.lanes j model lane p (sym (ap (λ xs. slice_get xs j) lanes) ∙ q) in
          let pending_run : slice_get s'.carrier.pending_runs j ≡ slice_get s.carrier.pending_runs j = ap (λ xs. slice_get xs j) pending_runs in
          subst (LaneShadow w j model lane) (sym pending_run) x
