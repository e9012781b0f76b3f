-- What is on its way down is what lies in the lanes, what is refused, and what the backends owe.
use Rattle.std.proofs.Common.{◌≡◌, ℕ, ◌+◌, List, ◌++◌, refl, arith}
use Rattle.std.specs.List.{flat_map}
use Rattle.proxy_turns.specs.declared.pending_run.PendingRun.{PendingRun}
use Rattle.proxy_turns.specs.declared.backend.Backend.{Backend}
use Rattle.world_laws.specs.Places.{total}
use Rattle.world_laws.proofs.Tally.{total-append}
use Rattle.turn_laws.specs.Wire.{Wire}
use Rattle.turn_laws.specs.System.{System}
use Rattle.turn_laws.specs.Underway.{downs_of, downs_in, refused_in, told_in, lost_in}
use Rattle.turn_laws.proofs.Downs.{Pair}

abbrev pub refusals : List PendingRun → List Pair
refusals pending_runs = flat_map (λ (pending_run : PendingRun). refused_in pending_run.refused) pending_runs

abbrev pub line_downs : Backend Wire → List Pair
line_downs backend = told_in backend.pending_told ++ lost_in backend.link

abbrev pub debts : List (Backend Wire) → List Pair
debts backends = flat_map (λ (backend : Backend Wire). told_in backend.pending_told ++ lost_in backend.link) backends

module _ {C J : Type 0} where
  pub bag-parts : (f : Pair → ℕ) (s : System C J) → total f (downs_of s) ≡ total f (downs_in s.workers s.carrier.lanes) + total f (refusals s.carrier.pending_runs) + total f (debts s.carrier.backends)
  bag-parts f s =
      let e : total f (downs_of s) ≡ total f ((downs_in s.workers s.carrier.lanes ++ refusals s.carrier.pending_runs) ++ debts s.carrier.backends) = refl in
      omega (arith, e, total-append f (downs_in s.workers s.carrier.lanes ++ refusals s.carrier.pending_runs) (debts s.carrier.backends), total-append f (downs_in s.workers s.carrier.lanes) (refusals s.carrier.pending_runs))
