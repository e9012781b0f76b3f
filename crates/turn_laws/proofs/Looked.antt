-- Lanes that gave nothing, or were full: the machine does nothing.
use Rattle.std.proofs.Common.{◌≡◌, ◌⊎◌, ⊎_elim, ℕ, ◌+◌, false, List, [], ◌∷◌, ◌++◌, Some, None, refl, sym, ap, ◌∙◌, subst, arith, length}
use Rattle.std.specs.Prelude.{slice_get, IsSome, Option, All}
use Rattle.key_split.specs.declared.travel.Ticket.{Ticket}
use Rattle.key_split.specs.declared.travel.Told.TheVariants.{Unsent}
use Rattle.proxy_lanes.specs.declared.ends.lane_ends.LaneEnds.{LaneEnds}
use Rattle.proxy_lanes.specs.Ends.{ChangesAt, TakesUp}
use Rattle.proxy_turns.specs.declared.newcomer.Newcomer.{Newcomer}
use Rattle.proxy_turns.specs.declared.pending_run.PendingRun.{PendingRun}
use Rattle.proxy_turns.specs.declared.backend.Backend.{Backend}
use Rattle.proxy_turns.specs.declared.backend.PendingTold.{PendingTold}
use Rattle.proxy_turns.specs.WorkerModel.{WorkerModel}
use Rattle.proxy_turns.specs.PendingRun.{WaitsToGive, WaitsToTell, ComesBack, GiveOutcome, TellOutcome, TakeOutcome}
use Rattle.proxy_turns.specs.CarrierModel.{CarrierModel, Looked}
use Rattle.world_laws.specs.State.{WorldModel}
use Rattle.world_laws.specs.Places.{total}
use Rattle.world_laws.proofs.Nodes.{set-size}
use Rattle.turn_laws.specs.Wire.{Wire}
use Rattle.turn_laws.specs.System.{System, between}
use Rattle.turn_laws.specs.Shadow.{IsShadow}
use Rattle.turn_laws.specs.Underway.{down_in, ups_in, run_in}
use Rattle.turn_laws.specs.Steps.{CarrierStep}
use Rattle.turn_laws.proofs.Downs.{Pair}
use Rattle.turn_laws.proofs.Lanes.{between-none}
use Rattle.turn_laws.proofs.Frames.{same-seats, seen-same}
use Rattle.turn_laws.proofs.Bags.{refusals, debts}
use Rattle.turn_laws.proofs.AtLanes.{back-fits, came-back, lane-stutter, pending_runs-stutter, same-backends, ups-up}

module _ {C J : Type 0} where
  -- lanes that gave nothing, or were full
  module _ (s s' : System C J) (w : WorldModel) (h : IsShadow s w) (on : CarrierStep s Looked s') where
    backends : s'.carrier.backends ≡ s.carrier.backends
    backends = ap (λ (c : CarrierModel (Newcomer C J) Wire). c.backends) on.does.0

    pending_runs : s'.carrier.pending_runs ≡ s.carrier.pending_runs
    pending_runs = ap (λ (c : CarrierModel (Newcomer C J) Wire). c.pending_runs) on.does.0

    looked-kept : s'.carrier.lanes ≡ s.carrier.lanes → IsShadow s' w
    looked-kept lanes = pending_runs-stutter Looked s s' w h on refl (same-backends s s' backends) (seen-same s s' backends) lanes (same-seats s s' (ap length lanes) pending_runs).seated
        (λ j model lane. λ i. ups_in model lane (slice_get (pending_runs i) j))
        (λ f. λ i. total f (refusals (pending_runs i)) + total f (debts (backends i)))

    looked-back : (pair : Pair) → ComesBack s.carrier.lanes pair s'.carrier.lanes → IsShadow s' w
    looked-back pair c =
        let x : LaneEnds (Newcomer C J) = c.0 in
        let y : LaneEnds (Newcomer C J) = c.1 in
        let up : y.up ≡ x.up = ap (λ (l : LaneEnds (Newcomer C J)). l.up) c.4.0 in
        lane-stutter Looked s s' w h on refl (same-backends s s' backends) (seen-same s s' backends) pair.0.worker x y c.2 c.3 (same-seats s s' (ap length c.3 ∙ set-size s.carrier.lanes pair.0.worker y) pending_runs).seated
        (λ model p. back-fits x.down y.down pair.0.worker model.inlet (came-back x.down y.down pair c.4.1 model.inlet (h.down_steps pair.0.worker model x p c.2)) (h.to_worker pair.0.worker model x p c.2) (h.unfinished pair.0.worker x c.2))
        (λ model p. ups-up model x y up (slice_get s'.carrier.pending_runs pair.0.worker) ∙ (λ i. ups_in model x (slice_get (pending_runs i) pair.0.worker)))
        (λ j ne model lane. λ i. ups_in model lane (slice_get (pending_runs i) j))
        (λ model p f. omega (
          arith,
          ap (total f) (came-back x.down y.down pair c.4.1 model.inlet (h.down_steps pair.0.worker model x p c.2)).0,
          ap (λ hs. total f (refusals hs)) pending_runs,
          ap (λ ls. total f (debts ls)) backends,
        ))

    looked-none : (k : ℕ) → ChangesAt s.carrier.lanes k s'.carrier.lanes (λ lane lane'. TakesUp lane lane' None) → IsShadow s' w
    looked-none k c =
        let x : LaneEnds (Newcomer C J) = c.0 in
        let y : LaneEnds (Newcomer C J) = c.1 in
        let down : y.down ≡ x.down = ap (λ (l : LaneEnds (Newcomer C J)). l.down) c.4.0 in
        lane-stutter Looked s s' w h on refl (same-backends s s' backends) (seen-same s s' backends) k x y c.2 c.3 (same-seats s s' (ap length c.3 ∙ set-size s.carrier.lanes k y) pending_runs).seated
        (λ model p. (λ outlet e. h.down_steps k model x p c.2 outlet (sym down ∙ e), subst (λ o. All (λ (q : Pair). q.0.worker ≡ k) (down_in o model.inlet)) (sym down) (h.to_worker k model x p c.2), subst IsSome (sym down) (h.unfinished k x c.2)))
        (λ model p. same-up model x y (between-none model.outlet x.up y.up c.4.1) (slice_get s'.carrier.pending_runs k) ∙ (λ i. ups_in model x (slice_get (pending_runs i) k)))
        (λ j ne model lane. λ i. ups_in model lane (slice_get (pending_runs i) j))
        (λ model p f. omega (
          arith,
          ap (λ o. total f (down_in o model.inlet)) down,
          ap (λ hs. total f (refusals hs)) pending_runs,
          ap (λ ls. total f (debts ls)) backends,
        ))
      where
        same-up : (model : WorkerModel C J) (x y : LaneEnds (Newcomer C J)) → between model.outlet y.up ≡ between model.outlet x.up → (pending_run : Option PendingRun) → ups_in model y pending_run ≡ ups_in model x pending_run
        same-up model x y e None = e
        same-up model x y e (Some pending_run) = ap (λ u. run_in pending_run.run ++ u) e

    gives-none : (o : Option PendingTold) → WaitsToGive o s.carrier.lanes s'.carrier.lanes → IsShadow s' w
    gives-none None x = looked-kept x
    gives-none (Some pending_told) x = ⊎_elim
        (λ (y : IsSome pending_told.change × (s'.carrier.lanes ≡ s.carrier.lanes)). looked-kept y.1)
        (λ (y : (pending_told.change ≡ None) × ComesBack s.carrier.lanes (pending_told.ticket, pending_told.told) s'.carrier.lanes). looked-back (pending_told.ticket, pending_told.told) y.1)
        x

    tells-none : (tickets : List Ticket) → WaitsToTell tickets s.carrier.lanes s'.carrier.lanes → IsShadow s' w
    tells-none [] x = looked-kept x
    tells-none (ticket ∷ later) x = looked-back (ticket, Unsent) x

    pub looked : IsShadow s' w
    looked = ⊎_elim
        (λ (x : (k : ℕ) × (backend : Backend Wire) × (slice_get s.carrier.backends k ≡ Some backend) × GiveOutcome backend s.carrier.lanes false backend s'.carrier.lanes). gives-none (x.1).pending_told x.3.1)
        (λ (x : (k : ℕ) × (pending_run : PendingRun) × (slice_get s.carrier.pending_runs k ≡ Some pending_run)
        × (TellOutcome pending_run s.carrier.lanes false pending_run s'.carrier.lanes ⊎ TakeOutcome k pending_run s.carrier.lanes false pending_run s'.carrier.lanes)).
        ⊎_elim (λ (y : TellOutcome x.1 s.carrier.lanes false x.1 s'.carrier.lanes). tells-none (x.1).refused y.1)
        (λ (y : TakeOutcome x.0 x.1 s.carrier.lanes false x.1 s'.carrier.lanes). ⊎_elim (λ z. looked-kept z.1) (λ z. looked-none x.0 z.1) y.1) x.3)
        on.does.1
