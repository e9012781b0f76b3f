use Rattle.std.proofs.Common.{arith, refl}
use Rattle.std.specs.Prelude.{slice_get}
use Rattle.std.specs.Option.{ForSome}
use Rattle.std.proofs.lemmas.Result.{err_from_is_err_and}
use Rattle.proxy_turns.specs.CarrierModel.{carrier_model, serves_lane}
use Rattle.proxy_turns.specs.Resting.{RunRests}
use Rattle.proxy_turns.proofs.Carrying.{stays, goes_then, turns_err}
use Rattle.proxy_turns.proofs.Places.{either_side, or_false, past, up_to}
use Rattle.proxy_turns.proofs.Quiet.{quiet_by}
use Rattle.proxy_turns.proofs.Resting.{runs_rest_on}
use Rattle.proxy_turns.proofs.carrier.Carrier+H+Publisher+J+R+D+P.serve_lanes.Goals as goal

pub loop-worker-init : goal.loop-worker-init
loop-worker-init g c = record { goes = stays g.P.NodePort.calls g.D.Dial.opens g.P.RunPort.longest serves_lane _; rests = λ still k lt. absurd (omega (arith, lt)) }

pub loop-worker-preserved : goal.loop-worker-preserved
loop-worker-preserved g c =
    let old = carrier_model g.D.Dial.failures c.loop-worker.self in
    let new = carrier_model g.D.Dial.failures c.serve_lane.new.self in
    record {
      goes = goes_then g.P.NodePort.calls g.D.Dial.opens g.P.RunPort.longest serves_lane _ _ _ _ _ c.loop-worker.invariant.goes c.in_ok-moved.ensures.0;
      rests = λ still. let none = or_false _ _ still in
          up_to (λ k. ForSome (slice_get new.pending_runs k) (λ pending. RunRests new.lanes new.backends k pending.refused pending.run)) c.loop-worker.worker
          (λ k lt. runs_rest_on old new (quiet_by g.P.NodePort.calls g.D.Dial.opens g.P.RunPort.longest serves_lane refl _ _ _ none.1 c.in_ok-moved.ensures.0) k (c.loop-worker.invariant.rests none.0 k lt))
          (c.in_ok-moved.ensures.1 none.1);
    }

pub returns-in_err-moved : goal.returns-in_err-moved
returns-in_err-moved g c = turns_err g.P.NodePort.calls g.D.Dial.opens g.P.RunPort.longest serves_lane _ _ _ _ _ _ _ c.loop-worker.invariant.goes c.in_err-moved.ensures (err_from_is_err_and c.from_residual.result c.from_residual.ensures.1).1

pub returns : goal.returns
returns g c =
    let old = (carrier_model g.D.Dial.failures c.args.self.now) in
    let new = carrier_model g.D.Dial.failures c.loop-worker.self in (
      c.loop-worker.invariant.goes,
      λ still. either_side (λ k. ForSome (slice_get new.pending_runs k) (λ pending. RunRests new.lanes new.backends k pending.refused pending.run)) c.loop-worker.worker (c.loop-worker.invariant.rests still)
          (λ k le. runs_rest_on old new (quiet_by g.P.NodePort.calls g.D.Dial.opens g.P.RunPort.longest serves_lane refl _ _ _ still c.loop-worker.invariant.goes) k (past _ old.pending_runs k (omega (arith, le, c.loop-worker-test.false, c.len-worker-end.ensures)))),
    )
