use Rattle.std.proofs.Common.{arith, refl}
use Rattle.std.specs.Prelude.{slice_get}
use Rattle.std.specs.Option.{ForSome}
use Rattle.std.proofs.lemmas.Result.{err_from_is_err_and}
use Rattle.proxy_turns.specs.CarrierModel.{carrier_model, serves_backend}
use Rattle.proxy_turns.specs.Backend.{GaveNone}
use Rattle.proxy_turns.specs.Resting.{BackendRests}
use Rattle.proxy_turns.proofs.Carrying.{stays, goes_then, turns_err}
use Rattle.proxy_turns.proofs.Places.{either_side, or_false, past, up_to}
use Rattle.proxy_turns.proofs.Quiet.{quiet_by}
use Rattle.proxy_turns.proofs.Receiving.{keeps_received}
use Rattle.proxy_turns.proofs.Resting.{backend_rests_on}
use Rattle.proxy_turns.proofs.carrier.Carrier+H+Publisher+J+R+D+P.serve_backends.Goals as goal

pub loop-at-init : goal.loop-at-init
loop-at-init g c = record { goes = stays g.P.NodePort.calls g.D.Dial.opens g.P.RunPort.longest serves_backend _; rests = λ still k lt. absurd (omega (arith, lt)) }

pub loop-at-preserved : goal.loop-at-preserved
loop-at-preserved g c =
    let gave = GaveNone g.P.NodePort.calls in
    let old = carrier_model g.D.Dial.failures c.loop-at.self in
    let new = carrier_model g.D.Dial.failures c.serve_backend.new.self in
    record {
      goes = goes_then g.P.NodePort.calls g.D.Dial.opens g.P.RunPort.longest serves_backend _ _ _ _ _ c.loop-at.invariant.goes c.in_ok-moved.ensures.0;
      rests = λ still. let none = or_false _ _ still in
          up_to (λ k. ForSome (slice_get new.backends k) (BackendRests gave new.nodes new.lanes)) c.loop-at.at
          (λ k lt. backend_rests_on gave old new (quiet_by g.P.NodePort.calls g.D.Dial.opens g.P.RunPort.longest serves_backend refl _ _ _ none.1 c.in_ok-moved.ensures.0) (keeps_received g.P.NodePort.calls g.D.Dial.opens g.P.RunPort.longest serves_backend _ _ _ none.1 c.in_ok-moved.ensures.0) k (c.loop-at.invariant.rests none.0 k lt))
          (c.in_ok-moved.ensures.1 none.1);
    }

pub returns-in_err-moved : goal.returns-in_err-moved
returns-in_err-moved g c = turns_err g.P.NodePort.calls g.D.Dial.opens g.P.RunPort.longest serves_backend _ _ _ _ _ _ _ c.loop-at.invariant.goes c.in_err-moved.ensures (err_from_is_err_and c.from_residual.result c.from_residual.ensures.1).1

pub returns : goal.returns
returns g c =
    let gave = GaveNone g.P.NodePort.calls in
    let old = (carrier_model g.D.Dial.failures c.args.self.now) in
    let new = carrier_model g.D.Dial.failures c.loop-at.self in (
      c.loop-at.invariant.goes,
      λ still. either_side (λ k. ForSome (slice_get new.backends k) (BackendRests gave new.nodes new.lanes)) c.loop-at.at (c.loop-at.invariant.rests still)
          (λ k le. backend_rests_on gave old new (quiet_by g.P.NodePort.calls g.D.Dial.opens g.P.RunPort.longest serves_backend refl _ _ _ still c.loop-at.invariant.goes) (keeps_received g.P.NodePort.calls g.D.Dial.opens g.P.RunPort.longest serves_backend _ _ _ still c.loop-at.invariant.goes) k (past _ old.backends k (omega (arith, le, c.loop-at-test.false, c.len-at-end.ensures)))),
    )
