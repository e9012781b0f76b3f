use Rattle.std.proofs.Common.{Bool, subst}
use Rattle.std.proofs.lemmas.Result.{err_from_is_err_and}
use Rattle.proxy_turns.specs.CarrierModel.{CarrierGoesBy, carrier_model, serves_lane}
use Rattle.proxy_turns.proofs.Carrying.{goes_then, stays, turns_err}
use Rattle.proxy_turns.proofs.Places.{none_moved, one_moved, some_moved}
use Rattle.proxy_turns.proofs.carrier.Carrier+H+Publisher+J+R+D+P.serve_lane.Goals as goal

pub loop-carried-init : goal.loop-carried-init
loop-carried-init g c = stays g.P.NodePort.calls g.D.Dial.opens g.P.RunPort.longest serves_lane _

pub loop-carried-preserved : goal.loop-carried-preserved
loop-carried-preserved g c =
    let Q : Bool → Type 0 = λ moved. CarrierGoesBy g.P.NodePort.calls g.D.Dial.opens g.P.RunPort.longest serves_lane (carrier_model g.D.Dial.failures c.args.self.now) moved (carrier_model g.D.Dial.failures c.carry_run.new.self) in
    subst Q (one_moved c.loop-carried.carried c.in_ok-moved.moved c.if-not-moved.false) (goes_then g.P.NodePort.calls g.D.Dial.opens g.P.RunPort.longest serves_lane _ _ _ _ _ c.loop-carried.invariant c.in_ok-moved.ensures.0)

pub returns-in_err-moved : goal.returns-in_err-moved
returns-in_err-moved g c = turns_err g.P.NodePort.calls g.D.Dial.opens g.P.RunPort.longest serves_lane _ _ _ _ _ _ _ c.loop-carried.invariant c.in_err-moved.ensures (err_from_is_err_and c.from_residual.result c.from_residual.ensures.1).1

pub returns-then-not-moved : goal.returns-then-not-moved
returns-then-not-moved g c =
    let Q : Bool → Type 0 = λ moved. CarrierGoesBy g.P.NodePort.calls g.D.Dial.opens g.P.RunPort.longest serves_lane (carrier_model g.D.Dial.failures c.args.self.now) moved (carrier_model g.D.Dial.failures c.carry_run.new.self) in
    (subst Q (none_moved c.loop-carried.carried c.in_ok-moved.moved c.if-not-moved.true) (goes_then g.P.NodePort.calls g.D.Dial.opens g.P.RunPort.longest serves_lane _ _ _ _ _ c.loop-carried.invariant c.in_ok-moved.ensures.0), λ still. c.in_ok-moved.ensures.1 c.if-not-moved.true)

pub returns : goal.returns
returns g c =
    let Q : Bool → Type 0 = λ moved. CarrierGoesBy g.P.NodePort.calls g.D.Dial.opens g.P.RunPort.longest serves_lane (carrier_model g.D.Dial.failures c.args.self.now) moved (carrier_model g.D.Dial.failures c.loop-carried.self) in
    (subst Q (some_moved c.loop-carried.carried _ c.loop-carried-test.false) c.loop-carried.invariant, λ still. absurd (cc))
