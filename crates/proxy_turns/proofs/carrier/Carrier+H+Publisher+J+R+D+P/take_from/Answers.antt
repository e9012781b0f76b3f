use Rattle.std.proofs.Common.{◌≡◌, ◌<◌, ◌≤◌, inr, arith, length, Some, refl}
use Rattle.std.specs.Prelude.{slice_get}
use Rattle.proxy_lanes.specs.Carrier.{lanes_of}
use Rattle.proxy_turns.specs.CarrierModel.{carrier_model, takes_run}
use Rattle.proxy_turns.specs.Resting.{HasNoneToCarry}
use Rattle.proxy_turns.proofs.Carrying.{at-place, took, stays}
use Rattle.proxy_turns.proofs.Places.{past, set_at}
use Rattle.proxy_turns.proofs.Resting.{taken}
use Rattle.proxy_turns.proofs.carrier.Carrier+H+Publisher+J+R+D+P.take_from.Goals as goal

pub returns-then-at-len : goal.returns-then-at-len
returns-then-at-len g c =
    let le : length c.args.self.now.pending_runs.items ≤ c.args.at = omega (arith, c.len.ensures, c.if-at-len.true) in
    (stays g.P.NodePort.calls g.D.Dial.opens g.P.RunPort.longest takes_run (carrier_model g.D.Dial.failures c.args.self.now), λ still. past _ c.args.self.now.pending_runs.items c.args.at le)

pub returns-then-at-workers : goal.returns-then-at-workers
returns-then-at-workers g c =
    let le : length (lanes_of c.args.self.now.ends) ≤ c.args.at = omega (arith, c.workers.ensures, c.if-at-workers.true) in
    (stays g.P.NodePort.calls g.D.Dial.opens g.P.RunPort.longest takes_run (carrier_model g.D.Dial.failures c.args.self.now), λ still pending here. inr (λ few. past _ (lanes_of c.args.self.now.ends) c.args.at le))

pub returns-then-at-gt65535 : goal.returns-then-at-gt65535
returns-then-at-gt65535 g c = (stays g.P.NodePort.calls g.D.Dial.opens g.P.RunPort.longest takes_run (carrier_model g.D.Dial.failures c.args.self.now), λ still pending here. inr (λ few. absurd (omega (arith, few, c.if-at-gt65535.true))))

pub returns : goal.returns
returns g c =
    let lt : c.args.at < length c.args.self.now.pending_runs.items = omega (arith, c.len.ensures, c.if-at-len.false) in
    let here : slice_get c.args.self.now.pending_runs.items c.args.at ≡ Some c.index_mut.result.now = at-place c.args.self.now.pending_runs.items c.args.at c.index_mut.result.now lt c.index_mut.ensures.value in (
      took g.P.NodePort.calls g.D.Dial.opens g.P.RunPort.longest takes_run refl refl (carrier_model g.D.Dial.failures c.args.self.now) c.args.at c.index_mut.result.now c.take.new.self _ c.take.new.ends.map c.take.result here c.take.ensures.takes c.take.ensures.map,
      λ still. set_at (HasNoneToCarry (lanes_of c.take.new.ends) c.args.at) c.args.self.now.pending_runs.items c.args.at c.index_mut.result.now c.take.new.self here
          (taken c.args.at c.index_mut.result.now c.take.new.self (lanes_of c.args.self.now.ends) (lanes_of c.take.new.ends) c.take.result still c.take.ensures.takes),
    )
