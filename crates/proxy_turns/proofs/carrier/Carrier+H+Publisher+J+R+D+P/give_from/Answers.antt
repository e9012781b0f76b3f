use Rattle.std.proofs.Common.{◌≡◌, ◌<◌, ◌≤◌, arith, length, Some, refl}
use Rattle.std.specs.Prelude.{slice_get}
use Rattle.proxy_lanes.specs.Carrier.{lanes_of}
use Rattle.proxy_turns.specs.CarrierModel.{carrier_model, gives}
use Rattle.proxy_turns.specs.Resting.{HasNoneToGive}
use Rattle.proxy_turns.proofs.Carrying.{at-place, gave, stays}
use Rattle.proxy_turns.proofs.Places.{past, set_at}
use Rattle.proxy_turns.proofs.Resting.{given}
use Rattle.proxy_turns.proofs.carrier.Carrier+H+Publisher+J+R+D+P.give_from.Goals as goal

pub returns-then-at-len : goal.returns-then-at-len
returns-then-at-len g c =
    let le : length c.args.self.now.backends.items ≤ c.args.at = omega (arith, c.len.ensures, c.if-at-len.true) in
    (stays g.P.NodePort.calls g.D.Dial.opens g.P.RunPort.longest gives (carrier_model g.D.Dial.failures c.args.self.now), λ still. past _ c.args.self.now.backends.items c.args.at le)

pub returns : goal.returns
returns g c =
    let lt : c.args.at < length c.args.self.now.backends.items = omega (arith, c.len.ensures, c.if-at-len.false) in
    let here : slice_get c.args.self.now.backends.items c.args.at ≡ Some c.index_mut.result.now = at-place c.args.self.now.backends.items c.args.at c.index_mut.result.now lt c.index_mut.ensures.value in (
      gave g.P.NodePort.calls g.D.Dial.opens g.P.RunPort.longest gives refl refl (carrier_model g.D.Dial.failures c.args.self.now) c.args.at c.index_mut.result.now c.give.new.self _ c.give.new.ends.map c.give.result here c.give.ensures.gives c.give.ensures.map,
      λ still. set_at (HasNoneToGive (lanes_of c.give.new.ends)) c.args.self.now.backends.items c.args.at c.index_mut.result.now c.give.new.self here
          (given c.index_mut.result.now c.give.new.self (lanes_of c.args.self.now.ends) (lanes_of c.give.new.ends) c.give.result still c.give.ensures.gives),
    )
