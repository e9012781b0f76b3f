use Rattle.std.proofs.Common.{◌≡◌, ◌<◌, ◌≤◌, arith, length, Some, refl}
use Rattle.std.specs.Prelude.{slice_get}
use Rattle.proxy_lanes.specs.Carrier.{lanes_of}
use Rattle.proxy_turns.specs.CarrierModel.{carrier_model, tells_unsent}
use Rattle.proxy_turns.specs.Resting.{HasNoneToTell}
use Rattle.proxy_turns.proofs.Carrying.{at-place, told, stays}
use Rattle.proxy_turns.proofs.Places.{past, set_at}
use Rattle.proxy_turns.proofs.Resting.{told_unsent}
use Rattle.proxy_turns.proofs.carrier.Carrier+H+Publisher+J+R+D+P.tell_unsent_of.Goals as goal

pub returns-then-at-len : goal.returns-then-at-len
returns-then-at-len g c =
    let le : length c.args.self.now.pending_runs.items ≤ c.args.at = omega (arith, c.len.ensures, c.if-at-len.true) in
    (stays g.P.NodePort.calls g.D.Dial.opens g.P.RunPort.longest tells_unsent (carrier_model g.D.Dial.failures c.args.self.now), λ still. past _ c.args.self.now.pending_runs.items c.args.at le)

pub returns : goal.returns
returns g c =
    let lt : c.args.at < length c.args.self.now.pending_runs.items = omega (arith, c.len.ensures, c.if-at-len.false) in
    let here : slice_get c.args.self.now.pending_runs.items c.args.at ≡ Some c.index_mut.result.now = at-place c.args.self.now.pending_runs.items c.args.at c.index_mut.result.now lt c.index_mut.ensures.value in (
      told g.P.NodePort.calls g.D.Dial.opens g.P.RunPort.longest tells_unsent refl refl (carrier_model g.D.Dial.failures c.args.self.now) c.args.at c.index_mut.result.now c.tell_unsent.new.self _ c.tell_unsent.new.ends.map c.tell_unsent.result here c.tell_unsent.ensures.tells c.tell_unsent.ensures.map,
      λ still. set_at (HasNoneToTell (lanes_of c.tell_unsent.new.ends)) c.args.self.now.pending_runs.items c.args.at c.index_mut.result.now c.tell_unsent.new.self here
          (told_unsent c.index_mut.result.now c.tell_unsent.new.self (lanes_of c.args.self.now.ends) (lanes_of c.tell_unsent.new.ends) c.tell_unsent.result still c.tell_unsent.ensures.tells),
    )
