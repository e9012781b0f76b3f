use Rattle.std.proofs.Common.{◌≡◌, ◌∙◌, ◌<◌, ◌≤◌, sym, arith, length, Some, refl, Bool}
use Rattle.std.specs.Prelude.{slice_get}
use Rattle.std.specs.List.{list_any}
use Rattle.std.proofs.lemmas.Result.{err_from_is_err_and}
use Rattle.proxy_turns.specs.CarrierModel.{carrier_model, fetches}
use Rattle.proxy_turns.specs.Backend.{GaveNone, HasNoneToTake, HasReceived, is_unanswered}
use Rattle.proxy_turns.proofs.Carrying.{at-place, served, starved, stays}
use Rattle.proxy_turns.proofs.Places.{past, set_at}
use Rattle.proxy_turns.proofs.carrier.Carrier+H+Publisher+J+R+D+P.fetch_from.Goals as goal

pub returns-then-at-len : goal.returns-then-at-len
returns-then-at-len g c =
    let le : length c.args.self.now.backends.items ≤ c.args.at = omega (arith, c.len.ensures, c.if-at-len.true) in
    (stays g.P.NodePort.calls g.D.Dial.opens g.P.RunPort.longest fetches (carrier_model g.D.Dial.failures c.args.self.now), λ still. past _ c.args.self.now.backends.items c.args.at le)

pub returns-in_err-step : goal.returns-in_err-step
returns-in_err-step g c =
    let lt : c.args.at < length c.args.self.now.backends.items = omega (arith, c.len.ensures, c.if-at-len.false) in
    let here : slice_get c.args.self.now.backends.items c.args.at ≡ Some c.index_mut.result.now = at-place c.args.self.now.backends.items c.args.at c.index_mut.result.now lt c.index_mut.ensures.value in
    let unanswered : Bool = list_any is_unanswered c.args.self.now.backends.items in
    starved g.P.NodePort.calls g.D.Dial.opens g.P.RunPort.longest fetches _ refl (carrier_model g.D.Dial.failures c.args.self.now) c.args.at c.index_mut.result.now c.fetch.new.self c.fetch.new.nodes c.args.self.now.ends.map _ c.from_residual.result here (c.in_err-step.ensures unanswered c.args.self.now.ends.map) (err_from_is_err_and c.from_residual.result c.from_residual.ensures.1).1

pub returns : goal.returns
returns g c =
    let lt : c.args.at < length c.args.self.now.backends.items = omega (arith, c.len.ensures, c.if-at-len.false) in
    let here : slice_get c.args.self.now.backends.items c.args.at ≡ Some c.index_mut.result.now = at-place c.args.self.now.backends.items c.args.at c.index_mut.result.now lt c.index_mut.ensures.value in
    let unanswered : Bool = list_any is_unanswered c.args.self.now.backends.items in (
      served g.P.NodePort.calls g.D.Dial.opens g.P.RunPort.longest fetches (carrier_model g.D.Dial.failures c.args.self.now) c.args.at c.index_mut.result.now c.fetch.new.self c.fetch.new.nodes c.args.self.now.ends.map unanswered c.in_ok-step.step c.is_move.result here
          refl (c.in_ok-step.ensures unanswered c.args.self.now.ends.map).0 c.is_move.ensures (c.in_ok-step.ensures unanswered c.args.self.now.ends.map).1,
      λ still. set_at (λ backend. HasNoneToTake backend × HasReceived (GaveNone g.P.NodePort.calls) c.fetch.new.nodes backend) c.args.self.now.backends.items c.args.at c.index_mut.result.now c.fetch.new.self here
          ((c.in_ok-step.ensures unanswered c.args.self.now.ends.map).2 (sym c.is_move.ensures ∙ still)),
    )
