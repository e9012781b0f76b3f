use Rattle.std.proofs.Common.{◌≡◌, ◌∙◌, ◌<◌, ◌≤◌, ap, sym, arith, length, Some, refl}
use Rattle.std.specs.Prelude.{slice_get}
use Rattle.std.specs.List.{list_any}
use Rattle.std.proofs.lemmas.Result.{err_from_is_err_and}
use Rattle.proxy_turns.specs.CarrierModel.{carrier_model, renews_map}
use Rattle.proxy_turns.specs.Backend.{IsDone, is_unanswered}
use Rattle.proxy_turns.proofs.Carrying.{at-place, served, starved, stays}
use Rattle.proxy_turns.proofs.Places.{past, set_at}
use Rattle.proxy_turns.proofs.carrier.Carrier+H+Publisher+J+R+D+P.run_map_task.Goals as goal

pub returns-then-at-len : goal.returns-then-at-len
returns-then-at-len g c =
    let le : length c.args.self.now.backends.items ≤ c.args.at = omega (arith, c.len.ensures, c.if-at-len.true) in
    (stays g.P.NodePort.calls g.D.Dial.opens g.P.RunPort.longest renews_map (carrier_model g.D.Dial.failures c.args.self.now), λ still. past _ c.args.self.now.backends.items c.args.at le)

pub returns-in_err-step : goal.returns-in_err-step
returns-in_err-step g c =
    let lt : c.args.at < length c.args.self.now.backends.items = omega (arith, c.len.ensures, c.if-at-len.false) in
    let here : slice_get c.args.self.now.backends.items c.args.at ≡ Some c.index_mut.result.now = at-place c.args.self.now.backends.items c.args.at c.index_mut.result.now lt c.index_mut.ensures.value in
    starved g.P.NodePort.calls g.D.Dial.opens g.P.RunPort.longest renews_map _ refl (carrier_model g.D.Dial.failures c.args.self.now) c.args.at c.index_mut.result.now c.run_task.new.self c.run_task.new.nodes c.run_task.new.map _ c.from_residual.result here c.in_err-step.ensures (err_from_is_err_and c.from_residual.result c.from_residual.ensures.1).1

pub returns : goal.returns
returns g c =
    let lt : c.args.at < length c.args.self.now.backends.items = omega (arith, c.len.ensures, c.if-at-len.false) in
    let here : slice_get c.args.self.now.backends.items c.args.at ≡ Some c.index_mut.result.now = at-place c.args.self.now.backends.items c.args.at c.index_mut.result.now lt c.index_mut.ensures.value in (
      served g.P.NodePort.calls g.D.Dial.opens g.P.RunPort.longest renews_map (carrier_model g.D.Dial.failures c.args.self.now) c.args.at c.index_mut.result.now c.run_task.new.self c.run_task.new.nodes c.run_task.new.map c.any_unanswered-unanswered.result c.in_ok-step.step c.is_move.result here
          (c.any_unanswered-unanswered.ensures ∙ ap (λ backends. list_any is_unanswered backends) c.deref.ensures.value) c.in_ok-step.ensures.0 c.is_move.ensures c.in_ok-step.ensures.1,
      λ still. set_at (IsDone c.args.task) c.args.self.now.backends.items c.args.at c.index_mut.result.now c.run_task.new.self here (c.in_ok-step.ensures.2 (sym c.is_move.ensures ∙ still)),
    )
