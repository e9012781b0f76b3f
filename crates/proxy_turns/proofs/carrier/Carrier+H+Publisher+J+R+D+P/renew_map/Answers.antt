use Rattle.proxy_turns.proofs.Carrying.{at-place, stays, err_wider, goes_then, turns_err}
use Rattle.proxy_turns.proofs.Places.{at_one, past, four_false}
use Rattle.proxy_turns.proofs.Quiet.{quiet_by}
use Rattle.proxy_turns.proofs.Resting.{map_at_rest, no_work}
use Rattle.proxy_turns.specs.Backend.{HasNoMapWork}
use Rattle.proxy_turns.specs.CarrierModel.{carrier_model, renews_map}
use Rattle.std.proofs.Common.{refl, ◌≡◌, ◌∙◌, ◌<◌, ◌≤◌, sym, arith, length, Some}
use Rattle.std.proofs.lemmas.Result.{err_from_is_err_and}
use Rattle.std.specs.Prelude.{slice_get}
use Rattle.proxy_turns.proofs.carrier.Carrier+H+Publisher+J+R+D+P.renew_map.Goals as goal

pub returns-then-at-len : goal.returns-then-at-len
returns-then-at-len g c =
    let le : length c.args.self.now.backends.items ≤ c.args.at = omega (arith, c.len.ensures, c.if-at-len.true) in
    (stays g.P.NodePort.calls g.D.Dial.opens g.P.RunPort.longest renews_map (carrier_model g.D.Dial.failures c.args.self.now), λ still. past _ c.args.self.now.backends.items c.args.at le)

pub returns-then-not-has_map_work : goal.returns-then-not-has_map_work
returns-then-not-has_map_work g c =
    let lt : c.args.at < length c.args.self.now.backends.items = omega (arith, c.len.ensures, c.if-at-len.false) in
    let here : slice_get c.args.self.now.backends.items c.args.at ≡ Some c.index.result.now = at-place c.args.self.now.backends.items c.args.at c.index.result.now lt c.index.ensures in (
      stays g.P.NodePort.calls g.D.Dial.opens g.P.RunPort.longest renews_map (carrier_model g.D.Dial.failures c.args.self.now),
      λ still. at_one (λ backend. HasNoMapWork backend) c.args.self.now.backends.items c.args.at c.index.result.now here (no_work c.index.result.now (sym c.has_map_work.ensures ∙ c.if-not-has_map_work.true)),
    )

pub returns-in_err-published : goal.returns-in_err-published
returns-in_err-published g c = err_wider g.P.NodePort.calls g.D.Dial.opens g.P.RunPort.longest renews_map _ renews_map (λ event kind. kind) _ _ _ _ c.in_err-published.ensures (err_from_is_err_and c.from_residual.result c.from_residual.ensures.1).1

pub returns-in_err-asked : goal.returns-in_err-asked
returns-in_err-asked g c = turns_err g.P.NodePort.calls g.D.Dial.opens g.P.RunPort.longest renews_map _ _ _ _ _ _ _ c.in_ok-published.ensures.0 c.in_err-asked.ensures (err_from_is_err_and c.from_residual-in_err-asked.result c.from_residual-in_err-asked.ensures.1).1

pub returns-in_err-read : goal.returns-in_err-read
returns-in_err-read g c =
    turns_err g.P.NodePort.calls g.D.Dial.opens g.P.RunPort.longest renews_map _ _ _ _ _ _ _ (goes_then g.P.NodePort.calls g.D.Dial.opens g.P.RunPort.longest renews_map _ _ _ _ _ c.in_ok-published.ensures.0 c.in_ok-asked.ensures.0) c.in_err-read.ensures (err_from_is_err_and c.from_residual-in_err-read.result c.from_residual-in_err-read.ensures.1).1

pub returns-in_err-renewed : goal.returns-in_err-renewed
returns-in_err-renewed g c =
    turns_err g.P.NodePort.calls g.D.Dial.opens g.P.RunPort.longest renews_map _ _ _ _ _ _ _
    (goes_then g.P.NodePort.calls g.D.Dial.opens g.P.RunPort.longest renews_map _ _ _ _ _ (goes_then g.P.NodePort.calls g.D.Dial.opens g.P.RunPort.longest renews_map _ _ _ _ _ c.in_ok-published.ensures.0 c.in_ok-asked.ensures.0) c.in_ok-read.ensures.0)
    c.in_err-renewed.ensures (err_from_is_err_and c.from_residual-in_err-renewed.result c.from_residual-in_err-renewed.ensures.1).1

pub returns : goal.returns
returns g c = (
  goes_then g.P.NodePort.calls g.D.Dial.opens g.P.RunPort.longest renews_map _ _ _ _ _
      (goes_then g.P.NodePort.calls g.D.Dial.opens g.P.RunPort.longest renews_map _ _ _ _ _ (goes_then g.P.NodePort.calls g.D.Dial.opens g.P.RunPort.longest renews_map _ _ _ _ _ c.in_ok-published.ensures.0 c.in_ok-asked.ensures.0) c.in_ok-read.ensures.0)
      c.in_ok-renewed.ensures.0,
  λ still. let none = four_false _ _ _ _ still in
      map_at_rest _ _ _ _
      (quiet_by g.P.NodePort.calls g.D.Dial.opens g.P.RunPort.longest renews_map refl _ _ _ none.1 c.in_ok-asked.ensures.0)
      (quiet_by g.P.NodePort.calls g.D.Dial.opens g.P.RunPort.longest renews_map refl _ _ _ none.2 c.in_ok-read.ensures.0)
      (quiet_by g.P.NodePort.calls g.D.Dial.opens g.P.RunPort.longest renews_map refl _ _ _ none.3 c.in_ok-renewed.ensures.0)
      c.args.at (c.in_ok-published.ensures.1 none.0) (c.in_ok-asked.ensures.1 none.1) (c.in_ok-read.ensures.1 none.2) (c.in_ok-renewed.ensures.1 none.3),
)
