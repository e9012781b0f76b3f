use Rattle.std.proofs.Common.{refl}
use Rattle.std.proofs.lemmas.Result.{err_from_is_err_and}
use Rattle.proxy_turns.specs.CarrierModel.{fetches, gives, renews_map, serves_backend}
use Rattle.proxy_turns.proofs.Carrying.{err_wider, goes_then, goes_wider, turns_err_wider}
use Rattle.proxy_turns.proofs.EventKinds.{map_renewed, reply_fetched, reply_given}
use Rattle.proxy_turns.proofs.Places.{three_false}
use Rattle.proxy_turns.proofs.Quiet.{quiet_by}
use Rattle.proxy_turns.proofs.Receiving.{keeps_received}
use Rattle.proxy_turns.proofs.Resting.{backend_at_rest}
use Rattle.proxy_turns.proofs.carrier.Carrier+H+Publisher+J+R+D+P.pass_reply.Goals as goal

pub returns-in_err-renewed : goal.returns-in_err-renewed
returns-in_err-renewed g c = err_wider g.P.NodePort.calls g.D.Dial.opens g.P.RunPort.longest serves_backend _ renews_map map_renewed _ _ _ _ c.in_err-renewed.ensures (err_from_is_err_and c.from_residual.result c.from_residual.ensures.1).1

pub returns-in_err-fetched : goal.returns-in_err-fetched
returns-in_err-fetched g c =
    turns_err_wider g.P.NodePort.calls g.D.Dial.opens g.P.RunPort.longest serves_backend _ fetches reply_fetched _ _ _ _ _ _ (goes_wider g.P.NodePort.calls g.D.Dial.opens g.P.RunPort.longest serves_backend renews_map map_renewed _ _ _ c.in_ok-renewed.ensures.0) c.in_err-fetched.ensures (err_from_is_err_and c.from_residual-in_err-fetched.result c.from_residual-in_err-fetched.ensures.1).1

pub returns : goal.returns
returns g c = (
  goes_then g.P.NodePort.calls g.D.Dial.opens g.P.RunPort.longest serves_backend _ _ _ _ _ (goes_then g.P.NodePort.calls g.D.Dial.opens g.P.RunPort.longest serves_backend _ _ _ _ _ (goes_wider g.P.NodePort.calls g.D.Dial.opens g.P.RunPort.longest serves_backend renews_map map_renewed _ _ _ c.in_ok-renewed.ensures.0) (goes_wider g.P.NodePort.calls g.D.Dial.opens g.P.RunPort.longest serves_backend fetches reply_fetched _ _ _ c.in_ok-fetched.ensures.0)) (goes_wider g.P.NodePort.calls g.D.Dial.opens g.P.RunPort.longest serves_backend gives reply_given _ _ _ c.give_from-gave.ensures.0),
  λ still. let none = three_false _ _ _ still in
      backend_at_rest _ _ _ _ (quiet_by g.P.NodePort.calls g.D.Dial.opens g.P.RunPort.longest fetches refl _ _ _ none.1 c.in_ok-fetched.ensures.0) (quiet_by g.P.NodePort.calls g.D.Dial.opens g.P.RunPort.longest gives refl _ _ _ none.2 c.give_from-gave.ensures.0)
      (keeps_received g.P.NodePort.calls g.D.Dial.opens g.P.RunPort.longest gives _ _ _ none.2 c.give_from-gave.ensures.0) c.args.at
      (c.in_ok-renewed.ensures.1 none.0) (c.in_ok-fetched.ensures.1 none.1) (c.give_from-gave.ensures.1 none.2),
)
