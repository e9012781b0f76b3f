use Rattle.std.proofs.Common.{refl}
use Rattle.std.proofs.lemmas.Result.{err_from_is_err_and}
use Rattle.proxy_turns.specs.CarrierModel.{connects, sends, serves_lane, takes_run, tells_unsent}
use Rattle.proxy_turns.proofs.Carrying.{goes_then, goes_wider, turns_err_wider}
use Rattle.proxy_turns.proofs.EventKinds.{run_sent, run_taken, node_connected, unsent_told}
use Rattle.proxy_turns.proofs.Places.{four_false}
use Rattle.proxy_turns.proofs.Quiet.{quiet_by}
use Rattle.proxy_turns.proofs.Resting.{run_at_rest}
use Rattle.proxy_turns.proofs.carrier.Carrier+H+Publisher+J+R+D+P.carry_run.Goals as goal

pub returns-in_err-opened : goal.returns-in_err-opened
returns-in_err-opened g c = turns_err_wider g.P.NodePort.calls g.D.Dial.opens g.P.RunPort.longest serves_lane _ connects node_connected _ _ _ _ _ _ (goes_then g.P.NodePort.calls g.D.Dial.opens g.P.RunPort.longest serves_lane _ _ _ _ _ (goes_wider g.P.NodePort.calls g.D.Dial.opens g.P.RunPort.longest serves_lane tells_unsent unsent_told _ _ _ c.tell_unsent_of-told.ensures.0) (goes_wider g.P.NodePort.calls g.D.Dial.opens g.P.RunPort.longest serves_lane takes_run run_taken _ _ _ c.take_from-took.ensures.0)) c.in_err-opened.ensures (err_from_is_err_and c.from_residual.result c.from_residual.ensures.1).1

pub returns-in_err-sent : goal.returns-in_err-sent
returns-in_err-sent g c = turns_err_wider g.P.NodePort.calls g.D.Dial.opens g.P.RunPort.longest serves_lane _ sends run_sent _ _ _ _ _ _ (goes_then g.P.NodePort.calls g.D.Dial.opens g.P.RunPort.longest serves_lane _ _ _ _ _ (goes_then g.P.NodePort.calls g.D.Dial.opens g.P.RunPort.longest serves_lane _ _ _ _ _ (goes_wider g.P.NodePort.calls g.D.Dial.opens g.P.RunPort.longest serves_lane tells_unsent unsent_told _ _ _ c.tell_unsent_of-told.ensures.0) (goes_wider g.P.NodePort.calls g.D.Dial.opens g.P.RunPort.longest serves_lane takes_run run_taken _ _ _ c.take_from-took.ensures.0)) (goes_wider g.P.NodePort.calls g.D.Dial.opens g.P.RunPort.longest serves_lane connects node_connected _ _ _ c.in_ok-opened.ensures.0)) c.in_err-sent.ensures (err_from_is_err_and c.from_residual-in_err-sent.result c.from_residual-in_err-sent.ensures.1).1

pub returns : goal.returns
returns g c = (
  goes_then g.P.NodePort.calls g.D.Dial.opens g.P.RunPort.longest serves_lane _ _ _ _ _ (goes_then g.P.NodePort.calls g.D.Dial.opens g.P.RunPort.longest serves_lane _ _ _ _ _ (goes_then g.P.NodePort.calls g.D.Dial.opens g.P.RunPort.longest serves_lane _ _ _ _ _ (goes_wider g.P.NodePort.calls g.D.Dial.opens g.P.RunPort.longest serves_lane tells_unsent unsent_told _ _ _ c.tell_unsent_of-told.ensures.0) (goes_wider g.P.NodePort.calls g.D.Dial.opens g.P.RunPort.longest serves_lane takes_run run_taken _ _ _ c.take_from-took.ensures.0)) (goes_wider g.P.NodePort.calls g.D.Dial.opens g.P.RunPort.longest serves_lane connects node_connected _ _ _ c.in_ok-opened.ensures.0)) (goes_wider g.P.NodePort.calls g.D.Dial.opens g.P.RunPort.longest serves_lane sends run_sent _ _ _ c.in_ok-sent.ensures.0),
  λ still. let none = four_false _ _ _ _ still in
      run_at_rest _ _ _ _
      (quiet_by g.P.NodePort.calls g.D.Dial.opens g.P.RunPort.longest takes_run refl _ _ _ none.1 c.take_from-took.ensures.0)
      (quiet_by g.P.NodePort.calls g.D.Dial.opens g.P.RunPort.longest connects refl _ _ _ none.2 c.in_ok-opened.ensures.0)
      (quiet_by g.P.NodePort.calls g.D.Dial.opens g.P.RunPort.longest sends refl _ _ _ none.3 c.in_ok-sent.ensures.0)
      c.args.worker (c.tell_unsent_of-told.ensures.1 none.0) (c.take_from-took.ensures.1 none.1) (c.in_ok-opened.ensures.1 none.2) (c.in_ok-sent.ensures.1 none.3),
)
