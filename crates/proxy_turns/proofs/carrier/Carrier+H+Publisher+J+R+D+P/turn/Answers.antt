use Rattle.std.proofs.lemmas.Result.{err_from_is_err_and}
use Rattle.proxy_turns.proofs.Seeking.{rests_unsought, turns_and_seeks, turns_and_starves}
use Rattle.proxy_turns.specs.CarrierModel.{carrier_model}
use Rattle.proxy_turns.proofs.carrier.Carrier+H+Publisher+J+R+D+P.turn.Goals as goal

pub returns-in_err-sought-clause-turns : goal.returns-in_err-sought-clause-turns
returns-in_err-sought-clause-turns g c =
    turns_and_starves g.P.NodePort.calls g.D.Dial.opens g.P.RunPort.longest (g.D.Dial.is_calm c.seek.new.self.dial) _ (carrier_model g.D.Dial.failures c.take_turn.new.self) c.in_ok-moved.moved _ _ _ _ c.in_ok-moved.ensures c.in_err-sought.ensures
    (err_from_is_err_and c.from_residual-in_err-sought.result c.from_residual-in_err-sought.ensures.1).1

pub returns-clause-turns : goal.returns-clause-turns
returns-clause-turns g c =
    turns_and_seeks g.P.NodePort.calls g.D.Dial.opens g.P.RunPort.longest (g.D.Dial.is_calm c.seek.new.self.dial) _ (carrier_model g.D.Dial.failures c.take_turn.new.self) c.in_ok-moved.moved c.in_ok-sought.sought _ c.in_ok-moved.ensures c.in_ok-sought.ensures

pub returns-clause-rests : goal.returns-clause-rests
returns-clause-rests g c =
    rests_unsought g.P.NodePort.calls g.D.Dial.opens g.P.RunPort.longest (g.D.Dial.is_calm c.seek.new.self.dial) _ (carrier_model g.D.Dial.failures c.take_turn.new.self) c.in_ok-moved.moved c.in_ok-sought.sought _ c.in_ok-moved.ensures c.in_ok-sought.ensures
