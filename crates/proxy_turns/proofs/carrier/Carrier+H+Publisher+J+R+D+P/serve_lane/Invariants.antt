use Rattle.std.proofs.Common.{nat_lt}
use Rattle.proxy_turns.specs.CarrierModel.{carrier_model, CarrierGoesBy, serves_lane}
use Rattle.proxy_turns.proofs.carrier.Carrier+H+Publisher+J+R+D+P.serve_lane.Given as goal

abbrev pub invariant-loop-carried : goal.invariant-loop-carried
invariant-loop-carried g l = CarrierGoesBy g.P.NodePort.calls g.D.Dial.opens g.P.RunPort.longest serves_lane (carrier_model g.D.Dial.failures l.initial.self) (nat_lt 0 l.carried) (carrier_model g.D.Dial.failures l.self)
