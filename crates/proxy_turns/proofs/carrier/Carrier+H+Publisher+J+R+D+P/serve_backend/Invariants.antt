use Rattle.std.proofs.Common.{nat_lt}
use Rattle.proxy_turns.specs.CarrierModel.{carrier_model, CarrierGoesBy, serves_backend}
use Rattle.proxy_turns.proofs.carrier.Carrier+H+Publisher+J+R+D+P.serve_backend.Given as goal

abbrev pub invariant-loop-passed : goal.invariant-loop-passed
invariant-loop-passed g l = CarrierGoesBy g.P.NodePort.calls g.D.Dial.opens g.P.RunPort.longest serves_backend (carrier_model g.D.Dial.failures l.initial.self) (nat_lt 0 l.passed) (carrier_model g.D.Dial.failures l.self)
