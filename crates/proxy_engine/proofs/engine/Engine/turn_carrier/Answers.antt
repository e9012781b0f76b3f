use Rattle.std.proofs.Common.{refl}
use Rattle.proxy_lanes.specs.Carrier.{lanes_of}
use Rattle.proxy_turns.specs.Backend.{GaveNone}
use Rattle.proxy_turns.specs.CarrierModel.{carrier_model, ends_of}
use Rattle.proxy_turns.specs.Worker.{worker_model}
use Rattle.proxy_turns.specs.declared.newcomer.Newcomer.{Newcomer}
use Rattle.proxy_engine.specs.Engine.{engine_model}
use Rattle.proxy_engine.proofs.Carrying.{carrier-turns}
use Rattle.proxy_engine.proofs.Together.{lanes-kept}
use Rattle.proxy_engine.proofs.Turning.{carrier-ends, carrier-rests}
use Rattle.proxy_engine.proofs.engine.Engine.turn_carrier.Goals as goal

pub invariant_of-self : goal.invariant_of-self
invariant_of-self g c =
    let f = g.D.Dial.failures in
    let old = c.args.self.now.carrier in
    let new = c.turn-carried.new.self in
    let node = g.P.NodePort in
    let kept = carrier-turns (Newcomer g.row.C.Denot g.row.J.Denot) node.calls g.D.Dial.opens g.P.RunPort.longest (carrier_model f old) (carrier_model f new) c.turn-carried.result c.turn-carried.ensures.turns in
    record { together = lanes-kept (worker_model c.args.self.now.worker) (lanes_of (ends_of old)) (lanes_of (ends_of new)) kept c.args.self.now.together }

pub returns-clause-ends : goal.returns-clause-ends
returns-clause-ends g c =
    let f = g.D.Dial.failures in
    let node = g.P.NodePort in
    carrier-ends node.calls g.D.Dial.opens g.P.RunPort.longest (engine_model f c.args.self.now) (record { worker = worker_model c.args.self.now.worker; carrier = carrier_model f c.turn-carried.new.self }) (engine_model f c.look_after.new.self)
    c.turn-carried.result c.look_after.result refl c.turn-carried.ensures.turns c.look_after.ensures.looks

pub returns-clause-rests : goal.returns-clause-rests
returns-clause-rests g c =
    let f = g.D.Dial.failures in
    let node = g.P.NodePort in
    carrier-rests (GaveNone node.calls) (record { worker = worker_model c.args.self.now.worker; carrier = carrier_model f c.turn-carried.new.self }) (engine_model f c.look_after.new.self) c.turn-carried.result c.look_after.result
    c.turn-carried.ensures.rests c.look_after.ensures.looks
