use Rattle.std.proofs.Common.{refl}
use Rattle.proxy_lanes.specs.Carrier.{lanes_of}
use Rattle.proxy_turns.specs.CarrierModel.{carrier_model, ends_of}
use Rattle.proxy_turns.specs.Worker.{worker_model}
use Rattle.proxy_engine.specs.Engine.{engine_model}
use Rattle.proxy_engine.proofs.Carrying.{lanes-themselves}
use Rattle.proxy_engine.proofs.Together.{together-kept}
use Rattle.proxy_engine.proofs.Turning.{worker-ends, worker-rests}
use Rattle.proxy_engine.proofs.Working.{worker-turns}
use Rattle.proxy_engine.proofs.engine.Engine.turn_worker.Goals as goal

pub invariant_of-self : goal.invariant_of-self
invariant_of-self g c =
    let old = worker_model c.args.self.now.worker in
    let new = worker_model c.turn-worked.new.self in
    let lanes = lanes_of (ends_of c.args.self.now.carrier) in
    record { together = together-kept old new lanes lanes (worker-turns g.C.ClientPort.moves old new c.turn-worked.result c.turn-worked.ensures.turns) (lanes-themselves lanes) c.args.self.now.together }

pub returns-clause-ends : goal.returns-clause-ends
returns-clause-ends g c =
    let f = g.D.Dial.failures in
    worker-ends g.C.ClientPort.moves (engine_model f c.args.self.now) (record { worker = worker_model c.turn-worked.new.self; carrier = carrier_model f c.args.self.now.carrier }) (engine_model f c.look_after.new.self) c.turn-worked.result c.look_after.result refl
    c.turn-worked.ensures.turns c.look_after.ensures.looks

pub returns-clause-rests : goal.returns-clause-rests
returns-clause-rests g c =
    let f = g.D.Dial.failures in
    let ports = g.C.ClientPort in
    worker-rests ports.gives_none ports.takes_none (record { worker = worker_model c.turn-worked.new.self; carrier = carrier_model f c.args.self.now.carrier }) (engine_model f c.look_after.new.self) c.turn-worked.result c.look_after.result
    c.turn-worked.ensures.rests c.look_after.ensures.looks
