use Rattle.proxy_lanes.specs.Carrier.{lanes_of}
use Rattle.proxy_turns.specs.CarrierModel.{ends_of}
use Rattle.proxy_turns.specs.Worker.{worker_model}
use Rattle.proxy_engine.specs.Engine.{engine_model}
use Rattle.proxy_engine.proofs.Draining.{drained-in-order, drained-together}
use Rattle.proxy_engine.proofs.engine.Engine.drain.Goals as goal

pub invariant_of-self : goal.invariant_of-self
invariant_of-self g c =
    let old = worker_model c.args.self.now.worker in
    let new = worker_model c.drain.new.self in
    record { together = drained-together old new (lanes_of (ends_of c.args.self.now.carrier)) c.drain.ensures.drains c.args.self.now.together }

pub returns-clause-in_order : goal.returns-clause-in_order
returns-clause-in_order g c = λ order. drained-in-order (engine_model g.D.Dial.failures c.args.self.now) (worker_model c.drain.new.self) c.drain.ensures.drains order
