use Rattle.proxy_lanes.specs.Carrier.{lanes_of}
use Rattle.proxy_turns.specs.CarrierModel.{carrier_model}
use Rattle.proxy_turns.specs.Worker.{worker_model}
use Rattle.proxy_engine.proofs.Beginning.{begun, new-in-order, new-together}
use Rattle.proxy_engine.proofs.engine.Engine.new.Goals as goal

pub returns-clause-begins : goal.returns-clause-begins
returns-clause-begins g c =
    let f = g.D.Dial.failures in
    let made = c.in_ok-ends in
    begun c.args.clients c.args.seeds (f c.args.dial) made.ends.items (lanes_of made.carrier_ends) made.carrier_ends.map c.pop.new.self.items c.in-Some.own (worker_model c.new-worker.result) (carrier_model f c.new-carrier.result)
    made.ensures.lanes made.ensures.workers.0 made.ensures.map c.in-Some.ensures.items c.new-worker.ensures.model c.new-carrier.ensures

pub invariant_of-result : goal.invariant_of-result
invariant_of-result g c =
    let f = g.D.Dial.failures in
    let made = c.in_ok-ends in
    let begins = begun c.args.clients c.args.seeds (f c.args.dial) made.ends.items (lanes_of made.carrier_ends) made.carrier_ends.map c.pop.new.self.items c.in-Some.own (worker_model c.new-worker.result) (carrier_model f c.new-carrier.result)
    made.ensures.lanes made.ensures.workers.0 made.ensures.map c.in-Some.ensures.items c.new-worker.ensures.model c.new-carrier.ensures in
    record { together = new-together c.args.clients c.args.seeds (f c.args.dial) (record { worker = worker_model c.new-worker.result; carrier = carrier_model f c.new-carrier.result }) begins }

pub returns-clause-in_order : goal.returns-clause-in_order
returns-clause-in_order g c = new-in-order c.args.clients c.args.seeds (g.D.Dial.failures c.args.dial) _ (returns-clause-begins g c)
