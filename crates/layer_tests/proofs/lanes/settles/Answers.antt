use Rattle.proxy_lanes.specs.Carrier.{lanes_of}
use Rattle.layer_tests.proofs.OneLane.{only-lane}
use Rattle.layer_tests.proofs.lanes.settles.Goals as goal

pub settles_three-settled-requires-clause-lane : goal.settles_three-settled-requires-clause-lane
settles_three-settled-requires-clause-lane g c =
    let made = c.in_ok-ends in
    only-lane made.ends.items c.pop.new.self.items c.in-Some.own (lanes_of made.carrier) made.ensures.lanes made.ensures.workers.0 c.in-Some.ensures.items
