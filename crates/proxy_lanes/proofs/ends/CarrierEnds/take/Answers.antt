use Rattle.proxy_lanes.specs.Ends.{TakesUp}
use Rattle.proxy_lanes.proofs.Changing.{changed}
use Rattle.proxy_lanes.proofs.ends.CarrierEnds.take.Goals as goal

pub returns-clause-lane : goal.returns-clause-lane
returns-clause-lane g c =
    changed (λ old new. TakesUp old new c.take.result) _ _ _ _ _ c.requires c.from.ensures c.index_mut.ensures.value c.take.ensures
