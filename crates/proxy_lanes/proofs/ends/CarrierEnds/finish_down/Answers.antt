use Rattle.proxy_lanes.specs.Ends.{FinishesDown}
use Rattle.proxy_lanes.proofs.Changing.{changed}
use Rattle.proxy_lanes.proofs.ends.CarrierEnds.finish_down.Goals as goal

pub returns-clause-lane : goal.returns-clause-lane
returns-clause-lane g c =
    changed (λ old new. FinishesDown old new c.finish_down.result) _ _ _ _ _ c.requires c.from.ensures c.index_mut.ensures.value c.finish_down.ensures
