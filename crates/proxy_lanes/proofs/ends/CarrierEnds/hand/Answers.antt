use Rattle.proxy_lanes.specs.Ends.{HandsOver}
use Rattle.proxy_lanes.proofs.Changing.{changed}
use Rattle.proxy_lanes.proofs.ends.CarrierEnds.hand.Goals as goal

pub returns-clause-lane : goal.returns-clause-lane
returns-clause-lane g c =
    changed (λ old new. HandsOver old new c.args.client c.hand.result) _ _ _ _ _ c.requires c.from.ensures c.index_mut.ensures.value c.hand.ensures
