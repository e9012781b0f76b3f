use Rattle.proxy_lanes.specs.Ends.{GivesDown}
use Rattle.proxy_lanes.proofs.Changing.{changed}
use Rattle.proxy_lanes.proofs.ends.CarrierEnds.give.Goals as goal

pub returns-clause-lane : goal.returns-clause-lane
returns-clause-lane g c =
    changed (λ old new. GivesDown old new (c.args.ticket, c.args.told) c.give.result) _ _ _ _ _ c.requires c.from.ensures c.index_mut.ensures.value c.give.ensures
