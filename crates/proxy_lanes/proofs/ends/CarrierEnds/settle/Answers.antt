use Rattle.proxy_lanes.specs.Ends.{SettlesUp}
use Rattle.proxy_lanes.proofs.Changing.{changed}
use Rattle.proxy_lanes.proofs.ends.CarrierEnds.settle.Goals as goal

pub returns-clause-lane : goal.returns-clause-lane
returns-clause-lane g c =
    changed (λ old new. SettlesUp old new c.args.note c.settle.result) _ _ _ _ _ c.requires.worker c.from.ensures c.index_mut.ensures.value c.settle.ensures
