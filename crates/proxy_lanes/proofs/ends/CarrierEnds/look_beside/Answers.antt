use Rattle.proxy_lanes.specs.Beside.{LanesLook}
use Rattle.proxy_lanes.proofs.Changing.{changed, found}
use Rattle.proxy_lanes.proofs.ends.CarrierEnds.look_beside.Goals as goal

pub look_beside-requires : goal.look_beside-requires
look_beside-requires g c = c.requires.beside _ (found _ _ _ _ c.requires.worker c.from.ensures c.index_mut.ensures.value)

pub returns-clause-lane : goal.returns-clause-lane
returns-clause-lane g c =
    let looked = c.look_beside.new in
    changed (λ old new. LanesLook c.args.outlet.now c.args.inlet.now c.args.newcomers.now old c.look_beside.result looked.outlet looked.inlet looked.newcomers new) _ _ _ _ _ c.requires.worker c.from.ensures c.index_mut.ensures.value c.look_beside.ensures
