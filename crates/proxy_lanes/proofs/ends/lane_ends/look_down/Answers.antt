use Rattle.std.proofs.Common.{Some, refl, subst, sym}
use Rattle.proxy_lanes.specs.Beside.{DownLooks}
use Rattle.proxy_lanes.proofs.ends.lane_ends.look_down.Goals as goal

pub returns-in-Some : goal.returns-in-Some
returns-in-Some c =
    let looked = c.look_beside.new in
    subst (λ down. DownLooks down c.args.inlet.now (Some looked.outlet) looked.self c.look_beside.result) (sym c.in-Some.is) (looked.outlet, refl, c.look_beside.ensures)
