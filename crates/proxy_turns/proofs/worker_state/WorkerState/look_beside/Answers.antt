use Rattle.std.proofs.Common.{refl}
use Rattle.proxy_lanes.specs.Carrier.{lanes_of}
use Rattle.proxy_turns.specs.WorkerState.{state_model}
use Rattle.proxy_turns.proofs.Looks.{look-outcome}
use Rattle.proxy_turns.proofs.worker_state.WorkerState.look_beside.Goals as goal

pub returns-clause-looks : goal.returns-clause-looks
returns-clause-looks g c =
    look-outcome (state_model c.args.self.now) _ (lanes_of c.args.ends.now) _ c.look_beside-counts.result c.have_places-places.result c.is_left.result c.have_places-places.ensures c.is_left.ensures (c.look_beside-counts.ensures.lane, refl)
