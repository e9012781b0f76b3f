use Rattle.std.proofs.Common.{◌≡◌, subst}
use Rattle.proxy_lanes.specs.Carrier.{lanes_of}
use Rattle.proxy_turns.specs.Beside.{LookOutcome}
use Rattle.proxy_turns.specs.CarrierModel.{ends_of}
use Rattle.proxy_turns.specs.Worker.{worker_model}
use Rattle.proxy_engine.proofs.Looking.{outcome-same}
use Rattle.proxy_engine.proofs.Together.{together-kept}
use Rattle.proxy_engine.proofs.engine.Engine.look.Goals as goal

pub invariant_of-self : goal.invariant_of-self
invariant_of-self g c =
    let old = worker_model c.args.self.now.worker in
    let new = worker_model c.look_beside.new.self in
    let lanes = lanes_of (ends_of c.args.self.now.carrier) in
    let lanes' = lanes_of c.look_beside.new.ends in
    let value : c.ends.result.now ≡ ends_of c.args.self.now.carrier = c.ends.ensures.value in
    let looks : LookOutcome old lanes c.look_beside.result new lanes' = subst (λ e. LookOutcome old (lanes_of e) c.look_beside.result new lanes') value c.look_beside.ensures.looks in
    let kept = outcome-same c.look_beside.result old new lanes lanes' looks in
    record { together = together-kept old new lanes lanes' kept.0 kept.1 c.args.self.now.together }
