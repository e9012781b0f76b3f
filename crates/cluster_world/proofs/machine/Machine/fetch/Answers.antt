use Rattle.std.proofs.Common.{◌≡◌, Err, rules, refl}
use Rattle.world_laws.specs.State.{WorldModel}
use Rattle.world_laws.specs.declared.event.Event.TheVariants as event
use Rattle.cluster_world.specs.Machine.{state_of}
use Rattle.cluster_world.specs.declared.fault.WorldFault.TheVariants.{NoMemory}
use Rattle.cluster_world.proofs.Allowing.{no-memory}
use Rattle.cluster_world.proofs.Linking.{fetches-can, fetches-not}
use Rattle.cluster_world.proofs.machine.Machine.fetch.Goals as goal

pub returns-in_err-reserve : goal.returns-in_err-reserve
returns-in_err-reserve c =
    let w : WorldModel = state_of c.args.self.now in
    let is : c.from_residual.result ≡ Err NoMemory = search rules in
    no-memory w (record w { downs = c.reserve.new.self.items }) (event.Fetch c.args.link) c.from_residual.result is (fetches-can w c.args.link (c.if-not-has_reply.ensures.0 refl)) (λ i. record w { downs = c.in_err-reserve.ensures.items i })

pub returns-in-Err : goal.returns-in-Err
returns-in-Err c =
    fetches-not Unit (state_of c.args.self.now) c.args.link c.in-Err.fault c.fetch.new.self c.reserve.new.self.items c.in_ok-reserve.ensures.items (c.if-not-has_reply.ensures.0 refl) c.in-Err.ensures
