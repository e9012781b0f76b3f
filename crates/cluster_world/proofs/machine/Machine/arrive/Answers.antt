use Rattle.std.proofs.Common.{◌≡◌, [], ◌∷◌, ◌++◌, rules, refl, ap, Err}
use Rattle.world_laws.specs.State.{WorldModel}
use Rattle.world_laws.specs.World.{arrival}
use Rattle.world_laws.specs.declared.event.Event.TheVariants as event
use Rattle.world_laws.specs.declared.state.Arrival.{Arrival}
use Rattle.std.specs.Prelude.{List}
use Rattle.cluster_world.specs.Machine.{state_of, Can}
use Rattle.cluster_world.specs.declared.fault.WorldFault.TheVariants.{NoMemory}
use Rattle.cluster_world.proofs.Allowing.{no-memory}
use Rattle.cluster_world.proofs.machine.Machine.arrive.Goals as goal

pub returns-in_err-copy : goal.returns-in_err-copy
returns-in_err-copy c =
    let w : WorldModel = state_of c.args.self.now in
    let is : c.from_residual.result ≡ Err NoMemory = search rules in
    let can : Can w (event.Arrive c.args.client c.args.part.now) = (record w { commands = w.commands ++ arrival w c.args.client c.args.part.now ∷ [] }, (c.slot.ensures.of_all, refl)) in
    no-memory w w (event.Arrive c.args.client c.args.part.now) c.from_residual.result is can refl

pub returns-in_err-add : goal.returns-in_err-add
returns-in_err-add c =
    let w : WorldModel = state_of c.args.self.now in
    let is : c.from_residual-in_err-add.result ≡ Err NoMemory = search rules in
    let can : Can w (event.Arrive c.args.client c.args.part.now) = (record w { commands = w.commands ++ arrival w c.args.client c.args.part.now ∷ [] }, (c.slot.ensures.of_all, refl)) in
    no-memory w (record w { commands = c.add.new.self }) (event.Arrive c.args.client c.args.part.now) c.from_residual-in_err-add.result is can
    (ap (λ (cs : List Arrival). record w { commands = cs }) (search rules))
