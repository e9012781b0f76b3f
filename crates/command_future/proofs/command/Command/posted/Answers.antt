use Rattle.std.proofs.Common.{◌≡◌, [], ◌∷◌, ◌++◌, rules, subst}
use Rattle.command_future.specs.CommandModel.{CommandModel, batch_of, HasLived}
use Rattle.command_future.specs.Life.CommandEvent.{Posted}
use Rattle.command_future.specs.declared.stage.Stage.TheVariants.{Awaits}
use Rattle.command_future.specs.contracts.command.Command.{the_view}
use Rattle.command_future.proofs.Lives.{lived_posted}
use Rattle.command_future.proofs.command.Command.posted.Goals as goal

pub returns-clause-life : goal.returns-clause-life
returns-clause-life c = λ events lived.
    let after : CommandModel = the_view (record c.self.inside { stage = Awaits }) in
    let e : record c.args.self.now { stage = Awaits } ≡ after = search rules in
    subst (λ (p : CommandModel). HasLived p (events ++ Posted (batch_of c.args.self.now c.args.node) ∷ [])) e
    (lived_posted c.args.self.now c.args.node events c.requires lived)
