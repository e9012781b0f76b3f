use Rattle.std.proofs.Common.{◌≡◌, [], ◌∷◌, ◌++◌, rules, subst}
use Rattle.command_future.specs.CommandModel.{CommandModel, progress_told, HasLived}
use Rattle.command_future.specs.Life.CommandEvent.{Heard}
use Rattle.command_future.specs.contracts.command.Command.{the_view}
use Rattle.command_future.proofs.Lives.{lived_told}
use Rattle.command_future.proofs.command.Command.told.Goals as goal

pub returns-clause-life : goal.returns-clause-life
returns-clause-life c = λ events lived.
    let after : CommandModel = the_view (record c.match-told.self-inside { stage = c.match-told.next }) in
    let e : progress_told c.args.self.now c.args.told ≡ after = search rules in
    subst (λ (p : CommandModel). HasLived p (events ++ Heard c.args.told ∷ [])) e
    (lived_told c.args.self.now events c.requires lived c.args.told)
