use Rattle.std.proofs.Common.{◌∙◌, ap, subst, sym}
use Rattle.std.specs.FinMap as map
use Rattle.std.specs.Option.{option_copied}
use Rattle.proxy_turns.specs.Commands.{CommandsModel}
use Rattle.proxy_turns.specs.DueCommands.{StepOf}
use Rattle.proxy_turns.proofs.Posting.{some_same}
use Rattle.proxy_turns.proofs.Tables.{at_number, none_some}
use Rattle.proxy_turns.proofs.commands.Commands.next_step.Goals as goal

pub returns-in-Some : goal.returns-in-Some
returns-in-Some c = λ d at.
    let there = ap (λ (m : CommandsModel). map.get m.posted c.args.number) (sym c.self.view_is) ∙ sym (at_number c.args.number c.self.inside.posted.entries) ∙ sym c.get.ensures.value ∙ ap option_copied c.in-Some.is in
    subst (StepOf c.step_of.result) (some_same c.in-Some.command.now d (sym there ∙ at)) c.step_of.ensures

pub returns-in-None : goal.returns-in-None
returns-in-None c = λ d at.
    let absent = ap (λ (m : CommandsModel). map.get m.posted c.args.number) (sym c.self.view_is) ∙ sym (at_number c.args.number c.self.inside.posted.entries) ∙ sym c.get.ensures.value ∙ ap option_copied c.in-None.is in
    absurd (none_some d (sym absent ∙ at))
