use Rattle.std.proofs.Common.{◌∙◌, ap, subst, sym}
use Rattle.std.specs.FinMap as map
use Rattle.std.specs.Option.{option_copied}
use Rattle.command_future.specs.CommandModel.{WantsPost}
use Rattle.proxy_turns.specs.Commands.{CommandsModel}
use Rattle.proxy_turns.proofs.Posting.{wants_here, wants_no_more, wants_nowhere}
use Rattle.proxy_turns.proofs.Tables.{at_number}
use Rattle.proxy_turns.proofs.commands.Commands.wants_post.Goals as goal

pub returns-in_default : goal.returns-in_default
returns-in_default c =
    let absent = ap (λ (m : CommandsModel). map.get m.posted c.args.number) (sym c.self.view_is) ∙ sym (at_number c.args.number c.self.inside.posted.entries) ∙ sym c.get.ensures.value ∙ ap option_copied c.in_default.is in
    wants_nowhere c.args.self.now c.args.number absent

pub returns-in-Post : goal.returns-in-Post
returns-in-Post c =
    let there = ap (λ (m : CommandsModel). map.get m.posted c.args.number) (sym c.self.view_is) ∙ sym (at_number c.args.number c.self.inside.posted.entries) ∙ sym c.get.ensures.value ∙ ap option_copied c.in-Some.is in
    let step = rw c.in-Post.is at c.step_of.ensures in
    (c.in-Some.command.now, there, step.0, sym c.ticket.ensures)

pub returns-in-End : goal.returns-in-End
returns-in-End c = λ wants.
    let there = ap (λ (m : CommandsModel). map.get m.posted c.args.number) (sym c.self.view_is) ∙ sym (at_number c.args.number c.self.inside.posted.entries) ∙ sym c.get.ensures.value ∙ ap option_copied c.in-Some.is in
    let command = c.in-Some.command.now in
    let step = rw c.in-End.is at c.step_of.ensures in
    wants_no_more command.stage command.followed step.1 (wants_here c.args.self.now c.args.number command there wants)

pub returns-in-Rest : goal.returns-in-Rest
returns-in-Rest c = λ wants.
    let there = ap (λ (m : CommandsModel). map.get m.posted c.args.number) (sym c.self.view_is) ∙ sym (at_number c.args.number c.self.inside.posted.entries) ∙ sym c.get.ensures.value ∙ ap option_copied c.in-Some.is in
    let command = c.in-Some.command.now in
    let step = rw c.in-Rest.is at c.step_of.ensures in
    subst WantsPost step (wants_here c.args.self.now c.args.number command there wants)
