use Rattle.std.proofs.Common.{◌∙◌, ◌≡◌, ap, sym, rules, subst}
use Rattle.std.specs.FinMap as map
use Rattle.std.specs.Option.{option_copied}
use Rattle.command_future.specs.CommandModel.{CommandModel, IsOver}
use Rattle.proxy_turns.specs.Commands.{CommandsModel}
use Rattle.proxy_turns.proofs.Posting.{some_same}
use Rattle.proxy_turns.proofs.Tables.{at_number, none_some}
use Rattle.proxy_turns.proofs.commands.Commands.end_of.Goals as goal

pub returns-in_err-command : goal.returns-in_err-command
returns-in_err-command c =
    let absent = ap (λ (m : CommandsModel). map.get m.posted c.args.number) (sym c.self.view_is) ∙ sym (at_number c.args.number c.self.inside.posted.entries) ∙ sym c.get.ensures.value ∙ ap option_copied c.in_err-command.was in
    rw c.from_residual.ensures (λ (ticket, end, (d, at, named, over)). none_some d (sym absent ∙ at))

pub returns-in_err-end : goal.returns-in_err-end
returns-in_err-end c =
    let there = ap (λ (m : CommandsModel). map.get m.posted c.args.number) (sym c.self.view_is) ∙ sym (at_number c.args.number c.self.inside.posted.entries) ∙ sym c.get.ensures.value ∙ ap option_copied c.in_ok-command.was in
    rw c.from_residual-in_err-end.ensures (λ (ticket, end, (d, at, named, over)).
    let same : d ≡ c.in_ok-command.command.now = some_same d c.in_ok-command.command.now (sym at ∙ there) in
    c.in_err-end.ensures.progress (subst IsOver (sym over ∙ ap (λ (x : CommandModel). x.stage) same) tt))

pub returns : goal.returns
returns c =
    let there = sym c.get.ensures.value ∙ ap option_copied c.in_ok-command.was in (
      c.in_ok-command.command.now,
      ap (λ (m : CommandsModel). map.get m.posted c.args.number) (sym c.self.view_is) ∙ sym (at_number c.args.number c.self.inside.posted.entries) ∙ there,
      sym c.ticket.ensures,
      search rules,
    )
