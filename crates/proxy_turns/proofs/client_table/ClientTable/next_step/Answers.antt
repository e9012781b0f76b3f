use Rattle.std.proofs.Common.{◌∙◌, ap, subst, sym}
use Rattle.std.specs.Option.{option_copied}
use Rattle.proxy_turns.specs.DueCommands.{IsToSettle}
use Rattle.proxy_turns.specs.ClientModel.{ClientModel}
use Rattle.proxy_turns.specs.WorkerModel.{clients_in}
use Rattle.proxy_turns.proofs.Posting.{some_same}
use Rattle.proxy_turns.proofs.Settling.{nobody_there}
use Rattle.proxy_turns.proofs.Tables.{at_number}
use Rattle.proxy_turns.proofs.client_table.ClientTable.next_step.Goals as goal

pub returns-in-Some : goal.returns-in-Some
returns-in-Some g c =
    let there = sym (at_number c.args.ticket.client c.self.inside.by_number.entries) ∙ sym c.get.ensures.value ∙ ap option_copied c.in-Some.is in
    rw (← c.self.view_is) (λ d (client, at, stands).
    c.next_step.ensures d (subst (λ (x : ClientModel _). IsToSettle x c.args.ticket.part d) (some_same client c.in-Some.client.now (sym at ∙ there)) stands))

pub returns-in-None : goal.returns-in-None
returns-in-None g c =
    let absent = sym (at_number c.args.ticket.client c.self.inside.by_number.entries) ∙ sym c.get.ensures.value ∙ ap option_copied c.in-None.is in
    rw (← c.self.view_is) (λ d stands. nobody_there (clients_in c.self.inside.by_number.entries) c.args.ticket.client c.args.ticket.part absent d stands)
