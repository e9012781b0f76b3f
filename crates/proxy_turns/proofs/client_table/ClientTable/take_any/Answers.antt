use Rattle.std.proofs.Common.{◌∙◌, sym}
use Rattle.proxy_turns.proofs.Tables.{at_number, none_some, taken_at}
use Rattle.proxy_turns.proofs.client_table.ClientTable.take_any.Goals as goal

pub returns-in_err-client-clause-takes : goal.returns-in_err-client-clause-takes
returns-in_err-client-clause-takes g c =
    let held = sym (at_number c.in_ok-number.number c.self.inside.by_number.entries) ∙ sym c.swap_remove.ensures.value ∙ c.in_err-client.was in
    absurd (none_some _ (sym held ∙ c.in_ok-number.ensures.1))

pub returns-clause-takes : goal.returns-clause-takes
returns-clause-takes g c =
    let entries = c.self.inside.by_number.entries in
    let there = sym c.swap_remove.ensures.value ∙ c.in_ok-client.was in
    let held = sym (at_number c.in_ok-number.number entries) ∙ there in
    rw (← c.self.view_is)
    (c.in_ok-number.number, c.in_ok-client.client, held, c.into_port.ensures, taken_at c.in_ok-number.number entries c.swap_remove.new.self.entries c.swap_remove.ensures.updates.0)

pub invariant_of-self : goal.invariant_of-self
invariant_of-self g c = λ place marked. absurd (c.wake_all.ensures place marked)

pub invariant_of-self-in_err-client : goal.invariant_of-self-in_err-client
invariant_of-self-in_err-client g c = λ place marked. absurd (c.wake_all.ensures place marked)

pub invariant_of-self-2 : goal.invariant_of-self-2
invariant_of-self-2 g c = λ place marked. absurd (c.wake_all.ensures place marked)
