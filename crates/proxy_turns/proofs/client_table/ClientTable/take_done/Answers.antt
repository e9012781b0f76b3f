use Rattle.std.proofs.Common.{◌≡◌, ◌∙◌, ◌+◌, ◌-◌, arith, length, subst, sym, refl}
use Rattle.std.proofs.lemmas.Bool.{false≢true}
use Rattle.proxy_turns.specs.ClientTable.{ClientTableModel, IsDoneAt}
use Rattle.proxy_turns.specs.Sleepers.{AreAsleep}
use Rattle.proxy_turns.specs.WorkerModel.{clients_in}
use Rattle.proxy_turns.proofs.Sleeping.{asleep_less, within}
use Rattle.proxy_turns.proofs.Tables.{none_some, taken_at}
use Rattle.proxy_turns.proofs.Posting.{some_same}
use Rattle.proxy_turns.proofs.Lifting.{leaves_at}
use Rattle.proxy_turns.proofs.client_table.ClientTable.take_done.Goals as goal

pub returns-then-not-is_done-clause-leaves : goal.returns-then-not-is_done-clause-leaves
returns-then-not-is_done-clause-leaves g c = (λ done. false≢true (sym c.if-not-is_done.true ∙ c.is_done.ensures.1 done), refl)

pub returns-in_err-client-clause-leaves : goal.returns-in_err-client-clause-leaves
returns-in_err-client-clause-leaves g c =
    let done = subst (λ (t : ClientTableModel _). IsDoneAt t.entries c.args.place) (sym c.self.view_is) (c.is_done.ensures.0 c.if-not-is_done.false) in
    absurd (none_some (done.0, done.1) (sym c.in_err-client.was ∙ c.swap_remove_index.ensures.entry ∙ done.2))

pub returns-clause-leaves : goal.returns-clause-leaves
returns-clause-leaves g c =
    let entries = c.self.inside.by_number.entries in
    let done = subst (λ (t : ClientTableModel _). IsDoneAt t.entries c.args.place) (sym c.self.view_is) (c.is_done.ensures.0 c.if-not-is_done.false) in
    let one = some_same (done.0, done.1) (c.in_ok-client.field-0-0, c.in_ok-client.client) (sym done.2 ∙ sym c.swap_remove_index.ensures.entry ∙ c.in_ok-client.was) in
    let taken = taken_at c.in_ok-client.field-0-0 entries c.swap_remove_index.new.self.entries c.in_ok-client.ensures.updates.0 in
    let left = leaves_at (clients_in entries) _ done.0 c.in_ok-client.field-0-0 done.1 c.in_ok-client.client _ done.3 done.4 one c.into_port.ensures taken in
    rw (← c.self.view_is) (c.in_ok-client.field-0-0, left, (c.in_ok-client.client, sym c.swap_remove_index.ensures.entry ∙ c.in_ok-client.was))

pub invariant_of-self-2 : goal.invariant_of-self-2
invariant_of-self-2 g c =
    let entries = c.self.inside.by_number.entries in
    let there = sym c.swap_remove_index.ensures.entry ∙ c.in_ok-client.was in
    let marks = c.wake-2.new.self.marks.items in
    let last : c.len.result - 1 + 1 ≡ length entries = omega (arith, c.len.ensures.len, within g.C.ClientPort.gives_none entries c.args.place _ there) in
    subst (AreAsleep g.C.ClientPort.gives_none marks) (sym c.in_ok-client.ensures.entries)
    (asleep_less g.C.ClientPort.gives_none marks entries c.args.place (c.len.result - 1) (c.in_ok-client.field-0-0, c.in_ok-client.client)
    (λ place marked. c.self.invariant place (c.wake.ensures.others place (c.wake-2.ensures.others place marked)))
    (λ marked. c.wake.ensures.woken (c.wake-2.ensures.others c.args.place marked)) c.wake-2.ensures.woken last)
