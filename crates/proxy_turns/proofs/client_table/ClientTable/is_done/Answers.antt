use Rattle.std.proofs.Common.{◌∙◌, ap, sym, subst}
use Rattle.std.proofs.lemmas.Bool.{false≢true}
use Rattle.proxy_turns.specs.ClientModel.{IsDone}
use Rattle.proxy_turns.proofs.Posting.{some_same}
use Rattle.proxy_turns.proofs.Tables.{at_number, none_some}
use Rattle.proxy_turns.proofs.client_table.ClientTable.is_done.Goals as goal

pub returns-in-Some : goal.returns-in-Some
returns-in-Some g c =
    let entries = c.self.inside.by_number.entries in
    let here = sym c.in-Some.ensures.entry in
    rw (← c.self.view_is) (
      λ yes. (c.in-Some.field-0-0.now, c.in-Some.client.now, here, sym (at_number c.in-Some.field-0-0.now entries) ∙ c.in-Some.ensures.value, c.is_done.ensures.0 yes),
      λ (number, client, at, held, done). c.is_done.ensures.1
          (subst IsDone (ap (λ e. e.1) (some_same (number, client) (c.in-Some.field-0-0.now, c.in-Some.client.now) (sym at ∙ here))) done),
    )

pub returns-in-None : goal.returns-in-None
returns-in-None g c = rw (← c.self.view_is) (
  λ yes. absurd (false≢true yes),
  λ (number, client, at, held, done). absurd (none_some (number, client) (c.in-None.ensures.entry ∙ at)),
)
