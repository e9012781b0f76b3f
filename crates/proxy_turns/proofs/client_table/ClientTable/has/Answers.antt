use Rattle.std.proofs.Common.{◌∙◌, ap, is_some, sym}
use Rattle.proxy_turns.proofs.Going.{not_some}
use Rattle.proxy_turns.proofs.Tables.{at_number}
use Rattle.proxy_turns.proofs.client_table.ClientTable.has.Goals as goal

pub returns : goal.returns
returns g c =
    let at = at_number c.args.number c.self.inside.by_number.entries in
    rw (← c.self.view_is) ((λ is. sym at ∙ not_some _ (sym c.contains_key.ensures ∙ is)), (λ none. c.contains_key.ensures ∙ ap (λ o. is_some o) (at ∙ none)))
