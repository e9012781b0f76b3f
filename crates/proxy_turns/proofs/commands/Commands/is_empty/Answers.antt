use Rattle.std.proofs.Common.{◌∙◌, ◌≡◌, [], ap, rules, sym}
use Rattle.std.proofs.lemmas.List.{nil_from_length}
use Rattle.proxy_turns.specs.Commands.{CommandsModel}
use Rattle.proxy_turns.proofs.Tables.{empty_by, none_by}
use Rattle.proxy_turns.proofs.commands.Commands.is_empty.Goals as goal

pub returns-then-is_empty : goal.returns-then-is_empty
returns-then-is_empty c =
    let none : c.self.inside.fresh.items ≡ [] = nil_from_length c.self.inside.fresh.items (search rules) in
    let entries = c.self.inside.posted.entries in (
      λ yes. sym c.self.view_is ∙ (λ i. record { fresh = none i; posted = empty_by entries (c.is_empty-then-is_empty.ensures.0 yes) i }),
      λ is. c.is_empty-then-is_empty.ensures.1 (none_by entries (ap (λ (m : CommandsModel). m.posted) (c.self.view_is ∙ is))),
    )
