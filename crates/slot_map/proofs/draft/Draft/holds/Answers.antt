use Rattle.std.proofs.Common.{sym, ap, ◌∙◌}
use Rattle.std.specs.List.{list_any}
use Rattle.slot_map.specs.Table.{same_endpoint}
use Rattle.slot_map.proofs.Admitting.{held-first, held-second}
use Rattle.slot_map.proofs.draft.Draft.holds.Goals as goal

pub returns-then-holds : goal.returns-then-holds
returns-then-holds c =
    c.if-holds.true ∙ sym (held-first (same_endpoint c.args.at.now) _ _ _ c.self.view_is (sym c.holds.ensures ∙ c.if-holds.true))

pub returns-else-holds : goal.returns-else-holds
returns-else-holds c =
    c.stands_in.ensures
    ∙ ap (list_any (same_endpoint c.args.at.now)) c.as_slice.ensures.value
    ∙ sym (held-second (same_endpoint c.args.at.now) _ _ _ c.self.view_is (sym c.holds.ensures ∙ c.if-holds.false))
