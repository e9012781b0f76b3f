use Rattle.std.proofs.Common.{◌≡◌, ◌∙◌, ap, sym, subst, ◌∷◌, ◌++◌, [], length, take, drop, set, Some}
use Rattle.std.proofs.lemmas.List.{take_at}
use Rattle.slot_map.specs.declared.ops.MapOp.TheVariants.{SetRange, SetSlot}
use Rattle.slot_map.specs.Map.{MapShows}
use Rattle.slot_map.proofs.Showing.{shows-range, shows-slot}
use Rattle.slot_map.proofs.map.SlotMap.apply.Goals as goal

pub returns-in-SetRange : goal.returns-in-SetRange
returns-in-SetRange c = λ ops shown.
    let old = c.self.inside.nodes in
    let new = c.fill.new.nodes in
    let op = ap (λ s. SetRange s c.number-in-SetRange.result c.in-SetRange.node) c.number.ensures.value ∙ ap (λ s. SetRange c.in-SetRange.first s c.in-SetRange.node) c.number-in-SetRange.ensures.value ∙ sym c.in-SetRange.is in
    let written = take_at new (drop (length new) old.items) old.len (c.fill.ensures.size ∙ ap length c.deref_mut.ensures.value ∙ sym old.ok.0) in
    subst (λ o. MapShows (take old.len (new ++ drop (length new) old.items)) (ops ++ o ∷ [])) op
    (subst (λ table. MapShows table (ops ++ SetRange c.number.result c.number-in-SetRange.result c.in-SetRange.node ∷ [])) (sym written)
    (shows-range c.deref_mut.result.now new ops _ _ _ (subst (λ table. MapShows table ops) (sym c.self.view_is ∙ sym c.deref_mut.ensures.value) shown) c.fill.ensures))

pub returns-in-SetSlot : goal.returns-in-SetSlot
returns-in-SetSlot c = λ ops shown.
    let old = c.self.inside.nodes.items in
    let slot = c.number-in-SetSlot.result in
    let op = ap (λ s. SetSlot s c.in-SetSlot.node) c.number-in-SetSlot.ensures.value ∙ sym c.in-SetSlot.is in
    subst (λ o. MapShows (set old slot (Some c.in-SetSlot.node)) (ops ++ o ∷ [])) op
    (shows-slot old ops slot c.in-SetSlot.node c.number-in-SetSlot.ensures.in_range (subst (λ table. MapShows table ops) (sym c.self.view_is) shown))
