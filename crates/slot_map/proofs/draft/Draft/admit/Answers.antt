use Rattle.std.proofs.Common.{arith, sym, ◌∙◌, ◌∷◌, [], subst}
use Rattle.slot_map.specs.Table.{Admits, numbered}
use Rattle.slot_map.proofs.Admitting.{Admits-held, Admits-full, Admits-new, length-whole, whole-push}
use Rattle.slot_map.proofs.draft.Draft.admit.Goals as goal

pub returns-then-holds-clause-admits : goal.returns-then-holds-clause-admits
returns-then-holds-clause-admits c = Admits-held c.args.self.now c.args.at (sym c.holds.ensures ∙ c.if-holds.true)

pub returns-then-len-ge-NODE_LIMIT-clause-admits :
    goal.returns-then-len-ge-NODE_LIMIT-clause-admits
returns-then-len-ge-NODE_LIMIT-clause-admits c =
    let whole = length-whole c.self.inside.table.now c.self.inside.added.items c.args.self.now c.self.view_is in
    Admits-full c.args.self.now c.args.at (sym c.holds.ensures ∙ c.if-holds.false) (omega (arith, whole))

pub returns-clause-admits : goal.returns-clause-admits
returns-clause-admits c =
    let whole = length-whole c.self.inside.table.now c.self.inside.added.items c.args.self.now c.self.view_is in
    subst (Admits (numbered c.args.self.now c.args.at) c.args.self.now _) (sym (whole-push _ _ _ _ c.args.at c.self.view_is c.push.ensures.items))
    (Admits-new c.args.self.now c.args.at (sym c.holds.ensures ∙ c.if-holds.false) (omega (arith, whole)))

pub returns-clause-grows : goal.returns-clause-grows
returns-clause-grows c = (c.args.at ∷ [], whole-push _ _ _ _ c.args.at c.self.view_is c.push.ensures.items)
