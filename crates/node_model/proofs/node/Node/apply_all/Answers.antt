use Rattle.std.proofs.Common.{◌≡◌, subst, sym}
use Rattle.std.specs.Prelude.{All}
use Rattle.slot_hash.specs.Slot.{slot_of}
use Rattle.node_model.specs.BySlot.{gathered}
use Rattle.node_model.specs.Runs.{keys_in}
use Rattle.node_model.specs.Together.{PerformsAll}
use Rattle.node_model.proofs.AllDone.{all-in_place, all-performs}
use Rattle.node_model.proofs.node.Node.apply_all.Goals as goal

pub invariant_of-self : goal.invariant_of-self
invariant_of-self c =
    let one = subst (λ n. All (λ key. slot_of key ≡ n) (keys_in c.args.parts.now)) (sym c.number.ensures.value) c.requires in
    all-in_place c.apply_all_at.result c.self.inside.stores.entries c.apply_all_at.new.stores.entries c.number.result c.args.parts.now one c.self.invariant c.apply_all_at.ensures.after c.apply_all_at.ensures.refused

pub returns : goal.returns
returns c =
    let one = subst (λ n. All (λ key. slot_of key ≡ n) (keys_in c.args.parts.now)) (sym c.number.ensures.value) c.requires in
    let made = all-performs c.apply_all_at.result c.self.inside.stores.entries c.apply_all_at.new.stores.entries c.number.result c.args.parts.now one c.apply_all_at.ensures.replies c.apply_all_at.ensures.after c.apply_all_at.ensures.refused in
    subst (λ s. PerformsAll c.apply_all_at.result s (gathered c.apply_all_at.new.stores.entries) c.args.parts.now) c.self.view_is made
