use Rattle.std.proofs.Common.{refl, sym, ap, ◌∙◌, ◌≡◌, Some}
use Rattle.std.specs.Prelude.{slice_get}
use Rattle.slot_hash.specs.Slot.{slot_of}
use Rattle.session_order.specs.declared.queue.PartStage.TheVariants.{Waiting, Out, Done}
use Rattle.session_order.proofs.Lists.{set_same, eqb-yes}
use Rattle.session_order.proofs.Forgetting.{forgets}
use Rattle.session_order.proofs.Turning.{got}
use Rattle.session_order.proofs.queue.forget_at.Goals as goal

pub returns-in-Done : goal.returns-in-Done
returns-in-Done c =
    let t = c.args.tables.now in
    let at : slice_get t.stages.items c.args.i ≡ Some Done = got t.stages.items c.args.i _ c.requires.fits c.index.ensures ∙ ap Some c.in-Done.is in
    forgets t _ c.args.i Done _ at refl refl (sym (set_same t.stages.items c.args.i Done at)) refl c.requires.links

pub returns-in-Out : goal.returns-in-Out
returns-in-Out c =
    let t = c.args.tables.now in
    let slot = c.in-Out.field-0 in
    let at : slice_get t.stages.items c.args.i ≡ Some (Out slot) = got t.stages.items c.args.i _ c.requires.fits c.index.ensures ∙ ap Some c.in-Out.is in
    forgets t _ c.args.i (Out slot) _ at refl refl (sym (set_same t.stages.items c.args.i (Out slot) at)) refl c.requires.links

pub unlink-requires-clause-part : goal.unlink-requires-clause-part
unlink-requires-clause-part c =
    let t = c.args.tables.now in
    let at : slice_get t.stages.items c.args.i ≡ Some (Waiting c.in-Waiting.part) = got t.stages.items c.args.i _ c.requires.fits c.index.ensures ∙ ap Some c.in-Waiting.is in
    (Waiting c.in-Waiting.part, at, eqb-yes (slot_of c.in-Waiting.part.key) c.number.result (sym (c.number.ensures.value ∙ c.slot-slot.ensures.value)))

pub returns : goal.returns
returns c =
    let t = c.args.tables.now in
    let at : slice_get t.stages.items c.args.i ≡ Some (Waiting c.in-Waiting.part) = got t.stages.items c.args.i _ c.requires.fits c.index.ensures ∙ ap Some c.in-Waiting.is in
    forgets t _ c.args.i (Waiting c.in-Waiting.part) _ at c.unlink.ensures.first c.unlink.ensures.turns (rw c.unlink.ensures.stages refl) refl (rw (c.unlink.ensures.first, c.unlink.ensures.stages) c.unlink.ensures.linked)
