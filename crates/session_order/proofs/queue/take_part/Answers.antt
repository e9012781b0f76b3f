use Rattle.std.proofs.Common.{ap, sym, set-set, ◌∙◌, ◌≡◌, Some}
use Rattle.std.specs.Prelude.{slice_get, slice_set}
use Rattle.session_order.specs.declared.queue.PartStage.TheVariants.{Out}
use Rattle.session_order.proofs.Turning.{got, waits, waits_within}
use Rattle.session_order.proofs.queue.take_part.Goals as goal

pub unreachable-requires : goal.unreachable-requires
unreachable-requires c =
    let stages = c.args.stages.now.items in
    let at : slice_get stages c.args.i ≡ Some c.replace.result = got stages c.args.i _ (waits_within stages c.args.i c.requires) c.index_mut.ensures.value ∙ ap Some (sym c.replace.ensures.value) in
    waits stages c.args.i c.replace.result c.requires at c.in_default.not-Waiting

pub returns-clause-part : goal.returns-clause-part
returns-clause-part c =
    let stages = c.args.stages.now.items in
    got stages c.args.i _ (waits_within stages c.args.i c.requires) c.index_mut.ensures.value ∙ ap Some (sym c.replace.ensures.value ∙ c.in-Waiting.is)

pub returns-clause-stages : goal.returns-clause-stages
returns-clause-stages c =
    set-set c.args.stages.now.items c.args.i c.replace.new.dest (Out c.slot.result) ∙ ap (λ slot. slice_set c.args.stages.now.items c.args.i (Out slot)) c.slot.ensures.value
