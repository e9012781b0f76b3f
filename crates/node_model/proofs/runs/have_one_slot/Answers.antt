use Rattle.std.proofs.Common.{◌∙◌, sym}
use Rattle.node_model.specs.Runs.{keys_in}
use Rattle.node_model.proofs.AllDone.{same-slot, slots-on}
use Rattle.node_model.proofs.runs.have_one_slot.Goals as goal

pub loop-rest-preserved : goal.loop-rest-preserved
loop-rest-preserved c =
    slots-on c.slot_of_run-slot.result (keys_in c.args.parts.now) c.loop-rest.rest.now c.part-item.result c.in-len1-up.len_at_least c.part-item.is c.slot.ensures.of_all
    (sym c.slot.ensures.value ∙ same-slot c.slot.result c.slot_of_run-slot.result c.if-ne.ensures) c.loop-rest.invariant
