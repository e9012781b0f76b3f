use Rattle.slot_map.proofs.Checking.{read_on, Grows-trans}
use Rattle.slot_map.proofs.slots.read.Goals as goal

pub loop-rest-preserved : goal.loop-rest-preserved
loop-rest-preserved c = record {
  read = read_on c.args.asked c.loop-rest.rest.now c.entry-item.result _ c.loop-rest.ops.items _ c.in_ok-step.field-0 c.loop-rest.table c.step.new.table
      c.in-len1-up.len_at_least c.entry-item.is c.loop-rest.invariant.read c.in_ok-step.ensures.steps c.in_ok-push.ensures.items;
  grown = Grows-trans _ _ _ c.loop-rest.invariant.grown c.step.ensures.grows;
}
