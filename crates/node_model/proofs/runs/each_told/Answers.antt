use Rattle.node_model.proofs.AllDone.{told-all}
use Rattle.node_model.proofs.runs.each_told.Goals as goal

pub returns : goal.returns
returns c = told-all c.args.said.now c.args.parts.now c.loop-rest.rest.now c.loop-rest.tolds.items c.in_default.len_below c.loop-rest.invariant
