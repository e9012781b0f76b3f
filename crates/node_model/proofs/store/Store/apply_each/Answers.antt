use Rattle.node_model.proofs.AllDone.{replied-all}
use Rattle.node_model.proofs.store.Store.apply_each.Goals as goal

pub returns-clause-replies : goal.returns-clause-replies
returns-clause-replies c = replied-all c.args.self.now c.args.parts.now c.loop-rest.self c.loop-rest.rest.now c.loop-rest.tolds.items c.in_default.len_below c.loop-rest.invariant.told
