use Rattle.node_model.proofs.Along.{pairs-more}
use Rattle.node_model.proofs.store.pairs_of.Goals as goal

pub loop-key-preserved : goal.loop-key-preserved
loop-key-preserved c = (
  pairs-more (c.args.part.now.key, c.args.part.now.arg) c.rest-key-items.result.now c.loop-key.key-index c.loop-key-item.result c.loop-key.pairs.items c.push_pair-in-loop-key.new.pairs.items c.loop-key-test.true c.loop-key-item.is c.loop-key.invariant.0 c.in_ok-push_pair-2.ensures,
  c.loop-key.invariant.1,
)
