use Rattle.std.proofs.Common.{map}
use Rattle.std.specs.FinMap.{get}
use Rattle.resp_wire.specs.Seen.{data_of}
use Rattle.key_split.specs.PartModel.{Pair}
use Rattle.node_model.specs.Store.{bulk_of}
use Rattle.node_model.proofs.Along.{replies-more}
use Rattle.node_model.proofs.store.Store.read_all.Goals as goal

pub loop-key-preserved : goal.loop-key-preserved
loop-key-preserved c = (
  replies-more (λ (pair : Pair). bulk_of (get c.args.self.now pair.0)) (c.args.part.now.key, c.args.part.now.arg) c.rest-key-items.result.now c.loop-key.key-index c.loop-key-item.result (map data_of c.loop-key.items.items) (map data_of c.push_value-in-loop-key.new.items.items) c.loop-key-test.true c.loop-key-item.is
      c.loop-key.invariant.0 c.in_ok-push_value-2.ensures,
  c.loop-key.invariant.1,
)
