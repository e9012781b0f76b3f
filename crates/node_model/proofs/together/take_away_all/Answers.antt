use Rattle.std.proofs.Common.{◌++◌, arith}
use Rattle.key_split.specs.PartModel.{keys_of}
use Rattle.node_model.proofs.AllDone.{run-keys-more, taken-more}
use Rattle.node_model.proofs.together.take_away_all.Goals as goal

pub loop-rest-preserved : goal.loop-rest-preserved
loop-rest-preserved c =
    let done = c.loop-rest.invariant.taken in record {
      taken = (
        done.0 ++ keys_of c.part-item.result,
        run-keys-more done.0 _ c.loop-rest.rest.now c.part-item.result c.in-len1-up.len_at_least c.part-item.is done.1,
        taken-more done.0 (keys_of c.part-item.result) _ _ _ done.2 c.take_away.ensures.keys,
      );
      room = omega (arith, c.loop-rest.invariant.room, c.take_away.ensures.room);
    }
