use Rattle.std.proofs.Common.{[], ◌∷◌, map, sym, ap, ◌∙◌, ◌++◌, arith}
use Rattle.std.specs.FinMap.{from_entries, remove}
use Rattle.key_split.specs.PartModel.{Pair}
use Rattle.node_model.proofs.Entries.{from_entries-remove}
use Rattle.node_model.proofs.AllDone.{keys-more, nothing-taken, taken-one}
use Rattle.node_model.proofs.together.take_away.Goals as goal

pub loop-rest-init : goal.loop-rest-init
loop-rest-init c =
    let old = from_entries c.args.held.now.entries in record {
      taken = (
        c.args.part.now.key ∷ [],
        ap (λ ps. c.args.part.now.key ∷ map (λ (pair : Pair). pair.0) ps) c.rest-rest.ensures.value,
        taken-one [] old old _ c.args.part.now.key
            (from_entries-remove c.key.result.now c.args.held.now.entries c.remove.new.self.entries c.remove.ensures.updates.0 ∙ ap (remove old) c.key.ensures) (nothing-taken old),
      );
      room = c.remove.ensures.spare;
    }

pub loop-rest-preserved : goal.loop-rest-preserved
loop-rest-preserved c =
    let done = c.loop-rest.invariant.taken in record {
      taken = (
        done.0 ++ c.index-rest-0.result.0 ∷ [],
        keys-more done.0 _ c.loop-rest.rest.now c.index-rest-0.result c.in-len1-up.len_at_least c.index-rest-0.is done.1,
        taken-one done.0 _ _ _ c.index-rest-0.result.0
            (from_entries-remove _ c.loop-rest.held.entries c.remove-in-len1-up.new.self.entries c.remove-in-len1-up.ensures.updates.0
            ∙ ap (λ (p : Pair). remove (from_entries c.loop-rest.held.entries) p.0) (sym c.index-rest-0.is)) done.2,
      );
      room = omega (arith, c.loop-rest.invariant.room, c.remove-in-len1-up.ensures.spare);
    }
