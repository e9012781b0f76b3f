use Rattle.std.proofs.Common.{subst, sym}
use Rattle.std.specs.Prelude.{All}
use Rattle.key_split.specs.PartModel.{Pair, IsValueFor}
use Rattle.key_split.proofs.Values.{alone-fit}
use Rattle.key_split.proofs.planner.summed.Goals as goal

pub grouped-requires-clause-values : goal.grouped-requires-clause-values
grouped-requires-clause-values c =
    subst (All (λ (pair : Pair). IsValueFor c.args.op pair.1)) (sym c.in_ok-alone.ensures) (alone-fit c.args.op c.args.keys.now)
