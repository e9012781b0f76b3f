use Rattle.std.proofs.Common.{◌≡◌, [], map, take}
use Rattle.key_split.specs.declared.part.Op.TheVariants.{MGet}
use Rattle.key_split.specs.Groups.{alone}
use Rattle.key_split.specs.PartModel.{Pair}
use Rattle.local_cluster.proofs.foresight.reading_of.Given as goal

abbrev pub invariant-loop-key : goal.invariant-loop-key
invariant-loop-key l = record {
  op : l.made.op ≡ MGet;
  key : l.made.key ≡ l.part.key;
  arg : l.made.arg ≡ [];
  rest : l.made.rest ≡ alone (map (λ (pair : Pair). pair.0) (take l.key-index l.key-items));
}
