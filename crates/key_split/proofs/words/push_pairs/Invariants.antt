use Rattle.std.proofs.Common.{◌≡◌, ◌++◌, take}
use Rattle.std.specs.List.{flat_map}
use Rattle.key_split.specs.Words.{pair_words}
use Rattle.key_split.proofs.words.push_pairs.Given as goal

abbrev pub invariant-loop-key : goal.invariant-loop-key
invariant-loop-key l = l.words.items ≡ l.fn.words.items ++ flat_map (pair_words l.op) (take l.key-index l.pairs)
