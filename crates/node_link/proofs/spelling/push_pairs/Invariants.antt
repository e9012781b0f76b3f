use Rattle.std.proofs.Common.{◌≡◌, ◌++◌, length}
use Rattle.std.specs.List.{flat_map}
use Rattle.key_split.specs.Words.{pair_words}
use Rattle.node_link.specs.Spelling.{spelled_bulks}
use Rattle.node_link.proofs.spelling.push_pairs.Given as goal

abbrev pub invariant-loop-rest : goal.invariant-loop-rest
invariant-loop-rest l = record {
  draft : l.out.draft ++ spelled_bulks (flat_map (pair_words l.op) l.rest) ≡ l.fn.out.draft ++ spelled_bulks (flat_map (pair_words l.op) l.pairs);
  kept : l.out.unsent ≡ l.fn.out.unsent;
}

abbrev pub decreases-loop-rest : goal.decreases-loop-rest
decreases-loop-rest l = length l.rest
