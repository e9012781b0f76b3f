use Rattle.std.proofs.Common.{◌≡◌, ◌++◌, length}
use Rattle.std.specs.Prelude.{All}
use Rattle.std.specs.List.{flat_map}
use Rattle.key_split.specs.Requests.{requests_of}
use Rattle.node_link.specs.Blocks.{IsPlainRequest}
use Rattle.node_link.specs.Bytes.{spelled}
use Rattle.node_link.proofs.spelling.push_batches.Given as goal

abbrev pub invariant-loop-rest : goal.invariant-loop-rest
invariant-loop-rest l = record {
  draft : l.out.draft ++ spelled (flat_map requests_of l.rest) ≡ l.fn.out.draft ++ spelled (flat_map requests_of l.batches);
  plain : All IsPlainRequest (flat_map requests_of l.rest) → All IsPlainRequest (flat_map requests_of l.batches);
  kept : l.out.unsent ≡ l.fn.out.unsent;
}

abbrev pub decreases-loop-rest : goal.decreases-loop-rest
decreases-loop-rest l = length l.rest
