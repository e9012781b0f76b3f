use Rattle.std.proofs.Common.{◌≡◌, ◌≤◌, ◌++◌, ℕ, List, length, map}
use Rattle.std.specs.HashMap.{spare}
use Rattle.std.specs.FinMap.{from_entries}
use Rattle.key_split.specs.PartModel.{keys_of}
use Rattle.node_model.specs.Together.{AreTaken}
use Rattle.node_model.proofs.together.take_away.Given as goal

abbrev pub invariant-loop-rest : goal.invariant-loop-rest
invariant-loop-rest l = record {
  taken : (keys : List (List ℕ)) × (keys ++ map (λ pair. pair.0) l.rest ≡ keys_of l.part) × AreTaken keys (from_entries l.fn.held.entries) (from_entries l.held.entries);
  room : spare l.fn.held ≤ spare l.held;
}

abbrev pub decreases-loop-rest : goal.decreases-loop-rest
decreases-loop-rest l = length l.rest
