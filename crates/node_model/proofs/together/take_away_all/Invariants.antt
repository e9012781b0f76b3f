use Rattle.std.proofs.Common.{◌≡◌, ◌≤◌, ◌++◌, ℕ, List, length}
use Rattle.std.specs.HashMap.{spare}
use Rattle.std.specs.FinMap.{from_entries}
use Rattle.node_model.specs.Runs.{keys_in}
use Rattle.node_model.specs.Together.{AreTaken}
use Rattle.node_model.proofs.together.take_away_all.Given as goal

abbrev pub invariant-loop-rest : goal.invariant-loop-rest
invariant-loop-rest l = record {
  taken : (keys : List (List ℕ)) × (keys ++ keys_in l.rest ≡ keys_in l.parts) × AreTaken keys (from_entries l.fn.held.entries) (from_entries l.held.entries);
  room : spare l.fn.held ≤ spare l.held;
}

abbrev pub decreases-loop-rest : goal.decreases-loop-rest
decreases-loop-rest l = length l.rest
