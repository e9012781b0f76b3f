use Rattle.std.proofs.Common.{◌≡◌, ◌++◌, ℕ, List, length}
use Rattle.node_model.specs.Runs.{keys_in}
use Rattle.node_model.specs.Together.{IsCopy}
use Rattle.node_model.proofs.store.Store.copy_for.Given as goal

abbrev pub invariant-loop-rest : goal.invariant-loop-rest
invariant-loop-rest l = (keys : List (List ℕ)) × (keys ++ keys_in l.rest ≡ keys_in l.parts) × IsCopy keys l.self l.copy

abbrev pub decreases-loop-rest : goal.decreases-loop-rest
decreases-loop-rest l = length l.rest
