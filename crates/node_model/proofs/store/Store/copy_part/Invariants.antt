use Rattle.std.proofs.Common.{◌≡◌, ◌++◌, ℕ, List, length, map}
use Rattle.key_split.specs.PartModel.{keys_of}
use Rattle.node_model.specs.Together.{IsCopy}
use Rattle.node_model.proofs.store.Store.copy_part.Given as goal

abbrev pub invariant-loop-rest : goal.invariant-loop-rest
invariant-loop-rest l =
    (before : List (List ℕ)) → IsCopy before l.self l.fn.copy
    → (keys : List (List ℕ)) × (keys ++ map (λ pair. pair.0) l.rest ≡ before ++ keys_of l.part) × IsCopy keys l.self l.copy

abbrev pub decreases-loop-rest : goal.decreases-loop-rest
decreases-loop-rest l = length l.rest
