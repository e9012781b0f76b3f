use Rattle.std.proofs.Common.{◌≡◌, ◌+◌, ◌++◌, List, ℕ, length}
use Rattle.std.specs.FinMap.{empty}
use Rattle.key_split.specs.declared.travel.Ended.{Ended}
use Rattle.cluster_world.specs.Answers.{EndsFrom}
use Rattle.cluster_world.proofs.one.answer.ends_on_empty.Given as goal

abbrev pub invariant-loop-rest : goal.invariant-loop-rest
invariant-loop-rest l =
    (length l.ends.items + length l.rest ≡ length l.parts)
    × ((more : List Ended) → EndsFrom l.store l.rest more → EndsFrom empty l.parts (l.ends.items ++ more))

abbrev pub decreases-loop-rest : goal.decreases-loop-rest
decreases-loop-rest l = length l.rest
