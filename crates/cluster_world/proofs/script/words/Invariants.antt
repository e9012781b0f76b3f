use Rattle.std.proofs.Common.{◌≡◌, ◌++◌, length, true}
use Rattle.std.specs.List.{list_all, slice_split}
use Rattle.cluster_world.specs.Script.{is_space, is_word}
use Rattle.cluster_world.proofs.script.words.Given as goal

abbrev pub invariant-loop-word : goal.invariant-loop-word
invariant-loop-word l =
    (slice_split is_space l.text ≡ l.words.items ++ slice_split is_space l.rest) × (list_all is_word l.words.items ≡ true)

abbrev pub decreases-loop-word : goal.decreases-loop-word
decreases-loop-word l = length l.rest
