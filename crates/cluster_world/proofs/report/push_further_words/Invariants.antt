use Rattle.std.proofs.Common.{◌≡◌, ◌++◌, take}
use Rattle.std.specs.List.{flat_map}
use Rattle.cluster_world.specs.Report.{space}
use Rattle.cluster_world.proofs.report.push_further_words.Given as goal

abbrev pub invariant-loop-word : goal.invariant-loop-word
invariant-loop-word l = l.out.items ≡ l.fn.out.items ++ flat_map (λ word. space ++ word) (take l.word-index l.words)
