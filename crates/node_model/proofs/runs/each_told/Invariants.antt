use Rattle.std.proofs.Common.{◌++◌, List, length}
use Rattle.key_split.specs.declared.travel.Told.{Told}
use Rattle.node_model.specs.Runs.{AllTold}
use Rattle.node_model.proofs.runs.each_told.Given as goal

abbrev pub invariant-loop-rest : goal.invariant-loop-rest
invariant-loop-rest l = (more : List Told) → AllTold l.said l.rest more → AllTold l.said l.parts (l.tolds.items ++ more)

abbrev pub decreases-loop-rest : goal.decreases-loop-rest
decreases-loop-rest l = length l.rest
