use Rattle.std.proofs.Common.{length}
use Rattle.std.specs.Prelude.{◌↔◌}
use Rattle.node_model.specs.Runs.{keys_in}
use Rattle.node_model.proofs.AllDone.{AreIn}
use Rattle.node_model.proofs.runs.have_one_slot.Given as goal

abbrev pub invariant-loop-rest : goal.invariant-loop-rest
invariant-loop-rest l = AreIn l.slot (keys_in l.rest) ↔ AreIn l.slot (keys_in l.parts)

abbrev pub decreases-loop-rest : goal.decreases-loop-rest
decreases-loop-rest l = length l.rest
