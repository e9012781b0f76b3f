use Rattle.std.proofs.Common.{◌↔◌, drop}
use Rattle.std.specs.FinMap.{empty}
use Rattle.node_model.specs.History.{IsLegal}
use Rattle.cluster_world.proofs.lawful.is_legal.Given as goal

abbrev pub invariant-loop-entry : goal.invariant-loop-entry
invariant-loop-entry l = IsLegal empty l.history ↔ IsLegal l.store (drop l.entry-index l.history)
