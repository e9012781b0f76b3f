use Rattle.std.proofs.Common.{◌≡◌, length}
use Rattle.std.specs.Prelude.{◌&&◌, is_some, is_none}
use Rattle.std.specs.List.{list_all}
use Rattle.std.specs.FinMap.{get}
use Rattle.node_model.specs.Runs.{keys_in}
use Rattle.node_model.proofs.node.Node.held_of_run.Given as goal

abbrev pub invariant-loop-rest : goal.invariant-loop-rest
invariant-loop-rest l = record {
  all : (l.all && list_all (λ key. is_some (get l.self key)) (keys_in l.rest)) ≡ list_all (λ key. is_some (get l.self key)) (keys_in l.parts);
  none : (l.none && list_all (λ key. is_none (get l.self key)) (keys_in l.rest)) ≡ list_all (λ key. is_none (get l.self key)) (keys_in l.parts);
}

abbrev pub decreases-loop-rest : goal.decreases-loop-rest
decreases-loop-rest l = length l.rest
