use Rattle.std.proofs.Common.{◌≡◌, length}
use Rattle.std.specs.List.{list_all}
use Rattle.std.specs.Str.{bytes_eq}
use Rattle.node_model.specs.Runs.{keys_in}
use Rattle.node_model.proofs.runs.have_one_key.Given as goal

abbrev pub invariant-loop-rest : goal.invariant-loop-rest
invariant-loop-rest l = list_all (λ key. bytes_eq key l.first) (keys_in l.rest) ≡ list_all (λ key. bytes_eq key l.first) (keys_in l.parts)

abbrev pub decreases-loop-rest : goal.decreases-loop-rest
decreases-loop-rest l = length l.rest
