use Rattle.std.proofs.Common.{◌≡◌, ◌<◌, ◌^◌, length}
use Rattle.std.specs.List.{list_all}
use Rattle.cluster_world.specs.Script.{digits_after, is_digit}
use Rattle.cluster_world.proofs.script.number.Given as goal

abbrev pub invariant-loop-rest : goal.invariant-loop-rest
invariant-loop-rest l =
    (digits_after l.value l.rest ≡ digits_after 0 l.word) × (list_all is_digit l.rest ≡ list_all is_digit l.word) × (0 < length l.word) × (l.value < 2 ^ 64)

abbrev pub decreases-loop-rest : goal.decreases-loop-rest
decreases-loop-rest l = length l.rest
