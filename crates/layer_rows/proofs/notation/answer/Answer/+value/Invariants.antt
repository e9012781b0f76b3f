use Rattle.std.proofs.Common.{◌+◌, ◌*◌}
use Rattle.layer_rows.proofs.notation.answer.Answer.+value.Given as goal

abbrev pub decreases-value_within : goal.decreases-value_within
decreases-value_within l = 2 * l.depth + 1

abbrev pub decreases-items_within : goal.decreases-items_within
decreases-items_within l = 2 * l.depth
