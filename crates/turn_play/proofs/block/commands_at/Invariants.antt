use Rattle.std.proofs.Common.{◌-◌, length}
use Rattle.turn_play.proofs.Heard.{LeadsTo}
use Rattle.turn_play.proofs.block.commands_at.Given as goal

abbrev pub invariant-loop-at : goal.invariant-loop-at
invariant-loop-at l = LeadsTo l.bytes l.parts.items l.at

abbrev pub decreases-loop-at : goal.decreases-loop-at
decreases-loop-at l = length l.bytes - l.at
