use Rattle.std.proofs.Common.{sym}
use Rattle.cluster_world.proofs.Pieces.{nowhere}
use Rattle.cluster_world.proofs.script.cut.Goals as goal

pub returns-in_default : goal.returns-in_default
returns-in_default c = nowhere _ _ (sym c.in_default.ensures)
