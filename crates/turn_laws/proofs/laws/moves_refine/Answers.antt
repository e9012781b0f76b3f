use Rattle.turn_laws.proofs.AtNodes.{moved}
use Rattle.turn_laws.proofs.Handing.{handed}
use Rattle.turn_laws.proofs.Throwing.{thrown}
use Rattle.turn_laws.proofs.laws.moves_refine.Goals as goal

pub returns-clause-moves : goal.returns-clause-moves
returns-clause-moves g c = moved g.row.C.Denot g.row.J.Denot

pub returns-clause-thrown : goal.returns-clause-thrown
returns-clause-thrown g c = thrown g.row.C.Denot g.row.J.Denot

pub returns-clause-handed : goal.returns-clause-handed
returns-clause-handed g c = handed g.row.C.Denot g.row.J.Denot
