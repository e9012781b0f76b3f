use Rattle.turn_laws.proofs.Served.{served}
use Rattle.turn_laws.proofs.ServedLate.{served-late}
use Rattle.turn_laws.proofs.laws.nodes_refine.Goals as goal

pub returns : goal.returns
returns g c = (served g.row.C.Denot g.row.J.Denot, served-late g.row.C.Denot g.row.J.Denot)
