use Rattle.turn_laws.proofs.OutputEnds.{ends-decide}
use Rattle.turn_laws.proofs.parts.ends_decide.Goals as goal

pub returns : goal.returns
returns g c = ends-decide g.row.C.Denot g.row.J.Denot
