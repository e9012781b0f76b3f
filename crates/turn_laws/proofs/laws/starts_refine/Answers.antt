use Rattle.turn_laws.proofs.Starts.{start-shadow}
use Rattle.turn_laws.proofs.laws.starts_refine.Goals as goal

pub returns : goal.returns
returns g c = start-shadow g.row.C.Denot g.row.J.Denot
