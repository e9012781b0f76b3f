use Rattle.turn_laws.proofs.NamesStay.{names-stay}
use Rattle.turn_laws.proofs.laws.names_stay.Goals as goal

pub returns : goal.returns
returns g c = names-stay g.row.C.Denot g.row.J.Denot
