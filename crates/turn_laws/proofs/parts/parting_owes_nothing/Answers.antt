use Rattle.turn_laws.proofs.PartedOutput.{parting-owes-nothing}
use Rattle.turn_laws.proofs.parts.parting_owes_nothing.Goals as goal

pub returns : goal.returns
returns g c = parting-owes-nothing g.row.C.Denot g.row.J.Denot
