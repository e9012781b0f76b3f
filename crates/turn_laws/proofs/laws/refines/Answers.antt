use Rattle.turn_laws.proofs.Refines.{refines}
use Rattle.turn_laws.proofs.laws.refines.Goals as goal

pub returns : goal.returns
returns g c = refines g.row.C.Denot g.row.J.Denot c.parts_of_plans_are_plain.ensures
