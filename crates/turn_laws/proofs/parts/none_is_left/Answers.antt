use Rattle.turn_laws.proofs.SingleSteps.{none-is-left}
use Rattle.turn_laws.proofs.parts.none_is_left.Goals as goal

pub returns : goal.returns
returns g c = none-is-left g.row.C.Denot g.row.J.Denot
