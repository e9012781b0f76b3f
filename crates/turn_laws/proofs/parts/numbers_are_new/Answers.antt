use Rattle.turn_laws.proofs.SingleSteps.{numbers-are-new}
use Rattle.turn_laws.proofs.parts.numbers_are_new.Goals as goal

pub returns : goal.returns
returns g c = numbers-are-new g.row.C.Denot g.row.J.Denot
