use Rattle.turn_laws.proofs.SingleSteps.{tables-read-alike}
use Rattle.turn_laws.proofs.parts.tables_read_alike.Goals as goal

pub returns : goal.returns
returns g c = tables-read-alike g.row.C.Denot g.row.J.Denot
