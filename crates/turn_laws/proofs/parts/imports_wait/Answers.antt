use Rattle.turn_laws.proofs.SingleSteps.{imports-wait}
use Rattle.turn_laws.proofs.parts.imports_wait.Goals as goal

pub returns : goal.returns
returns g c = imports-wait g.row.C.Denot g.row.J.Denot
