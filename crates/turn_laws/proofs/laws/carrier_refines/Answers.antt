use Rattle.turn_laws.proofs.Simulates.{carrier-step}
use Rattle.turn_laws.proofs.laws.carrier_refines.Goals as goal

pub returns : goal.returns
returns g c = carrier-step g.row.C.Denot g.row.J.Denot
