use Rattle.turn_laws.proofs.Simulates.{worker-step}
use Rattle.turn_laws.proofs.laws.workers_refine.Goals as goal

pub returns : goal.returns
returns g c = worker-step g.row.C.Denot g.row.J.Denot c.parts_of_plans_are_plain.ensures
