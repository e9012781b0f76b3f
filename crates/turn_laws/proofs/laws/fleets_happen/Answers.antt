use Rattle.turn_laws.proofs.ScriptFleet.{happens}
use Rattle.turn_laws.proofs.laws.fleets_happen.Goals as goal

pub returns : goal.returns
returns g c = λ port. happens g.row.C.Denot g.row.J.Denot port c.front_is_whole.ensures
