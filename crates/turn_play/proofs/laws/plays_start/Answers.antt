use Rattle.turn_play.proofs.Starting.{plays-start}
use Rattle.turn_play.proofs.laws.plays_start.Goals as goal

pub returns : goal.returns
returns g c = plays-start g.row.C.Denot g.row.J.Denot
