use Rattle.turn_play.proofs.Alone.{reached-alone}
use Rattle.turn_play.proofs.laws.reached_alone.Goals as goal

pub returns : goal.returns
returns g c = reached-alone g.row.C.Denot g.row.J.Denot c.plays_refine.ensures
