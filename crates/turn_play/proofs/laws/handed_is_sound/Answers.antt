use Rattle.turn_play.proofs.Handed.{handed-is-sound}
use Rattle.turn_play.proofs.laws.handed_is_sound.Goals as goal

pub returns : goal.returns
returns g c = handed-is-sound g.row.C.Denot g.row.J.Denot c.plays_refine_beside.ensures
