use Rattle.turn_play.proofs.Hears.{same-words}
use Rattle.turn_play.proofs.plain_part.are_same.Goals as goal

pub returns : goal.returns
returns c = same-words c.args.words.now c.args.others.now c.eq.result c.eq.ensures
