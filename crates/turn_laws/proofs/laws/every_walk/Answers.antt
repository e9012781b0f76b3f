use Rattle.turn_laws.proofs.Walks.{every_walk}
use Rattle.turn_laws.proofs.laws.every_walk.Goals as goal

pub returns : goal.returns
returns c = every_walk
