use Rattle.turn_laws.proofs.Settling.{settling, settling-after}
use Rattle.turn_laws.proofs.laws.settles_at_once.Goals as goal

pub returns-clause-at_once : goal.returns-clause-at_once
returns-clause-at_once c = settling

pub returns-clause-after : goal.returns-clause-after
returns-clause-after c = settling-after
