use Rattle.turn_laws.proofs.ItemsRead.{items-read-back}
use Rattle.turn_laws.proofs.parts.items_are_read_back.Goals as goal

pub returns : goal.returns
returns c = items-read-back
