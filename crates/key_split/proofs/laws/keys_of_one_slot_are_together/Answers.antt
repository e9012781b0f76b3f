use Rattle.key_split.proofs.Together.{together-by-slot}
use Rattle.key_split.proofs.laws.keys_of_one_slot_are_together.Goals as goal

pub returns : goal.returns
returns c = together-by-slot
