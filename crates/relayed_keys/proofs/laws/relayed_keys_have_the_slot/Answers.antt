use Rattle.relayed_keys.proofs.Together.{keys-have-the-slot}
use Rattle.relayed_keys.proofs.laws.relayed_keys_have_the_slot.Goals as goal

pub returns : goal.returns
returns c = keys-have-the-slot
