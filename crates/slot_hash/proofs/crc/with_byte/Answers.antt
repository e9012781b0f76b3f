use Rattle.slot_hash.proofs.Register.{Congruent-with_byte}
use Rattle.slot_hash.proofs.crc.with_byte.Goals as goal

pub returns : goal.returns
returns c = Congruent-with_byte _ _ _ c.remainder_of.ensures
