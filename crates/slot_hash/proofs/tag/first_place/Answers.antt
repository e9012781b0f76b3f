use Rattle.slot_hash.proofs.Places.{position-first}
use Rattle.slot_hash.proofs.tag.first_place.Goals as goal

pub returns : goal.returns
returns c = position-first _ _ _ c.memchr.ensures
