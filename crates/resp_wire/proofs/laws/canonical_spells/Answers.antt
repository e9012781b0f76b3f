use Rattle.resp_wire.proofs.CanonicalLaws.{canonical_spells}
use Rattle.resp_wire.proofs.laws.canonical_spells.Goals as goal

pub returns : goal.returns
returns c = canonical_spells
