use Rattle.resp_wire.proofs.CanonicalLaws.{canonical_reads}
use Rattle.resp_wire.proofs.laws.canonical_reads.Goals as goal

pub returns : goal.returns
returns c = canonical_reads
