use Rattle.turn_laws.proofs.ByteServing.{begins-bytes, serves-bytes}
use Rattle.turn_laws.proofs.ItemsRead.{items-read-back}
use Rattle.turn_laws.proofs.laws.nodes_serve_bytes.Goals as goal

pub returns-clause-begins : goal.returns-clause-begins
returns-clause-begins g c = begins-bytes g.S.WiredStream.far

pub returns-clause-serves : goal.returns-clause-serves
returns-clause-serves g c = serves-bytes g.S.WiredStream.far

pub returns-clause-reads : goal.returns-clause-reads
returns-clause-reads g c = items-read-back
