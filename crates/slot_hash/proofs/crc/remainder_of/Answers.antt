use Rattle.std.proofs.Common.{arith}
use Rattle.slot_hash.proofs.Remainders.{Congruent-REMAINDERS}
use Rattle.slot_hash.proofs.crc.remainder_of.Goals as goal

pub returns : goal.returns
returns c = Congruent-REMAINDERS c.args.byte (omega arith)
