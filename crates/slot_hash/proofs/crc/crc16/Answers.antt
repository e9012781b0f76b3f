use Rattle.std.proofs.Common.{arith, subst, ◌*◌, ◌^◌}
use Rattle.std.proofs.lemmas.List.{take_all}
use Rattle.slot_hash.specs.Polynomial.{IsRemainder}
use Rattle.slot_hash.specs.Division.{remainder-unique}
use Rattle.slot_hash.specs.Slot.{message, crc16_of}
use Rattle.slot_hash.proofs.Register.{Congruent-taken}
use Rattle.slot_hash.proofs.crc.crc16.Goals as goal

pub loop-byte-preserved : goal.loop-byte-preserved
loop-byte-preserved c = record {
  reduced = omega arith;
  congruent = Congruent-taken c.args.bytes.now c.loop-byte.byte-index c.loop-byte.register c.with_byte-register.result
      (omega arith) (omega arith) c.loop-byte.invariant.congruent c.with_byte-register.ensures;
}

pub returns : goal.returns
unfolding crc16_of
returns c =
    remainder-unique _ _ (subst (λ bytes. IsRemainder (message bytes * 2 ^ 16) c.loop-byte.register) (take_all c.loop-byte.byte-index c.args.bytes.now (omega arith)) c.loop-byte.invariant)
