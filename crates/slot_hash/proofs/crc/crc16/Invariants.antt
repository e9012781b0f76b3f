use Rattle.std.proofs.Common.{◌*◌, ◌^◌, take}
use Rattle.slot_hash.specs.Polynomial.{IsRemainder}
use Rattle.slot_hash.specs.Slot.{message}
use Rattle.slot_hash.proofs.crc.crc16.Given as goal

abbrev pub invariant-loop-byte : goal.invariant-loop-byte
invariant-loop-byte l = IsRemainder (message (take l.byte-index l.bytes) * 2 ^ 16) l.register
