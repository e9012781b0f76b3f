use Rattle.std.proofs.Common.{ap, sym, ◌∙◌, ◌%◌, subst}
use Rattle.slot_hash.specs.Slot.{slot_of, crc16_of, tag_of, IsSlotNumber, IsSlotNumber-slot_of}
use Rattle.slot_hash.proofs.slot.slot_of.Goals as goal

pub returns : goal.returns
unfolding slot_of
returns c =
    let value = ap (λ x. x % 16384) (c.crc16-number.ensures ∙ ap crc16_of c.tag_of.ensures) in
    record { value = value; remainder = subst (IsSlotNumber (tag_of c.args.key.now)) (sym value) (IsSlotNumber-slot_of c.args.key.now) }
