use Rattle.std.proofs.Common.{◌≡◌, ap, length, inr, ◌∙◌, arith}
use Rattle.slot_hash.specs.Slot.{slot_of}
use Rattle.key_split.proofs.part.Part.new.Goals as goal

pub invariant_of-result : goal.invariant_of-result
invariant_of-result c =
    let none : length c.new.result.items ≡ 0 = ap length c.new.ensures.items in (
      c.slot_of-slot.ensures.value ∙ ap slot_of c.as_slice.ensures,
      λ k d within. absurd (omega (arith, within)),
      inr c.new.ensures.items,
      c.value_for.ensures.fits,
      λ k d within. absurd (omega (arith, within)),
    )
