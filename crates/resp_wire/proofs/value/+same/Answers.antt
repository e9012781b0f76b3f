use Rattle.std.proofs.Common.{rules, ◌≡◌, map, length, ◌⊎◌, inl, inr, sym, ◌∙◌}
use Rattle.resp_wire.proofs.SameLaws.{other_count, differs, goes_on, ended}
use Rattle.resp_wire.proofs.value.+same.Goals as goal

pub Values::are_same-returns-then-as_slice : goal.Values::are_same-returns-then-as_slice
Values::are_same-returns-then-as_slice t c = other_count c.as_slice.result.now c.as_slice-2.result.now c.args.self.now c.args.other.now c.as_slice.ensures c.as_slice-2.ensures c.if-as_slice.true

pub Values::are_same-returns-then-not-is_same : goal.Values::are_same-returns-then-not-is_same
Values::are_same-returns-then-not-is_same t c = differs _ _ _ _ c.in-Some.item.now c.in-Some.other.now _ c.in-Some.ensures.steps.0 c.in-Some.ensures.steps.1 c.if-not-is_same.ensures c.loop-item.invariant.1

pub Values::are_same-loop-item-preserved : goal.Values::are_same-loop-item-preserved
Values::are_same-loop-item-preserved t c = goes_on _ _ _ _ c.in-Some.item.now c.in-Some.other.now _ c.in-Some.ensures.steps.0 c.in-Some.ensures.steps.1 c.if-not-is_same.ensures c.loop-item.invariant

pub Values::are_same-returns : goal.Values::are_same-returns
Values::are_same-returns t c = elim c.in-None.ensures.steps [
  | inl h ↦ ended _ _ _ h.1.0 c.loop-item.invariant
  | inr h ↦ ended _ _ _ (c.loop-item.invariant.0 ∙ h.1.0) c.loop-item.invariant
]
