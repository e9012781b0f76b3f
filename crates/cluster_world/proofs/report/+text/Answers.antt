use Rattle.std.proofs.Common.{arith, ap, sym}
use Rattle.resp_wire.specs.Seen.{data_of, height}
use Rattle.resp_wire.specs.declared.value.Value.{Value}
use Rattle.cluster_world.specs.Report.{value_text}
use Rattle.cluster_world.proofs.Texts.{barred-end, barred-on, grows-on, height_at, whole-on}
use Rattle.cluster_world.proofs.report.+text.Goals as goal

pub push_further_texts-push_value_text-requires : goal.push_further_texts-push_value_text-requires
push_further_texts-push_value_text-requires t c =
    let k = height_at c.args.items.now c.loop-item.item-index c.item-item.result c.loop-item-test.true in
    let i = ap (λ (v : Value). height (data_of v)) c.item-item.is in
    (omega (arith, k, i, c.decreases), tt)

pub push_further_texts-returns-in_err-push_value_text-clause-grows : goal.push_further_texts-returns-in_err-push_value_text-clause-grows
push_further_texts-returns-in_err-push_value_text-clause-grows t c =
    grows-on _ _ _ (grows-on _ _ _ c.loop-item.invariant.1 (_, c.in_ok-extend_from_slice.ensures.items)) c.in_err-push_value_text.ensures.grows

pub push_further_texts-loop-item-preserved : goal.push_further_texts-loop-item-preserved
push_further_texts-loop-item-preserved t c = (
  barred-on c.args.items.now c.loop-item.item-index c.item-item.result _ _ _ _ c.loop-item-test.true c.item-item.is c.loop-item.invariant.0 c.in_ok-extend_from_slice.ensures.items
      c.in_ok-push_value_text.ensures.ok,
  grows-on _ _ _ (grows-on _ _ _ c.loop-item.invariant.1 (_, c.in_ok-extend_from_slice.ensures.items)) c.in_ok-push_value_text.ensures.grows,
)

pub push_further_texts-returns-clause-ok : goal.push_further_texts-returns-clause-ok
push_further_texts-returns-clause-ok t c = let end = c.loop-item-test.false in barred-end c.args.items.now c.loop-item.item-index _ _ (omega (arith, end)) c.loop-item.invariant.0

pub push_items_text-returns-in_ok-push_value_text-in-len1-up-clause-grows : goal.push_items_text-returns-in_ok-push_value_text-in-len1-up-clause-grows
push_items_text-returns-in_ok-push_value_text-in-len1-up-clause-grows t c = grows-on _ _ _ c.in_ok-push_value_text-in-len1-up.ensures.grows c.push_further_texts.ensures.grows

pub push_value_text-returns-in_ok-extend_from_slice-in-Array-clause-ok : goal.push_value_text-returns-in_ok-extend_from_slice-in-Array-clause-ok
push_value_text-returns-in_ok-extend_from_slice-in-Array-clause-ok t c =
    whole-on c.push_items_text.result _ _ _ _ _ _ c.in_ok-extend_from_slice-in-Array.ensures.items c.push_items_text.ensures.ok (ap (λ (v : Value). value_text (data_of v)) (sym c.in-Array.is))

pub push_value_text-returns-in_ok-extend_from_slice-in-Array-clause-grows : goal.push_value_text-returns-in_ok-extend_from_slice-in-Array-clause-grows
push_value_text-returns-in_ok-extend_from_slice-in-Array-clause-grows t c =
    grows-on _ _ _ (_, c.in_ok-extend_from_slice-in-Array.ensures.items) c.push_items_text.ensures.grows
