use Rattle.std.proofs.Common.{arith, ap}
use Rattle.resp_wire.specs.Seen.{data_of, height, size_of}
use Rattle.resp_wire.specs.declared.value.Value.{Value}
use Rattle.resp_wire.proofs.WriteLaws.{grows_then, height_at, written, mapped_length}
use Rattle.resp_wire.proofs.write.+write.Goals as goal

pub push_items-push_value-requires : goal.push_items-push_value-requires
push_items-push_value-requires t c =
    let k = height_at c.as_slice-item-items.result.now c.loop-item.item-index c.item-item.result c.loop-item-test.true in
    let i = ap (λ (v : Value). height (data_of v)) c.item-item.is in
    let e = ap size_of c.as_slice-item-items.ensures in
    (omega (arith, k, i, e, c.decreases), tt)

pub push_value-returns-in_ok-push_length-in-Array-clause-ok : goal.push_value-returns-in_ok-push_length-in-Array-clause-ok
push_value-returns-in_ok-push_length-in-Array-clause-ok t c =
    rw c.in-Array.is (written c.push_items.result c.args.out.now.items c.push_length.new.out.items c.push_items.new.out.items _ c.in-Array.items (mapped_length c.as_slice-in-Array.result.now c.in-Array.items c.as_slice-in-Array.ensures) c.in_ok-push_length-in-Array.ensures.ok c.push_items.ensures.ok)

pub push_items-returns-in_err-push_value-clause-grows : goal.push_items-returns-in_err-push_value-clause-grows
push_items-returns-in_err-push_value-clause-grows t c = grows_then c.args.out.now.items c.loop-item.out.items c.push_value.new.out.items c.loop-item.invariant.1 c.push_value.ensures.grows
