use Rattle.std.proofs.Common.{arith, suc}
use Rattle.resp_wire.specs.Data.{array, items_of}
use Rattle.resp_wire.proofs.WriteLaws.{mapped_length}
use Rattle.turn_play.proofs.ReadBack.{item-spelled, items-spelled, none-spelled, null-array-spelled, null-spelled}
use Rattle.turn_play.proofs.Overlong.{both-true, bulk-tells, item-unreadable, room-tells, too-many}
use Rattle.turn_play.proofs.readable.+readable.Goals as goal

pub has_short_items-loop-item-init : goal.has_short_items-loop-item-init
has_short_items-loop-item-init t c = none-spelled c.args.room

pub has_short_items-loop-item-preserved : goal.has_short_items-loop-item-preserved
has_short_items-loop-item-preserved t c =
    item-spelled c.args.room c.as_slice-item-items.result.now c.loop-item.item-index c.item-item.result c.loop-item-test.true c.item-item.is c.loop-item.invariant (c.is_readable.ensures.0 c.if-not-is_readable.false)

pub has_short_items-returns-then-as_slice-gt-MOST_ITEMS : goal.has_short_items-returns-then-as_slice-gt-MOST_ITEMS
has_short_items-returns-then-as_slice-gt-MOST_ITEMS t c =
    let many = mapped_length c.as_slice.result.now c.args.items.now c.as_slice.ensures in
    too-many (suc c.args.room) c.args.items.now (omega (arith, many, c.if-as_slice-gt-MOST_ITEMS.true))

pub has_short_items-returns-then-not-is_readable : goal.has_short_items-returns-then-not-is_readable
has_short_items-returns-then-not-is_readable t c =
    item-unreadable c.args.room c.as_slice-item-items.result.now c.loop-item.item-index c.item-item.result c.args.items.now c.is_readable.result c.loop-item-test.true c.item-item.is c.as_slice-item-items.ensures c.is_readable.ensures.1 c.if-not-is_readable.true

pub has_short_items-returns : goal.has_short_items-returns
has_short_items-returns t c =
    let past = c.loop-item-test.false in
    let few = mapped_length c.as_slice.result.now c.args.items.now c.as_slice.ensures in
    both-true (items-spelled c.args.room c.as_slice-item-items.result.now c.loop-item.item-index c.args.items.now (omega (arith, past)) c.as_slice-item-items.ensures (omega (arith, few, c.if-as_slice-gt-MOST_ITEMS.false)) c.loop-item.invariant)

pub is_readable-returns-in-Simple : goal.is_readable-returns-in-Simple
is_readable-returns-in-Simple t c = let tells = c.is_short.ensures.simple c.args.room in rw c.in-Simple.is tells

pub is_readable-returns-in-Error : goal.is_readable-returns-in-Error
is_readable-returns-in-Error t c = let tells = c.is_short-in-Error.ensures.error c.args.room in rw c.in-Error.is tells

pub is_readable-returns-in-Integer : goal.is_readable-returns-in-Integer
is_readable-returns-in-Integer t c = let tells = c.is_number.ensures c.args.room in rw c.in-Integer.is tells

pub is_readable-returns-in-Bulk : goal.is_readable-returns-in-Bulk
is_readable-returns-in-Bulk t c = rw c.in-Bulk.is (bulk-tells c.in-Bulk.bytes c.as_slice.result.now c.args.room c.as_slice.ensures)

pub is_readable-returns-in-NullBulk : goal.is_readable-returns-in-NullBulk
is_readable-returns-in-NullBulk t c = rw c.in-NullBulk.is (both-true (null-spelled c.args.room))

pub is_readable-returns-in-NullArray : goal.is_readable-returns-in-NullArray
is_readable-returns-in-NullArray t c = rw c.in-NullArray.is (both-true (null-array-spelled c.args.room))

pub is_readable-returns-then-room-gt0 : goal.is_readable-returns-then-room-gt0
is_readable-returns-then-room-gt0 t c = rw c.in-Array.is (room-tells c.args.room (array (items_of c.in-Array.items)) c.has_short_items.result c.if-room-gt0.true c.has_short_items.ensures)
