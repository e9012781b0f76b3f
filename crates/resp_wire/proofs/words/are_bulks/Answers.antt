use Rattle.resp_wire.proofs.WordLaws.{bulk_next, no_bulk_next}
use Rattle.std.proofs.Common.{sym, ◌∙◌}
use Rattle.resp_wire.proofs.words.are_bulks.Goals as goal

pub loop-item-preserved : goal.loop-item-preserved
loop-item-preserved c = bulk_next c.as_slice-item-items.result.now c.loop-item.item-index c.item-item.result _ c.loop-item-test.true c.item-item.is (sym c.if-not-is_bulk.ensures) c.loop-item.invariant

pub returns-then-not-is_bulk : goal.returns-then-not-is_bulk
returns-then-not-is_bulk c = no_bulk_next c.as_slice-item-items.result.now c.loop-item.item-index c.item-item.result _ c.loop-item-test.true c.item-item.is (sym c.if-not-is_bulk.ensures) c.loop-item.invariant
