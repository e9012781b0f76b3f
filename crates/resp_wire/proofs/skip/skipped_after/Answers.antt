use Rattle.resp_wire.specs.Reading.{items_in}
use Rattle.resp_wire.proofs.SkipLaws.{simple_skipped, error_skipped, integer_skipped, bulk_skipped, counted_skipped, null_skipped, no_length_skipped}
use Rattle.resp_wire.proofs.skip.skipped_after.Goals as goal

pub returns-in-Simple : goal.returns-in-Simple
returns-in-Simple c = rw c.in-Simple.is (simple_skipped c.args.limits.now (items_in c.args.limits.now c.args.limits.now.depth) c.args.text.now c.args.rest.now)

pub returns-in-Error : goal.returns-in-Error
returns-in-Error c = rw c.in-Error.is (error_skipped c.args.limits.now (items_in c.args.limits.now c.args.limits.now.depth) c.args.text.now c.args.rest.now)

pub returns-in-Integer : goal.returns-in-Integer
returns-in-Integer c = rw c.in-Integer.is (integer_skipped c.args.limits.now (items_in c.args.limits.now c.args.limits.now.depth) c.args.text.now c.args.rest.now)

pub returns-in-Bulk : goal.returns-in-Bulk
returns-in-Bulk c = rw c.in-Bulk.is (bulk_skipped c.args.limits.now (items_in c.args.limits.now c.args.limits.now.depth) c.args.text.now c.args.rest.now)

pub returns-in-Ok-Some : goal.returns-in-Ok-Some
returns-in-Ok-Some c = rw c.in-Array.is (counted_skipped c.args.limits.now (items_in c.args.limits.now c.args.limits.now.depth) c.args.text.now c.args.rest.now c.in-Ok-Some.len c.skipped_array.result (rw c.in-Ok-Some.field-0-is at c.in-Ok-Some.ensures) c.skipped_array.ensures)

pub returns-in-Ok-None : goal.returns-in-Ok-None
returns-in-Ok-None c = rw c.in-Array.is (null_skipped c.args.limits.now (items_in c.args.limits.now c.args.limits.now.depth) c.args.text.now c.args.rest.now (rw c.in-Ok-None.field-0-is at c.in-Ok-None.ensures))

pub returns-in-Err : goal.returns-in-Err
returns-in-Err c = rw c.in-Array.is (no_length_skipped c.args.limits.now (items_in c.args.limits.now c.args.limits.now.depth) c.args.text.now c.args.rest.now c.in-Err.field-0 c.in-Err.ensures)
