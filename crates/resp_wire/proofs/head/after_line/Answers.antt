use Rattle.std.proofs.Common.{◌++◌, []}
use Rattle.resp_wire.specs.Data.{simple, error, integer, null_bulk, null_array}
use Rattle.resp_wire.specs.Reading.{items_in}
use Rattle.resp_wire.proofs.HeadLaws.{head_same, of_simple, of_error, of_integer, of_no_integer, of_bulk, of_null_bulk, of_bad_bulk, of_array, of_null_array, of_bad_array}
use Rattle.resp_wire.proofs.head.after_line.Goals as goal

pub returns-in-Simple-clause-head : goal.returns-in-Simple-clause-head
returns-in-Simple-clause-head c = rw c.in-Simple.is (simple c.args.text.now, λ more. of_simple c.args.limits.now (items_in c.args.limits.now c.args.room) c.args.text.now (c.args.rest.now ++ more))

pub returns-in-Error-clause-head : goal.returns-in-Error-clause-head
returns-in-Error-clause-head c = rw c.in-Error.is (error c.args.text.now, λ more. of_error c.args.limits.now (items_in c.args.limits.now c.args.room) c.args.text.now (c.args.rest.now ++ more))

pub returns-in-Some-clause-head : goal.returns-in-Some-clause-head
returns-in-Some-clause-head c = rw c.in-Integer.is (integer c.in-Some.field-0, λ more. of_integer c.args.limits.now (items_in c.args.limits.now c.args.room) c.args.text.now (c.args.rest.now ++ more) c.in-Some.field-0 c.in-Some.ensures)

pub returns-in-None-clause-head : goal.returns-in-None-clause-head
returns-in-None-clause-head c = rw c.in-Integer.is (of_no_integer c.args.limits.now (items_in c.args.limits.now c.args.room) c.args.text.now (c.args.rest.now ++ []) c.in-None.ensures)

pub returns-in-Ok-Some-clause-head : goal.returns-in-Ok-Some-clause-head
returns-in-Ok-Some-clause-head c = rw c.in-Bulk.is (head_same c.args.limits.now c.args.room _ _ _ (λ more. of_bulk c.args.limits.now (items_in c.args.limits.now c.args.room) c.args.text.now (c.args.rest.now ++ more) c.in-Ok-Some.len (rw c.in-Ok-Some.field-0-is at c.in-Ok-Some.ensures)) (c.after_bulk_length.ensures.head c.args.room))

pub returns-in-Ok-None-clause-head : goal.returns-in-Ok-None-clause-head
returns-in-Ok-None-clause-head c = rw c.in-Bulk.is (null_bulk, λ more. of_null_bulk c.args.limits.now (items_in c.args.limits.now c.args.room) c.args.text.now (c.args.rest.now ++ more) (rw c.in-Ok-None.field-0-is at c.in-Ok-None.ensures))

pub returns-in-Err-clause-head : goal.returns-in-Err-clause-head
returns-in-Err-clause-head c = rw c.in-Bulk.is (of_bad_bulk c.args.limits.now (items_in c.args.limits.now c.args.room) c.args.text.now (c.args.rest.now ++ []) c.in-Err.fault c.in-Err.ensures)

pub returns-in-Ok-Some-length_of-clause-head : goal.returns-in-Ok-Some-length_of-clause-head
returns-in-Ok-Some-length_of-clause-head c = rw c.in-Array.is (head_same c.args.limits.now c.args.room _ _ _ (λ more. of_array c.args.limits.now (items_in c.args.limits.now c.args.room) c.args.text.now (c.args.rest.now ++ more) c.in-Ok-Some-length_of.len (rw c.in-Ok-Some-length_of.field-0-is at c.in-Ok-Some-length_of.ensures)) c.after_array_length.ensures.head)

pub returns-in-Ok-None-length_of-clause-head : goal.returns-in-Ok-None-length_of-clause-head
returns-in-Ok-None-length_of-clause-head c = rw c.in-Array.is (null_array, λ more. of_null_array c.args.limits.now (items_in c.args.limits.now c.args.room) c.args.text.now (c.args.rest.now ++ more) (rw c.in-Ok-None-length_of.field-0-is at c.in-Ok-None-length_of.ensures))

pub returns-in-Err-length_of-clause-head : goal.returns-in-Err-length_of-clause-head
returns-in-Err-length_of-clause-head c = rw c.in-Array.is (of_bad_array c.args.limits.now (items_in c.args.limits.now c.args.room) c.args.text.now (c.args.rest.now ++ []) c.in-Err-length_of.fault c.in-Err-length_of.ensures)
