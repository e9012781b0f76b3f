use Rattle.resp_wire.proofs.SkipLaws.{behind_simple, behind_error, behind_integer, behind_array, behind_counted, behind_null, behind_no_length}
use Rattle.resp_wire.proofs.skip.behind_line.Goals as goal

pub returns-in-Simple : goal.returns-in-Simple
returns-in-Simple c = λ l items. rw c.in-Simple.is (behind_simple l items c.args.text.now c.args.rest.now)

pub returns-in-Error : goal.returns-in-Error
returns-in-Error c = λ l items. rw c.in-Error.is (behind_error l items c.args.text.now c.args.rest.now)

pub returns-in-Integer : goal.returns-in-Integer
returns-in-Integer c = λ l items. rw c.in-Integer.is (behind_integer l items c.args.text.now c.args.rest.now)

pub returns-in-Ok-Some : goal.returns-in-Ok-Some
returns-in-Ok-Some c = λ l items. rw c.in-Bulk.is (behind_counted l items c.args.text.now c.args.rest.now c.in-Ok-Some.len c.behind_body.result (rw c.in-Ok-Some.field-0-is at c.in-Ok-Some.ensures) (c.behind_body.ensures l))

pub returns-in-Ok-None : goal.returns-in-Ok-None
returns-in-Ok-None c = λ l items. rw c.in-Bulk.is (behind_null l items c.args.text.now c.args.rest.now (rw c.in-Ok-None.field-0-is at c.in-Ok-None.ensures))

pub returns-in-Err : goal.returns-in-Err
returns-in-Err c = λ l items. rw c.in-Bulk.is (behind_no_length l items c.args.text.now c.args.rest.now c.in-Err.field-0 c.in-Err.ensures)

pub returns-in-Array : goal.returns-in-Array
returns-in-Array c = λ l items. rw c.in-Array.is (behind_array l items c.args.text.now c.args.rest.now)
