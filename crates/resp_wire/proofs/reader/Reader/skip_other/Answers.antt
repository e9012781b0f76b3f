use Rattle.std.proofs.Common.{Err, Ok, true, false}
use Rattle.resp_wire.proofs.SkipLaws.{skipped_whole, stays, none_stays, fault_stays}
use Rattle.resp_wire.proofs.reader.Reader.skip_other.Goals as goal

pub returns-in-Ok-false : goal.returns-in-Ok-false
returns-in-Ok-false c =
    stays c.self.inside.limits c.self.inside.unread c.as_slice.result.now c.self.inside.fault c.args.self.now c.self.view_is c.as_slice.ensures
    (none_stays c.self.inside.limits c.as_slice.result.now c.read_on.new.self.position (rw (c.in-Ok-false.is, c.in-Ok-false.field-0-test) at c.read_on.ensures.found))

pub returns-in-Err : goal.returns-in-Err
returns-in-Err c =
    stays c.self.inside.limits c.self.inside.unread c.as_slice.result.now c.self.inside.fault c.args.self.now c.self.view_is c.as_slice.ensures
    (fault_stays c.self.inside.limits c.as_slice.result.now c.read_on.new.self.position c.in-Err.field-0 c.in-Err.ensures.found)

pub returns-in_default-skipped_at : goal.returns-in_default-skipped_at
returns-in_default-skipped_at c =
    stays c.self.inside.limits c.self.inside.unread c.as_slice-2.result.now c.self.inside.fault c.args.self.now c.self.view_is c.as_slice-2.ensures c.in_default-skipped_at.ensures

pub returns : goal.returns
returns c =
    skipped_whole c.self.inside.limits c.self.inside.unread c.as_slice.result.now c.as_slice-2.result.now c.skip.new.self c.read_on.new.self.position c.self.inside.fault c.args.self.now c.in-Some-skipped_at.skipped
    c.self.view_is c.in_default.is c.as_slice.ensures c.as_slice-2.ensures (rw (c.in-Ok-true.is, c.in-Ok-true.field-0-test) at c.read_on.ensures.found) c.in-Some-skipped_at.ensures
    (rw c.end.ensures at c.skip.ensures)
