use Rattle.std.proofs.Common.{[]}
use Rattle.resp_wire.specs.Gives.{byte_of}
use Rattle.resp_wire.specs.Reading.{items_in}
use Rattle.resp_wire.proofs.BuildLaws.{line_alone}
use Rattle.resp_wire.proofs.SkipLaws.{line_skipped}
use Rattle.resp_wire.proofs.skip.skipped_at.Goals as goal

pub returns-in-Ok-Some : goal.returns-in-Ok-Some
returns-in-Ok-Some c =
    let line = line_alone c.args.limits.now c.args.limits.now.depth (byte_of c.in-Ok-Some.kind) c.in-Ok-Some.text.now c.args.bytes.now c.in-Ok-Some.rest.now ((rw c.in-Ok-Some.field-0-is at c.in-Ok-Some.ensures.line) (items_in c.args.limits.now c.args.limits.now.depth) []) in
    line_skipped c.args.limits.now (byte_of c.in-Ok-Some.kind) c.in-Ok-Some.text.now c.args.bytes.now c.in-Ok-Some.rest.now c.skipped_after.result line c.skipped_after.ensures
