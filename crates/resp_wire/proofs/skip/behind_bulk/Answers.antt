use Rattle.std.proofs.Common.{[]}
use Rattle.resp_wire.specs.Gives.{byte_of}
use Rattle.resp_wire.specs.Reading.{items_in}
use Rattle.resp_wire.proofs.BuildLaws.{line_alone}
use Rattle.resp_wire.proofs.SkipLaws.{line_behind}
use Rattle.resp_wire.proofs.skip.behind_bulk.Goals as goal

pub returns-in-Ok-Some : goal.returns-in-Ok-Some
returns-in-Ok-Some c = λ room.
    let line = line_alone c.args.limits.now room (byte_of c.in-Ok-Some.kind) c.in-Ok-Some.text.now c.args.bytes.now c.in-Ok-Some.rest.now ((rw c.in-Ok-Some.field-0-is at c.in-Ok-Some.ensures.line) (items_in c.args.limits.now room) []) in
    line_behind c.args.limits.now room (byte_of c.in-Ok-Some.kind) c.in-Ok-Some.text.now c.args.bytes.now c.in-Ok-Some.rest.now c.behind_line.result line (c.behind_line.ensures c.args.limits.now (items_in c.args.limits.now room))
