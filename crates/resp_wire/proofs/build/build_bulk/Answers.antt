use Rattle.resp_wire.proofs.BodyLaws.{body_there, bulk_there}
use Rattle.resp_wire.proofs.build.build_bulk.Goals as goal

pub body-requires-clause-within : goal.body-requires-clause-within
body-requires-clause-within c = (body_there c.args.len c.args.rest.now _ c.in-Ok-Some.after.now (rw c.in-Ok-Some.field-0-is at c.in-Ok-Some.ensures)).0

pub returns-in-Ok : goal.returns-in-Ok
returns-in-Ok c =
    bulk_there c.args.how.now.limits c.args.len c.bulk.result c.args.rest.now _ c.in-Ok-Some.after.now c.in-Ok.bytes c.bulk.ensures.value c.if-len-bulk.false (rw c.in-Ok-Some.field-0-is at c.in-Ok-Some.ensures) c.in-Ok.ensures
