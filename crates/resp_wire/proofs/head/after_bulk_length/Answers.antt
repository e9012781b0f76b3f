use Rattle.std.proofs.Common.{arith}
use Rattle.resp_wire.proofs.HeadLaws.{bulk_there, bulk_not_yet, bulk_faulty, body_behind}
use Rattle.resp_wire.proofs.head.after_bulk_length.Goals as goal

pub returns-in-Ok-Some-clause-head : goal.returns-in-Ok-Some-clause-head
returns-in-Ok-Some-clause-head c = λ room. bulk_there c.args.limits.now c.args.len c.bulk.result c.args.rest.now _ _ c.bulk.ensures.value (omega arith) (rw c.in-Ok-Some.field-0-is at c.in-Ok-Some.ensures)

pub returns-in-Ok-None-clause-head : goal.returns-in-Ok-None-clause-head
returns-in-Ok-None-clause-head c = λ room. bulk_not_yet c.args.limits.now c.args.len c.bulk.result c.args.rest.now c.bulk.ensures.value (omega arith) (rw c.in-Ok-None.field-0-is at c.in-Ok-None.ensures)

pub returns-in-Err-clause-head : goal.returns-in-Err-clause-head
returns-in-Err-clause-head c = λ room. bulk_faulty c.args.limits.now c.args.len c.bulk.result c.args.rest.now c.in-Err.fault c.bulk.ensures.value (omega arith) c.in-Err.ensures

pub returns-in-Ok-Some-clause-behind : goal.returns-in-Ok-Some-clause-behind
returns-in-Ok-Some-clause-behind c = body_behind c.args.len c.args.rest.now _ _ (rw c.in-Ok-Some.field-0-is at c.in-Ok-Some.ensures)
