use Rattle.resp_wire.specs.Reading.{items_in}
use Rattle.resp_wire.proofs.HeadLaws.{head_same, head_none, further}
use Rattle.resp_wire.proofs.head.head_at.Goals as goal

pub returns-in-Ok-Some-clause-head : goal.returns-in-Ok-Some-clause-head
returns-in-Ok-Some-clause-head c = head_same c.args.limits.now c.args.room c.after_line.result _ _ (λ more. (rw c.in-Ok-Some.field-0-is at c.in-Ok-Some.ensures.line) (items_in c.args.limits.now c.args.room) more) c.after_line.ensures.head

pub returns-in-Ok-None-clause-head : goal.returns-in-Ok-None-clause-head
returns-in-Ok-None-clause-head c = head_none c.args.limits.now c.args.room c.args.bytes.now _ ((rw c.in-Ok-None.field-0-is at c.in-Ok-None.ensures.line) (items_in c.args.limits.now c.args.room))

pub returns-in-Err-clause-head : goal.returns-in-Err-clause-head
returns-in-Err-clause-head c = head_none c.args.limits.now c.args.room c.args.bytes.now _ (c.in-Err.ensures.line (items_in c.args.limits.now c.args.room))

pub returns-in-Ok-Some-clause-further : goal.returns-in-Ok-Some-clause-further
returns-in-Ok-Some-clause-further c = further c.args.bytes.now c.in-Ok-Some.rest.now c.after_line.result (rw c.in-Ok-Some.field-0-is at c.in-Ok-Some.ensures.behind) c.after_line.ensures.behind
