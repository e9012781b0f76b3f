use Rattle.resp_wire.proofs.Lines.{body_short, body_by_end}
use Rattle.resp_wire.proofs.head.body_at.Goals as goal

pub returns-then-bytes-len : goal.returns-then-bytes-len
returns-then-bytes-len c = body_short c.args.len c.args.bytes.now c.if-bytes-len.true

pub returns-in-Ok-Some : goal.returns-in-Ok-Some
returns-in-Ok-Some c = body_by_end c.args.len c.args.bytes.now _ _ _ c.split_at.ensures.front c.split_at.ensures.back (rw c.in-Ok-Some.field-0-is at c.in-Ok-Some.ensures)

pub returns-in-Ok-None : goal.returns-in-Ok-None
returns-in-Ok-None c = body_by_end c.args.len c.args.bytes.now _ _ _ c.split_at.ensures.front c.split_at.ensures.back (rw c.in-Ok-None.field-0-is at c.in-Ok-None.ensures)

pub returns-in-Err : goal.returns-in-Err
returns-in-Err c = body_by_end c.args.len c.args.bytes.now _ _ _ c.split_at.ensures.front c.split_at.ensures.back c.in-Err.ensures
