use Rattle.node_link.specs.Bytes.{input_of}
use Rattle.node_link.proofs.Replying.{told_failed, told_next}
use Rattle.node_link.proofs.replies.Replies.take.Goals as goal

pub returns-in-Ok-Some-clause-taken : goal.returns-in-Ok-Some-clause-taken
returns-in-Ok-Some-clause-taken c =
    told_next (input_of c.args.inbox.now) c.args.self.now c.next_told.new.self c.in-Ok-Some.value (rw c.in-Ok-Some.field-0-is at c.in-Ok-Some.ensures)

pub returns-in-Err-clause-taken : goal.returns-in-Err-clause-taken
returns-in-Err-clause-taken c = told_failed (input_of c.args.inbox.now) c.args.self.now c.next_told.new.self c.in-Err.fault c.in-Err.ensures
