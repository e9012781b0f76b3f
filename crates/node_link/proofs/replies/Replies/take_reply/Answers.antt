use Rattle.std.proofs.Common.{refl}
use Rattle.node_link.specs.Bytes.{input_of}
use Rattle.node_link.specs.contracts.replies.Replies.{the_view}
use Rattle.node_link.proofs.Replying.{no_reply, one_reply, reply_fault}
use Rattle.node_link.proofs.replies.Replies.take_reply.Goals as goal

pub returns-in-Ok-Some-clause-taken : goal.returns-in-Ok-Some-clause-taken
returns-in-Ok-Some-clause-taken c =
    rw (← c.self.view_is)
    (one_reply (input_of c.args.inbox.now) (input_of c.take.new.self) (the_view c.self.inside) (the_view (record c.self.inside { awaited = c.pop_front.new.self })) c.in-Ok-Some.value
    (rw (← c.self.view_is) at c.requires.told) (rw (← c.self.view_is) at c.requires.first) c.self.invariant (rw c.in-Ok-Some.field-0-is at c.in-Ok-Some.ensures.taken)
    c.pop_front.ensures.rest refl refl)

pub returns-in-Ok-None-clause-taken : goal.returns-in-Ok-None-clause-taken
returns-in-Ok-None-clause-taken c =
    no_reply (input_of c.args.inbox.now) (input_of c.take.new.self) c.args.self.now c.requires.told c.requires.first (rw c.in-Ok-None.field-0-is at c.in-Ok-None.ensures.taken)

pub returns-in-Err-clause-taken : goal.returns-in-Err-clause-taken
returns-in-Err-clause-taken c = reply_fault (input_of c.args.inbox.now) (input_of c.take.new.self) c.args.self.now c.in-Err.fault c.in-Err.ensures.taken
