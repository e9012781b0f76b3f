use Rattle.session_order.proofs.queue.Queue.is_next.Goals as goal

pub is_first-requires-clause-out : goal.is_first-requires-clause-out
is_first-requires-clause-out c = rw (← c.self.view_is) at (c.is_out.ensures.0 c.if-is_out.true)

pub returns-then-is_out : goal.returns-then-is_out
returns-then-is_out c = rw (← c.self.view_is) c.is_first.ensures
