use Rattle.session_order.proofs.queue.link.Goals as goal

pub overflow_sub-number : goal.overflow_sub-number
overflow_sub-number c = (c.requires c.in-Some.number c.in-Some.is).0
