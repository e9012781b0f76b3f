use Rattle.std.proofs.Common.{arith}
use Rattle.session_order.proofs.Fronting.{front_all, front_least}
use Rattle.session_order.proofs.queue.Queue.are_done.Goals as goal

pub overflow_sub-result : goal.overflow_sub-result
overflow_sub-result c =
    let known = rw (← c.self.view_is) at c.requires.known in
    let fits = rw (← c.self.view_is) at c.requires.fits in
    omega (arith, c.self.invariant.2, front_least c.self.inside.tables.stages.items c.args.from (omega (arith, fits)) known)

pub returns : goal.returns
returns c =
    let known = rw (← c.self.view_is) at c.requires.known in
    let fits = rw (← c.self.view_is) at c.requires.fits in
    rw (← c.self.view_is, c.self.invariant.2) (front_all c.self.inside.tables.stages.items c.args.from c.args.count known fits)
