use Rattle.std.proofs.Common.{arith}
use Rattle.resp_wire.proofs.HeadLaws.{array_goes_on}
use Rattle.resp_wire.proofs.head.after_array_length.Goals as goal

pub returns-clause-head : goal.returns-clause-head
returns-clause-head c = array_goes_on c.args.limits.now c.args.room c.args.len c.args.rest.now c.if-room-eq0.false (omega (arith, c.items.ensures.value))
