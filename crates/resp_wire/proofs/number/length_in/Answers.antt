use Rattle.std.proofs.Common.{arith}
use Rattle.resp_wire.proofs.Digits.{length_in_is}
use Rattle.resp_wire.proofs.number.length_in.Goals as goal

pub overflow_cast-result : goal.overflow_cast-result
overflow_cast-result c = omega (arith, c.in-Some.ensures.small)

pub returns-in-Some : goal.returns-in-Some
returns-in-Some c = length_in_is c.args.text.now _ c.in-Some.ensures.value

pub returns-in-None : goal.returns-in-None
returns-in-None c = length_in_is c.args.text.now _ c.in-None.ensures.value
