use Rattle.resp_wire.proofs.Integers.{integer_none, integer_some}
use Rattle.resp_wire.proofs.number.integer_in.Goals as goal

pub returns-in-Some : goal.returns-in-Some
returns-in-Some c = integer_some c.args.text.now c.sign_of-minus.result.1.now c.sign_of-minus.result.0 c.in-Some.magnitude c.signed.result c.sign_of-minus.ensures.minus c.sign_of-minus.ensures.digits c.in-Some.ensures.value c.signed.ensures

pub returns-in-None : goal.returns-in-None
returns-in-None c = integer_none c.args.text.now c.sign_of-minus.result.1.now c.sign_of-minus.ensures.digits c.in-None.ensures.value
