use Rattle.resp_wire.specs.Same.{tells}
use Rattle.resp_wire.proofs.laws.same_values.Goals as goal

pub returns : goal.returns
returns c = tells
