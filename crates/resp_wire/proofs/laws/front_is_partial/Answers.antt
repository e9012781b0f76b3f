use Rattle.resp_wire.proofs.FrontLaws.{front_is_partial}
use Rattle.resp_wire.proofs.laws.front_is_partial.Goals as goal

pub returns : goal.returns
returns c = front_is_partial
