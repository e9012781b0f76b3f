use Rattle.resp_wire.proofs.CallLaws.{spelled_in_order}
use Rattle.resp_wire.proofs.laws.spelled_in_order.Goals as goal

pub returns : goal.returns
returns c = spelled_in_order
