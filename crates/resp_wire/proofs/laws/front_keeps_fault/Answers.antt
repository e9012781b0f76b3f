use Rattle.resp_wire.proofs.KeepLaws.{front_keeps_fault}
use Rattle.resp_wire.proofs.laws.front_keeps_fault.Goals as goal

pub returns : goal.returns
returns c = front_keeps_fault
