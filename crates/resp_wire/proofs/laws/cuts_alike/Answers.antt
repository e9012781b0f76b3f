use Rattle.resp_wire.proofs.CallLaws.{cuts_alike}
use Rattle.resp_wire.proofs.laws.cuts_alike.Goals as goal

pub returns : goal.returns
returns c = cuts_alike
