use Rattle.shared_laws.proofs.OthersAreRead.{others_are_read}
use Rattle.shared_laws.proofs.laws.others_are_read.Goals as goal

pub returns : goal.returns
returns c = others_are_read
