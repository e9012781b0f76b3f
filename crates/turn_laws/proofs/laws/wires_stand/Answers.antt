use Rattle.turn_laws.proofs.WiresStand.{wires-stand}
use Rattle.turn_laws.proofs.laws.wires_stand.Goals as goal

pub returns : goal.returns
returns c = wires-stand
