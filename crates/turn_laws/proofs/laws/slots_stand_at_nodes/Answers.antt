use Rattle.turn_laws.proofs.SlotsStand.{new-slots-stand, slots-stay}
use Rattle.turn_laws.proofs.laws.slots_stand_at_nodes.Goals as goal

pub returns-clause-opened : goal.returns-clause-opened
returns-clause-opened g c = new-slots-stand

pub returns-clause-stay : goal.returns-clause-stay
returns-clause-stay g c = slots-stay g.row.C.Denot g.row.J.Denot
