use Rattle.turn_laws.proofs.HandedClients.{handed-once, taken-as-handed}
use Rattle.turn_laws.proofs.parts.clients_are_handed_once.Goals as goal

pub returns-clause-once : goal.returns-clause-once
returns-clause-once g c = handed-once

pub returns-clause-taken : goal.returns-clause-taken
returns-clause-taken g c = taken-as-handed g.row.C.Denot g.row.J.Denot
