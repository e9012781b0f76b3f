use Rattle.turn_laws.proofs.LogsOfSystems.{headline-of-shared-logs, shared-ends-are-sound, shared-logs-are-held}
use Rattle.turn_laws.proofs.Sharing.{shared-refines}
use Rattle.turn_laws.proofs.laws.headline_beside_others.Goals as goal

pub returns-clause-refines : goal.returns-clause-refines
returns-clause-refines g c = shared-refines g.row.C.Denot g.row.J.Denot c.parts_of_plans_are_plain.ensures

pub returns-clause-headline : goal.returns-clause-headline
returns-clause-headline g c = headline-of-shared-logs g.row.C.Denot g.row.J.Denot c.parts_of_plans_are_plain.ensures

pub returns-clause-held : goal.returns-clause-held
returns-clause-held g c = shared-logs-are-held g.row.C.Denot g.row.J.Denot c.parts_of_plans_are_plain.ensures

pub returns-clause-ends : goal.returns-clause-ends
returns-clause-ends g c = shared-ends-are-sound g.row.C.Denot g.row.J.Denot c.parts_of_plans_are_plain.ensures
