use Rattle.turn_laws.proofs.LogsOfSystems.{headline-of-logs, logs-are-held}
use Rattle.turn_laws.proofs.laws.headline_of_logs.Goals as goal

pub returns-clause-headline : goal.returns-clause-headline
returns-clause-headline g c = headline-of-logs g.row.C.Denot g.row.J.Denot c.parts_of_plans_are_plain.ensures

pub returns-clause-held : goal.returns-clause-held
returns-clause-held g c = logs-are-held g.row.C.Denot g.row.J.Denot c.parts_of_plans_are_plain.ensures
