use Rattle.turn_laws.proofs.Fleet.{every-fleet, fleet-follows, fleets-stand}
use Rattle.turn_laws.proofs.laws.headline_of_fleets.Goals as goal

pub returns-clause-headline : goal.returns-clause-headline
returns-clause-headline g c = every-fleet g.row.C.Denot g.row.J.Denot c.parts_of_plans_are_plain.ensures

pub returns-clause-follows : goal.returns-clause-follows
returns-clause-follows g c = fleet-follows g.row.C.Denot g.row.J.Denot

pub returns-clause-stands : goal.returns-clause-stands
returns-clause-stands g c = fleets-stand g.row.C.Denot g.row.J.Denot c.parts_of_plans_are_plain.ensures
