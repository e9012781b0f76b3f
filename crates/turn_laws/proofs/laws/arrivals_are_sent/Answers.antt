use Rattle.turn_laws.proofs.ArrivalsSent.{arrivals-are-sent, shared-arrivals-are-sent}
use Rattle.turn_laws.proofs.laws.arrivals_are_sent.Goals as goal

pub returns-clause-alone : goal.returns-clause-alone
returns-clause-alone g c =
    arrivals-are-sent g.row.C.Denot g.row.J.Denot c.drains_output.ensures c.front_is_whole.ensures c.front_is_faulty.ensures c.parts_of_plans_are_plain.ensures

pub returns-clause-beside_others : goal.returns-clause-beside_others
returns-clause-beside_others g c =
    shared-arrivals-are-sent g.row.C.Denot g.row.J.Denot c.drains_output.ensures c.front_is_whole.ensures c.front_is_faulty.ensures c.parts_of_plans_are_plain.ensures
