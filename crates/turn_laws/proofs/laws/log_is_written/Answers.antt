use Rattle.turn_laws.proofs.AnswersTold.{answers-were-told, shared-answers-were-told}
use Rattle.turn_laws.proofs.LoggedFronts.{log-is-written, shared-log-is-written}
use Rattle.turn_laws.proofs.laws.log_is_written.Goals as goal

pub returns-clause-written : goal.returns-clause-written
returns-clause-written g c =
    log-is-written g.row.C.Denot g.row.J.Denot c.drains_output.ensures c.front_is_whole.ensures c.front_is_faulty.ensures c.parts_of_plans_are_plain.ensures

pub returns-clause-told : goal.returns-clause-told
returns-clause-told g c =
    answers-were-told g.row.C.Denot g.row.J.Denot c.drains_output.ensures c.front_is_whole.ensures c.front_is_faulty.ensures c.parts_of_plans_are_plain.ensures

pub returns-clause-written_beside_others : goal.returns-clause-written_beside_others
returns-clause-written_beside_others g c =
    shared-log-is-written g.row.C.Denot g.row.J.Denot c.drains_output.ensures c.front_is_whole.ensures c.front_is_faulty.ensures c.parts_of_plans_are_plain.ensures

pub returns-clause-told_beside_others : goal.returns-clause-told_beside_others
returns-clause-told_beside_others g c =
    shared-answers-were-told g.row.C.Denot g.row.J.Denot c.drains_output.ensures c.front_is_whole.ensures c.front_is_faulty.ensures c.parts_of_plans_are_plain.ensures
