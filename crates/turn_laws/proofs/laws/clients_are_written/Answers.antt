use Rattle.turn_laws.proofs.WrittenClients.{clients-are-written, all-clients-are-written}
use Rattle.turn_laws.proofs.laws.clients_are_written.Goals as goal

pub returns-clause-of_worker : goal.returns-clause-of_worker
returns-clause-of_worker g c = clients-are-written g.row.C.Denot g.row.J.Denot c.drains_output.ensures c.front_is_whole.ensures c.front_is_faulty.ensures

pub returns-clause-of_system : goal.returns-clause-of_system
returns-clause-of_system g c = all-clients-are-written g.row.C.Denot g.row.J.Denot c.drains_output.ensures c.front_is_whole.ensures c.front_is_faulty.ensures
