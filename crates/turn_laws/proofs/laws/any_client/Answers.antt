use Rattle.turn_laws.proofs.AnyClients.{any-clients, any-client-turns}
use Rattle.turn_laws.proofs.laws.any_client.Goals as goal

pub returns-clause-events : goal.returns-clause-events
returns-clause-events g c = any-clients g.row.C.Denot g.row.J.Denot g.C.ClientPort.moves

pub returns-clause-turns : goal.returns-clause-turns
returns-clause-turns g c = any-client-turns g.row.C.Denot g.row.J.Denot g.C.ClientPort.moves
