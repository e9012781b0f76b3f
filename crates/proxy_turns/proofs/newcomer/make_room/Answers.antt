use Rattle.std.proofs.Common.{ap}
use Rattle.proxy_turns.specs.WorkerModel.{clients_in}
use Rattle.proxy_turns.proofs.newcomer.make_room.Goals as goal

pub returns-clause-clients : goal.returns-clause-clients
returns-clause-clients g c = ap clients_in c.make_room.ensures.entries
