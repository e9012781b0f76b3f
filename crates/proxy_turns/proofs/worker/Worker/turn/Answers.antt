use Rattle.proxy_turns.specs.WorkerState.{state_model}
use Rattle.proxy_turns.proofs.WorkerResting.{at_rest}
use Rattle.proxy_turns.proofs.worker.Worker.turn.Goals as goal

pub returns-clause-rests : goal.returns-clause-rests
returns-clause-rests g c =
    let ports = g.C.ClientPort in
    let turned = c.turn.ensures in
    at_rest ports.gives_none ports.takes_none c.turn.result (state_model c.turn.new.self) turned.no_newcomer turned.nothing_to_tell turned.clients_rest turned.posted_rest
