use Rattle.std.proofs.Common.{ap}
use Rattle.std.proofs.lemmas.Result.{err_from_is_err_and}
use Rattle.std.specs.BinaryHeap.{heap_items}
use Rattle.proxy_turns.specs.WorkerModel.{admits, serves_client, settles, takes_told}
use Rattle.proxy_turns.specs.WorkerState.{state_model}
use Rattle.proxy_turns.proofs.EventKinds.{every_one, in_workers_turn}
use Rattle.proxy_turns.proofs.Lifting.{all_err_wider, all_then, err_wider, goes_of, goes_wider, turns_of}
use Rattle.proxy_turns.proofs.WorkerResting.{no_newcomer, nothing_to_tell, serving_keeps, settling_keeps, told_keeps}
use Rattle.proxy_turns.proofs.ClientResting.{last_still}
use Rattle.proxy_turns.proofs.Rounds.{full_on}
use Rattle.proxy_turns.proofs.Settling.{posted_rest, served_new}
use Rattle.proxy_turns.proofs.Waiting.{later_after}
use Rattle.proxy_turns.proofs.worker_state.WorkerState.turn.Goals as goal

pub returns-in_err-came-clause-turns : goal.returns-in_err-came-clause-turns
returns-in_err-came-clause-turns g c =
    let is = (err_from_is_err_and c.from_residual.result c.from_residual.ensures.1).1 in
    turns_of g.C.ClientPort.moves every_one _ _ _ (err_wider g.C.ClientPort.moves every_one admits (in_workers_turn admits) _ _ _ _ _ c.in_err-came.ensures.admits is)

pub returns-in_err-told-clause-turns : goal.returns-in_err-told-clause-turns
returns-in_err-told-clause-turns g c =
    let is = (err_from_is_err_and c.from_residual-in_err-told.result c.from_residual-in_err-told.ensures.1).1 in
    let one = goes_wider g.C.ClientPort.moves every_one admits (in_workers_turn admits) _ _ _ c.in_ok-came.ensures.admits in
    turns_of g.C.ClientPort.moves every_one _ _ _ (all_err_wider g.C.ClientPort.moves every_one takes_told (in_workers_turn takes_told) _ _ _ _ _ _ _ one c.in_err-told.ensures.takes is)

pub returns-in_err-settled-clause-turns : goal.returns-in_err-settled-clause-turns
returns-in_err-settled-clause-turns g c =
    let is = (err_from_is_err_and c.from_residual-in_err-settled.result c.from_residual-in_err-settled.ensures.1).1 in
    let one = goes_wider g.C.ClientPort.moves every_one admits (in_workers_turn admits) _ _ _ c.in_ok-came.ensures.admits in
    let two = all_then g.C.ClientPort.moves every_one _ _ _ _ _ one (goes_wider g.C.ClientPort.moves every_one takes_told (in_workers_turn takes_told) _ _ _ c.in_ok-told.ensures.takes) in
    turns_of g.C.ClientPort.moves every_one _ _ _ (all_err_wider g.C.ClientPort.moves every_one settles (in_workers_turn settles) _ _ _ _ _ _ _ two c.in_err-settled.ensures.settles is)

pub returns-in_err-served-clause-turns : goal.returns-in_err-served-clause-turns
returns-in_err-served-clause-turns g c =
    let is = (err_from_is_err_and c.from_residual-in_err-served.result c.from_residual-in_err-served.ensures.1).1 in
    let one = goes_wider g.C.ClientPort.moves every_one admits (in_workers_turn admits) _ _ _ c.in_ok-came.ensures.admits in
    let two = all_then g.C.ClientPort.moves every_one _ _ _ _ _ one (goes_wider g.C.ClientPort.moves every_one takes_told (in_workers_turn takes_told) _ _ _ c.in_ok-told.ensures.takes) in
    let three = all_then g.C.ClientPort.moves every_one _ _ _ _ _ two (goes_wider g.C.ClientPort.moves every_one settles (in_workers_turn settles) _ _ _ c.in_ok-settled.ensures.settles) in
    turns_of g.C.ClientPort.moves every_one _ _ _ (all_err_wider g.C.ClientPort.moves every_one serves_client (in_workers_turn serves_client) _ _ _ _ _ _ _ three c.in_err-served.ensures.serves is)

pub returns-clause-turns : goal.returns-clause-turns
returns-clause-turns g c =
    let one = goes_wider g.C.ClientPort.moves every_one admits (in_workers_turn admits) _ _ _ c.in_ok-came.ensures.admits in
    let two = all_then g.C.ClientPort.moves every_one _ _ _ _ _ one (goes_wider g.C.ClientPort.moves every_one takes_told (in_workers_turn takes_told) _ _ _ c.in_ok-told.ensures.takes) in
    let three = all_then g.C.ClientPort.moves every_one _ _ _ _ _ two (goes_wider g.C.ClientPort.moves every_one settles (in_workers_turn settles) _ _ _ c.in_ok-settled.ensures.settles) in
    let four = all_then g.C.ClientPort.moves every_one _ _ _ _ _ three (goes_wider g.C.ClientPort.moves every_one serves_client (in_workers_turn serves_client) _ _ _ c.in_ok-served.ensures.serves) in
    goes_of g.C.ClientPort.moves every_one _ _ _ four

pub returns-clause-no_newcomer : goal.returns-clause-no_newcomer
returns-clause-no_newcomer g c =
    let one = state_model c.admit_all.new.self in
    let two = state_model c.take_told.new.self in
    let three = state_model c.settle_due.new.self in
    let four = state_model c.serve_clients.new.self in
    no_newcomer c.in_ok-came.came c.in_ok-told.told c.in_ok-settled.settled c.in_ok-served.served one two three four c.in_ok-came.ensures.none
    (told_keeps g.C.ClientPort.moves c.in_ok-told.told one two c.in_ok-told.ensures.takes)
    (settling_keeps g.C.ClientPort.moves c.in_ok-settled.settled two three c.in_ok-settled.ensures.settles) (serving_keeps g.C.ClientPort.moves c.in_ok-served.served three four c.in_ok-served.ensures.serves)

pub returns-clause-nothing_to_tell : goal.returns-clause-nothing_to_tell
returns-clause-nothing_to_tell g c =
    let two = state_model c.take_told.new.self in
    let three = state_model c.settle_due.new.self in
    let four = state_model c.serve_clients.new.self in
    nothing_to_tell c.in_ok-came.came c.in_ok-told.told c.in_ok-settled.settled c.in_ok-served.served two three four c.in_ok-told.ensures.none
    (settling_keeps g.C.ClientPort.moves c.in_ok-settled.settled two three c.in_ok-settled.ensures.settles) (serving_keeps g.C.ClientPort.moves c.in_ok-served.served three four c.in_ok-served.ensures.serves)

pub returns-clause-clients_rest : goal.returns-clause-clients_rest
returns-clause-clients_rest g c = last_still _ _ c.in_ok-served.served c.in_ok-served.ensures.rest

pub returns-clause-posted_rest : goal.returns-clause-posted_rest
returns-clause-posted_rest g c =
    let three = state_model c.settle_due.new.self in
    let four = state_model c.serve_clients.new.self in
    let served = c.in_ok-served.ensures.serves in
    posted_rest c.in_ok-came.came c.in_ok-told.told c.in_ok-settled.settled c.in_ok-served.served three four c.in_ok-settled.ensures.rest
    (served_new g.C.ClientPort.moves c.in_ok-served.served three four served) (λ none. full_on g.C.ClientPort.moves c.in_ok-served.served three four none served)

pub returns-clause-pauses : goal.returns-clause-pauses
returns-clause-pauses g c =
    later_after (g.G.Gate.tells c.args.gate.now) c.in_ok-came.came c.in_ok-told.told c.in_ok-settled.settled c.in_ok-served.served (heap_items c.settle_due.new.self.due.paused) (heap_items c.serve_clients.new.self.due.paused)
    c.in_ok-settled.ensures.pauses (ap (λ d. heap_items d.paused) c.in_ok-served.ensures.due)
