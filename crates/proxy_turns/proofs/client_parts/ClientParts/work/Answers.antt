use Rattle.std.proofs.lemmas.Result.{err_from_is_err_and}
use Rattle.proxy_turns.specs.ClientTurn.{is_send, is_work}
use Rattle.proxy_turns.proofs.Going.{err_wider, goes_then, goes_wider, turns_err}
use Rattle.proxy_turns.proofs.EventKinds.{commands_sent}
use Rattle.proxy_turns.proofs.ClientResting.{sent_works, two_still}
use Rattle.proxy_turns.proofs.client_parts.ClientParts.work.Goals as goal

pub returns-in_err-sent-clause-works : goal.returns-in_err-sent-clause-works
returns-in_err-sent-clause-works g c =
    let is = (err_from_is_err_and c.from_residual.result c.from_residual.ensures.1).1 in
    err_wider g.C.ClientPort.moves is_work is_send commands_sent _ _ _ _ _ c.in_err-sent.ensures.sends is

pub returns-in_err-worked-clause-works : goal.returns-in_err-worked-clause-works
returns-in_err-worked-clause-works g c =
    let is = (err_from_is_err_and c.from_residual-in_err-worked.result c.from_residual-in_err-worked.ensures.1).1 in
    let one = goes_wider g.C.ClientPort.moves is_work is_send commands_sent _ _ _ c.in_ok-sent.ensures.sends in
    turns_err g.C.ClientPort.moves is_work _ _ _ _ _ _ _ one c.in_err-worked.ensures.works is

pub returns-clause-works : goal.returns-clause-works
returns-clause-works g c =
    let one = goes_wider g.C.ClientPort.moves is_work is_send commands_sent _ _ _ c.in_ok-sent.ensures.sends in
    goes_then g.C.ClientPort.moves is_work _ _ _ _ _ one c.in_ok-worked.ensures.works

pub returns-clause-none : goal.returns-clause-none
returns-clause-none g c =
    two_still c.in_ok-sent.sent c.in_ok-worked.worked c.in_ok-sent.ensures.none c.in_ok-worked.ensures.none (sent_works g.C.ClientPort.takes_none _ _ _ _ _)
