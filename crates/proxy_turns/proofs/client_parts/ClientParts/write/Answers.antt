use Rattle.std.proofs.lemmas.Result.{err_from_is_err_and}
use Rattle.proxy_turns.specs.ClientTurn.{is_drain, is_push, is_write}
use Rattle.proxy_turns.proofs.Going.{err_wider, goes_then, goes_wider, turns_err_wider}
use Rattle.proxy_turns.proofs.EventKinds.{bytes_pushed, session_drained}
use Rattle.proxy_turns.proofs.ClientResting.{two_still, writes_none}
use Rattle.proxy_turns.proofs.client_parts.ClientParts.write.Goals as goal

pub returns-in_err-drained-clause-writes : goal.returns-in_err-drained-clause-writes
returns-in_err-drained-clause-writes g c = λ outlet view.
    let is = (err_from_is_err_and c.from_residual.result c.from_residual.ensures.1).1 in
    err_wider g.C.ClientPort.moves is_write is_drain session_drained _ _ _ _ _ (c.in_err-drained.ensures.drains outlet view) is

pub returns-in_err-pushed-clause-writes : goal.returns-in_err-pushed-clause-writes
returns-in_err-pushed-clause-writes g c = λ outlet view.
    let is = (err_from_is_err_and c.from_residual-in_err-pushed.result c.from_residual-in_err-pushed.ensures.1).1 in
    let one = goes_wider g.C.ClientPort.moves is_write is_drain session_drained _ _ _ (c.in_ok-drained.ensures.drains outlet view) in
    turns_err_wider g.C.ClientPort.moves is_write is_push bytes_pushed _ _ _ _ _ _ _ one (c.in_err-pushed.ensures.pushes outlet view) is

pub returns-clause-writes : goal.returns-clause-writes
returns-clause-writes g c = λ outlet view.
    let one = goes_wider g.C.ClientPort.moves is_write is_drain session_drained _ _ _ (c.in_ok-drained.ensures.drains outlet view) in
    goes_then g.C.ClientPort.moves is_write _ _ _ _ _ one (goes_wider g.C.ClientPort.moves is_write is_push bytes_pushed _ _ _ (c.in_ok-pushed.ensures.pushes outlet view))

pub returns-clause-none : goal.returns-clause-none
returns-clause-none g c =
    two_still c.in_ok-drained.drained c.in_ok-pushed.pushed c.in_ok-drained.ensures.none c.in_ok-pushed.ensures.none (writes_none g.C.ClientPort.takes_none _ _ _)
