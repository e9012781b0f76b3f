use Rattle.std.proofs.lemmas.Result.{err_from_is_err_and}
use Rattle.proxy_turns.specs.ClientTurn.{is_feed, is_read, is_send, is_work, is_write}
use Rattle.proxy_turns.proofs.Going.{err_wider, goes_then, goes_wider, turns_err_wider}
use Rattle.proxy_turns.proofs.EventKinds.{commands_sent, replies_written, requests_read, session_fed}
use Rattle.proxy_turns.proofs.ClientResting.{four_still, works_none}
use Rattle.proxy_turns.proofs.client_parts.ClientParts.take_in.Goals as goal

pub returns-in_err-fed-clause-works : goal.returns-in_err-fed-clause-works
returns-in_err-fed-clause-works g c =
    let is = (err_from_is_err_and c.from_residual.result c.from_residual.ensures.1).1 in
    err_wider g.C.ClientPort.moves is_work is_feed session_fed _ _ _ _ _ (c.in_err-fed.ensures.feeds _ _) is

pub returns-in_err-read-clause-works : goal.returns-in_err-read-clause-works
returns-in_err-read-clause-works g c =
    let is = (err_from_is_err_and c.from_residual-in_err-read.result c.from_residual-in_err-read.ensures.1).1 in
    let one = goes_wider g.C.ClientPort.moves is_work is_feed session_fed _ _ _ (c.in_ok-fed.ensures.feeds _ _) in
    turns_err_wider g.C.ClientPort.moves is_work is_read requests_read _ _ _ _ _ _ _ one (c.in_err-read.ensures.reads _ _) is

pub returns-in_err-sent-clause-works : goal.returns-in_err-sent-clause-works
returns-in_err-sent-clause-works g c =
    let is = (err_from_is_err_and c.from_residual-in_err-sent.result c.from_residual-in_err-sent.ensures.1).1 in
    let one = goes_wider g.C.ClientPort.moves is_work is_feed session_fed _ _ _ (c.in_ok-fed.ensures.feeds _ _) in
    let two = goes_then g.C.ClientPort.moves is_work _ _ _ _ _ one (goes_wider g.C.ClientPort.moves is_work is_read requests_read _ _ _ (c.in_ok-read.ensures.reads _ _)) in
    turns_err_wider g.C.ClientPort.moves is_work is_send commands_sent _ _ _ _ _ _ _ two (rw c.give_room.ensures at c.in_err-sent.ensures.sends) is

pub returns-in_err-written-clause-works : goal.returns-in_err-written-clause-works
returns-in_err-written-clause-works g c =
    let is = (err_from_is_err_and c.from_residual-in_err-written.result c.from_residual-in_err-written.ensures.1).1 in
    let one = goes_wider g.C.ClientPort.moves is_work is_feed session_fed _ _ _ (c.in_ok-fed.ensures.feeds _ _) in
    let two = goes_then g.C.ClientPort.moves is_work _ _ _ _ _ one (goes_wider g.C.ClientPort.moves is_work is_read requests_read _ _ _ (c.in_ok-read.ensures.reads _ _)) in
    let three = goes_then g.C.ClientPort.moves is_work _ _ _ _ _ two (goes_wider g.C.ClientPort.moves is_work is_send commands_sent _ _ _ (rw c.give_room.ensures at c.in_ok-sent.ensures.sends)) in
    turns_err_wider g.C.ClientPort.moves is_work is_write replies_written _ _ _ _ _ _ _ three (c.in_err-written.ensures.writes _ _) is

pub returns-clause-works : goal.returns-clause-works
returns-clause-works g c =
    let one = goes_wider g.C.ClientPort.moves is_work is_feed session_fed _ _ _ (c.in_ok-fed.ensures.feeds _ _) in
    let two = goes_then g.C.ClientPort.moves is_work _ _ _ _ _ one (goes_wider g.C.ClientPort.moves is_work is_read requests_read _ _ _ (c.in_ok-read.ensures.reads _ _)) in
    let three = goes_then g.C.ClientPort.moves is_work _ _ _ _ _ two (goes_wider g.C.ClientPort.moves is_work is_send commands_sent _ _ _ (rw c.give_room.ensures at c.in_ok-sent.ensures.sends)) in
    goes_then g.C.ClientPort.moves is_work _ _ _ _ _ three (goes_wider g.C.ClientPort.moves is_work is_write replies_written _ _ _ (c.in_ok-written.ensures.writes _ _))

pub returns-clause-none : goal.returns-clause-none
returns-clause-none g c =
    four_still c.in_ok-fed.fed c.in_ok-read.read c.in_ok-sent.sent c.in_ok-written.written c.in_ok-fed.ensures.none c.in_ok-read.ensures.none (rw c.give_room.ensures at c.in_ok-sent.ensures.none) c.in_ok-written.ensures.none
    (works_none g.C.ClientPort.takes_none _ _ _ _ _ _)
