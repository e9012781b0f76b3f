use Rattle.std.proofs.Common.{◌∙◌}
use Rattle.std.proofs.lemmas.Result.{err_from_is_err_and}
use Rattle.proxy_turns.specs.WorkerModel.{removes_client, serves_client, turns_client}
use Rattle.proxy_turns.proofs.EventKinds.{client_removed, client_turned}
use Rattle.proxy_turns.proofs.Lifting.{all_then, err_wider, goes_wider}
use Rattle.proxy_turns.proofs.ClientResting.{done_by, last_moved, undone_by}
use Rattle.proxy_turns.proofs.Rounds.{still_of}
use Rattle.proxy_turns.proofs.worker_state.WorkerState.serve_client_at.Goals as goal

pub returns-in_err-turned-clause-serves : goal.returns-in_err-turned-clause-serves
returns-in_err-turned-clause-serves g c =
    let is = (err_from_is_err_and c.from_residual.result c.from_residual.ensures.1).1 in
    err_wider g.C.ClientPort.moves serves_client turns_client client_turned _ _ _ _ _ c.in_err-turned.ensures.turns is

pub returns-then-not-turned-clause-serves : goal.returns-then-not-turned-clause-serves
returns-then-not-turned-clause-serves g c = goes_wider g.C.ClientPort.moves serves_client turns_client client_turned _ _ _ c.in_ok-turned.ensures.turns

pub returns-clause-serves : goal.returns-clause-serves
returns-clause-serves g c =
    let one = goes_wider g.C.ClientPort.moves serves_client turns_client client_turned _ _ _ c.in_ok-turned.ensures.turns in
    let two = goes_wider g.C.ClientPort.moves serves_client removes_client client_removed _ _ _ c.remove_done-left.ensures.removes in
    all_then g.C.ClientPort.moves serves_client _ _ _ _ _ one two

pub returns-then-not-turned-clause-rests : goal.returns-then-not-turned-clause-rests
returns-then-not-turned-clause-rests g c =
    still_of g.C.ClientPort.gives_none g.C.ClientPort.takes_none c.args.self.now.clients.entries _ c.args.place _ c.in_ok-turned.turned c.in_ok-turned.ensures.turned c.in_ok-turned.ensures.len (undone_by _ c.if-not-turned.true)

pub returns-clause-rests : goal.returns-clause-rests
returns-clause-rests g c = last_moved _ c.in_ok-turned.turned.moved c.remove_done-left.result (c.remove_done-left.ensures.done (c.in_ok-turned.ensures.turned.done (done_by _ c.if-not-turned.false)))

pub returns-clause-due : goal.returns-clause-due
returns-clause-due g c = c.remove_done-left.ensures.due ∙ c.in_ok-turned.ensures.due
