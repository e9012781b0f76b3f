use Rattle.std.proofs.Common.{◌∙◌, refl, sym}
use Rattle.std.proofs.lemmas.Result.{err_from_is_err_and}
use Rattle.proxy_turns.specs.WorkerModel.{serves_client}
use Rattle.proxy_turns.specs.WorkerState.{state_model}
use Rattle.proxy_turns.proofs.ClientResting.{two_still}
use Rattle.proxy_turns.proofs.Lifting.{all_err, all_then}
use Rattle.proxy_turns.proofs.Rounds.{all_rest}
use Rattle.proxy_turns.proofs.Sleeping.{rests_round}
use Rattle.proxy_turns.proofs.worker_state.WorkerState.serve_awake.Goals as goal

pub returns-in_err-behind-clause-serves : goal.returns-in_err-behind-clause-serves
returns-in_err-behind-clause-serves g c =
    let is = (err_from_is_err_and c.from_residual.result c.from_residual.ensures.1).1 in
    rw is c.in_err-behind.ensures.serves

pub returns-in_err-before-clause-serves : goal.returns-in_err-before-clause-serves
returns-in_err-before-clause-serves g c =
    let is = (err_from_is_err_and c.from_residual-in_err-before.result c.from_residual-in_err-before.ensures.1).1 in
    all_err g.C.ClientPort.moves serves_client _ _ _ _ _ _ _ c.in_ok-behind.ensures.serves c.in_err-before.ensures.serves is

pub returns-clause-serves : goal.returns-clause-serves
returns-clause-serves g c = all_then g.C.ClientPort.moves serves_client _ _ _ _ _ c.in_ok-behind.ensures.serves c.in_ok-before.ensures.serves

pub returns-clause-rest : goal.returns-clause-rest
returns-clause-rest g c =
    let entries = c.serve_between-2.new.self.clients.entries in
    two_still c.in_ok-behind.behind c.in_ok-before.before c.in_ok-behind.ensures.rest c.in_ok-before.ensures.rest
    (λ behind before. all_rest g.C.ClientPort.gives_none g.C.ClientPort.takes_none (state_model c.serve_between-2.new.self) entries refl
    (rests_round g.C.ClientPort.gives_none g.C.ClientPort.takes_none c.first-first.result c.len-count.result c.args.self.now.clients.entries c.serve_between.new.self.clients.entries entries _ _ _ (sym c.len-count.ensures.len) behind before))

pub returns-clause-due : goal.returns-clause-due
returns-clause-due g c = c.in_ok-before.ensures.due ∙ c.in_ok-behind.ensures.due
