use Rattle.std.proofs.Common.{ℕ, List, Result, Ok, Err, ap, false, subst}
use Rattle.std.specs.Result.{OnOk}
use Rattle.std.proofs.lemmas.Result.{err_from_is_err_and}
use Rattle.proxy_turns.specs.ClientModel.{ClientModel}
use Rattle.proxy_turns.specs.WorkerModel.{ServesClients, clients_in, serves_client}
use Rattle.proxy_turns.specs.WorkerState.{state_model}
use Rattle.proxy_turns.proofs.Lifting.{stays_all}
use Rattle.proxy_turns.proofs.worker_state.WorkerState.serve_clients.Goals as goal

on-any : {T E : Type 0} (r : Result T E) (P : Type 0) → P → OnOk r P
on-any (Ok value) P holds = holds
on-any (Err fault) P holds = tt

pub returns-in_err-wake_those_with_news-clause-serves : goal.returns-in_err-wake_those_with_news-clause-serves
returns-in_err-wake_those_with_news-clause-serves g c =
    let is = (err_from_is_err_and c.from_residual.result c.from_residual.ensures.1).1 in
    rw is (false, stays_all g.C.ClientPort.moves serves_client _ _ (ap (λ (e : List (ℕ × ClientModel _)). record (state_model c.args.self.now) { clients = clients_in e }) c.in_err-wake_those_with_news.ensures.entries))

pub invariant_of-self : goal.invariant_of-self
invariant_of-self g c = record {
  ports_fit = rw c.wake_those_with_news.ensures.entries c.args.self.now.ports_fit;
  due_known = rw c.wake_those_with_news.ensures.entries c.args.self.now.due_known;
}

pub returns-clause-serves : goal.returns-clause-serves
returns-clause-serves g c =
    subst (λ (e : List (ℕ × ClientModel _)). ServesClients g.C.ClientPort.moves (record (state_model c.args.self.now) { clients = clients_in e }) c.serve_awake.result (state_model c.serve_awake.new.self)) c.in_ok-wake_those_with_news.ensures.entries c.serve_awake.ensures.serves

pub returns-clause-asked : goal.returns-clause-asked
returns-clause-asked g c = on-any c.serve_awake.result _ (c.wake_those_with_news.new.news.items, c.in_ok-wake_those_with_news.ensures.woken.0)

pub serve_awake-requires : goal.serve_awake-requires
serve_awake-requires g c = record { woken = c.in_ok-wake_those_with_news.ensures.woken }
