use Rattle.std.proofs.Common.{◌∙◌, refl}
use Rattle.std.proofs.lemmas.Result.{err_from_is_err_and}
use Rattle.proxy_turns.specs.WorkerModel.{settles}
use Rattle.proxy_turns.proofs.ClientResting.{if_still, if_turned}
use Rattle.proxy_turns.proofs.Lifting.{all_err, all_then, stays_all}
use Rattle.proxy_turns.proofs.Places.{or_false}
use Rattle.proxy_turns.proofs.Settling.{shorter}
use Rattle.proxy_turns.proofs.worker_state.WorkerState.end_all.Goals as goal

pub loop-ticket-smaller : goal.loop-ticket-smaller
loop-ticket-smaller g c = shorter c.loop-ticket.self.due.ended.items c.end_one.new.self.due.ended.items c.in-Some.ticket c.in-Some.ensures.0 c.in-Some.ensures.1 c.in_ok-moved.ensures.ended

pub loop-ticket-preserved : goal.loop-ticket-preserved
loop-ticket-preserved g c = record {
  goes = all_then g.C.ClientPort.moves settles _ _ _ _ _ c.loop-ticket.invariant.goes c.in_ok-moved.ensures.settles;
  paused = λ none. let both = or_false _ _ none in if_turned _ c.in_ok-moved.ensures.paused both.1 ∙ c.loop-ticket.invariant.paused both.0;
}

pub returns-in_err-moved-clause-settles : goal.returns-in_err-moved-clause-settles
returns-in_err-moved-clause-settles g c =
    let is = (err_from_is_err_and c.from_residual.result c.from_residual.ensures.1).1 in
    all_err g.C.ClientPort.moves settles _ _ _ _ _ _ _ c.loop-ticket.invariant.goes c.in_err-moved.ensures.settles is

pub loop-ticket-init : goal.loop-ticket-init
loop-ticket-init g c = record { goes = stays_all g.C.ClientPort.moves settles _ _ refl; paused = λ none. refl }

pub returns-clause-settles : goal.returns-clause-settles
returns-clause-settles g c = c.loop-ticket.invariant.goes

pub returns-clause-paused : goal.returns-clause-paused
returns-clause-paused g c = if_still _ c.loop-ticket.invariant.paused
