use Rattle.std.proofs.Common.{◌∙◌, ap, refl}
use Rattle.std.proofs.lemmas.Result.{err_from_is_err_and}
use Rattle.std.specs.BinaryHeap.{heap_items}
use Rattle.proxy_turns.specs.WorkerModel.{clients_in, settles}
use Rattle.proxy_turns.specs.WorkerState.{state_model}
use Rattle.proxy_turns.proofs.Lifting.{all_err, all_then, stays_err}
use Rattle.proxy_turns.proofs.Settling.{more_noted, settled_rest}
use Rattle.proxy_turns.proofs.Waiting.{later_on}
use Rattle.proxy_turns.proofs.worker_state.WorkerState.settle_due.Goals as goal

pub invariant_of-self : goal.invariant_of-self
invariant_of-self g c = record {
  ports_fit = c.args.self.now.ports_fit;
  due_known = more_noted (clients_in c.args.self.now.clients.entries) c.args.self.now.due c.end_pauses.new.self c.end_pauses.ensures.kept c.args.self.now.due_known;
}

pub returns-in_err-posted-clause-settles : goal.returns-in_err-posted-clause-settles
returns-in_err-posted-clause-settles g c =
    let is = (err_from_is_err_and c.from_residual-in_err-posted.result c.from_residual-in_err-posted.ensures.1).1 in
    all_err g.C.ClientPort.moves settles (state_model c.args.self.now) _ (state_model c.end_all.new.self) _ _ _ _ c.in_ok-ended.ensures.settles c.in_err-posted.ensures.settles is

pub returns-clause-settles : goal.returns-clause-settles
returns-clause-settles g c = all_then g.C.ClientPort.moves settles (state_model c.args.self.now) _ (state_model c.end_all.new.self) _ _ c.in_ok-ended.ensures.settles c.in_ok-posted.ensures.settles

pub returns-clause-rest : goal.returns-clause-rest
returns-clause-rest g c =
    settled_rest (clients_in c.post_due.new.self.clients.entries) c.post_due.new.self.uplink.outlet c.post_due.new.self.due (ap (λ d. d.items) c.in_ok-posted.ensures.ended ∙ c.in_ok-ended.ensures.none) c.in_ok-posted.ensures.none c.post_due.new.self.due_known

pub returns-in_err-end_pauses-clause-settles : goal.returns-in_err-end_pauses-clause-settles
returns-in_err-end_pauses-clause-settles g c =
    let is = (err_from_is_err_and c.from_residual.result c.from_residual.ensures.1).1 in stays_err g.C.ClientPort.moves settles _ _ _ _ is refl

pub returns-clause-pauses : goal.returns-clause-pauses
returns-clause-pauses g c =
    later_on (g.G.Gate.tells c.args.gate.now) c.in_ok-ended.ended c.in_ok-posted.posted (heap_items c.end_pauses.new.self.paused) (heap_items c.end_all.new.self.due.paused) (heap_items c.post_due.new.self.due.paused)
    c.in_ok-end_pauses.ensures.later c.in_ok-ended.ensures.paused (ap (λ p. heap_items p) c.in_ok-posted.ensures.paused)
