use Rattle.std.proofs.Common.{◌∙◌, Ok, ap, arith, refl, rules, subst}
use Rattle.std.proofs.lemmas.Result.{err_from_is_err_and}
use Rattle.std.specs.BinaryHeap.{heap_items}
use Rattle.proxy_turns.specs.declared.turned.Finish.TheVariants as finish
use Rattle.proxy_turns.specs.ClientTable.{ClientFinishes}
use Rattle.proxy_turns.specs.WorkerModel.{clients_in, settles}
use Rattle.proxy_turns.specs.WorkerState.{state_model}
use Rattle.proxy_turns.proofs.Lifting.{finish_failed, finished, not_finished}
use Rattle.proxy_turns.proofs.Noting.{ended_dropped, keeps_then}
use Rattle.proxy_turns.proofs.Settling.{failed_noted, finish_noted, none_over, open_noted}
use Rattle.proxy_turns.proofs.worker_state.WorkerState.end_one.Goals as goal

pub invariant_of-self-in-Break-branch-2 : goal.invariant_of-self-in-Break-branch-2
invariant_of-self-in-Break-branch-2 g c = record {
  ports_fit = omega (arith, c.finish.ensures.len, c.args.self.now.ports_fit);
  due_known = failed_noted g.C.ClientPort.moves (clients_in c.args.self.now.clients.entries) (clients_in c.finish.new.self.entries) c.args.ticket c.in_err-finish.field-0.0 c.args.self.now.due c.reserve_one.new.self
      c.in_err-finish.ensures.finishes c.reserve_one.ensures.kept c.args.self.now.due_known;
}

pub returns-in_err-finish-clause-settles : goal.returns-in_err-finish-clause-settles
returns-in_err-finish-clause-settles g c =
    let is = (err_from_is_err_and c.from_residual-in_err-finish.result c.from_residual-in_err-finish.ensures.1).1 in
    finish_failed g.C.ClientPort.moves settles (λ k event. refl) (state_model c.args.self.now) c.args.ticket _ _ _ (clients_in c.finish.new.self.entries) c.in_err-finish.ensures.finishes is

pub invariant_of-self-in-Open : goal.invariant_of-self-in-Open
invariant_of-self-in-Open g c =
    let old = clients_in c.args.self.now.clients.entries in
    let new = clients_in c.finish.new.self.entries in
    let finishes = (subst (λ f. ClientFinishes g.C.ClientPort.moves (clients_in c.args.self.now.clients.entries) c.args.ticket (Ok f) (clients_in c.finish.new.self.entries)) c.in-Open.is c.in_ok-finish.ensures.finishes) in
    record {
      ports_fit = omega (arith, c.finish.ensures.len, c.args.self.now.ports_fit);
      due_known = ended_dropped new c.reserve_one.new.self c.drop_ended.new.self c.args.ticket c.requires.0 (c.reserve_one.ensures.ended ∙ c.requires.1) c.drop_ended.ensures.ended c.drop_ended.ensures.kept
          (none_over g.C.ClientPort.moves old new c.args.ticket (Ok finish.Open) (finish.Open, refl) finishes)
          (open_noted g.C.ClientPort.moves old new c.args.ticket c.args.self.now.due c.reserve_one.new.self finishes c.reserve_one.ensures.kept c.args.self.now.due_known);
    }

pub returns-in-Open-clause-settles : goal.returns-in-Open-clause-settles
returns-in-Open-clause-settles g c = not_finished g.C.ClientPort.moves settles (state_model c.args.self.now) c.args.ticket (clients_in c.finish.new.self.entries) (subst (λ f. ClientFinishes g.C.ClientPort.moves (clients_in c.args.self.now.clients.entries) c.args.ticket (Ok f) (clients_in c.finish.new.self.entries)) c.in-Open.is c.in_ok-finish.ensures.finishes)

pub invariant_of-self-in-Ended : goal.invariant_of-self-in-Ended
invariant_of-self-in-Ended g c =
    let old = clients_in c.args.self.now.clients.entries in
    let new = clients_in c.finish.new.self.entries in
    let finishes = (subst (λ f. ClientFinishes g.C.ClientPort.moves (clients_in c.args.self.now.clients.entries) c.args.ticket (Ok f) (clients_in c.finish.new.self.entries)) c.in-Ended.is c.in_ok-finish.ensures.finishes) in
    let kept = keeps_then c.args.self.now.due c.reserve_one.new.self c.note_next.new.due c.reserve_one.ensures.kept c.note_next.ensures.kept in
    record {
      ports_fit = omega (arith, c.finish.ensures.len, c.args.self.now.ports_fit);
      due_known = ended_dropped new c.note_next.new.due c.drop_ended-in-Ended.new.self c.args.ticket c.requires.0 (ap (λ d. d.items) c.note_next.ensures.ended ∙ c.reserve_one.ensures.ended ∙ c.requires.1) c.drop_ended-in-Ended.ensures.ended c.drop_ended-in-Ended.ensures.kept
          (none_over g.C.ClientPort.moves old new c.args.ticket (Ok (finish.Ended c.in-Ended.next)) (finish.Ended c.in-Ended.next, refl) finishes)
          (finish_noted g.C.ClientPort.moves old new c.args.ticket c.in-Ended.next c.args.self.now.due c.note_next.new.due finishes kept c.note_next.ensures.noted c.args.self.now.due_known);
    }

pub returns-in-Ended-clause-settles : goal.returns-in-Ended-clause-settles
returns-in-Ended-clause-settles g c =
    finished g.C.ClientPort.moves settles (λ k t end. refl) (state_model c.args.self.now) c.args.ticket c.in-Ended.next (clients_in c.finish.new.self.entries) _ (subst (λ f. ClientFinishes g.C.ClientPort.moves (clients_in c.args.self.now.clients.entries) c.args.ticket (Ok f) (clients_in c.finish.new.self.entries)) c.in-Ended.is c.in_ok-finish.ensures.finishes) (search rules)

pub returns-in-Open-clause-paused : goal.returns-in-Open-clause-paused
returns-in-Open-clause-paused g c = ap (λ p. heap_items p) c.drop_ended.ensures.kept.1 ∙ c.reserve_one.ensures.paused
