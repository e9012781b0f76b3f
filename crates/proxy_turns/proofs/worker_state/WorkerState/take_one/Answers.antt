use Rattle.std.proofs.Common.{arith, refl, subst}
use Rattle.proxy_turns.specs.WorkerModel.{Tells, clients_in, takes_told}
use Rattle.proxy_turns.specs.WorkerState.{state_model}
use Rattle.proxy_turns.proofs.Lifting.{found_none, took}
use Rattle.proxy_turns.proofs.Noting.{keeps_then}
use Rattle.proxy_turns.proofs.Settling.{more_noted, silent_noted, told_noted}
use Rattle.proxy_turns.proofs.worker_state.WorkerState.take_one.Goals as goal

pub invariant_of-self : goal.invariant_of-self
invariant_of-self g c = record {
  ports_fit = c.args.self.now.ports_fit;
  due_known = more_noted (clients_in c.args.self.now.clients.entries) c.args.self.now.due c.reserve_one.new.self c.reserve_one.ensures.kept c.args.self.now.due_known;
}

pub invariant_of-self-in_default : goal.invariant_of-self-in_default
invariant_of-self-in_default g c = record {
  ports_fit = c.args.self.now.ports_fit;
  due_known = more_noted (clients_in c.args.self.now.clients.entries) c.args.self.now.due c.reserve_one.new.self c.reserve_one.ensures.kept c.args.self.now.due_known;
}

pub returns-in_default-clause-takes : goal.returns-in_default-clause-takes
returns-in_default-clause-takes g c = found_none g.C.ClientPort.moves takes_told refl (state_model c.args.self.now) c.take.new.self c.in_default.ensures

pub returns-in_default-clause-none : goal.returns-in_default-clause-none
returns-in_default-clause-none g c = (c.args.self.now.inlet, c.in_default.ensures)

pub invariant_of-self-then-not-tell : goal.invariant_of-self-then-not-tell
invariant_of-self-then-not-tell g c =
    let old = clients_in c.args.self.now.clients.entries in
    let new = clients_in c.tell.new.self.entries in
    record {
      ports_fit = omega (arith, c.tell.ensures.len, c.args.self.now.ports_fit);
      due_known = silent_noted old new c.in-Some.ticket c.in-Some.told c.args.self.now.due c.reserve_one.new.self
          (subst (λ heard. Tells old c.in-Some.ticket c.in-Some.told heard new) c.if-not-tell.true c.tell.ensures.tells) c.reserve_one.ensures.kept c.args.self.now.due_known;
    }

pub returns-then-not-tell-clause-takes : goal.returns-then-not-tell-clause-takes
returns-then-not-tell-clause-takes g c =
    took g.C.ClientPort.moves takes_told (λ ticket told. refl) (state_model c.args.self.now) (clients_in c.tell.new.self.entries) c.take.new.self c.in-Some.ticket c.in-Some.told c.tell.result c.in-Some.ensures c.tell.ensures.tells

pub invariant_of-self-2 : goal.invariant_of-self-2
invariant_of-self-2 g c =
    let old = clients_in c.args.self.now.clients.entries in
    let new = clients_in c.tell.new.self.entries in
    record {
      ports_fit = omega (arith, c.tell.ensures.len, c.args.self.now.ports_fit);
      due_known = told_noted old new c.in-Some.ticket c.in-Some.told c.args.self.now.due c.note_step.new.due
          (subst (λ heard. Tells old c.in-Some.ticket c.in-Some.told heard new) c.if-not-tell.false c.tell.ensures.tells)
          (keeps_then c.args.self.now.due c.reserve_one.new.self c.note_step.new.due c.reserve_one.ensures.kept c.note_step.ensures.kept) c.note_step.ensures.noted c.args.self.now.due_known;
    }

pub returns-clause-takes : goal.returns-clause-takes
returns-clause-takes g c =
    took g.C.ClientPort.moves takes_told (λ ticket told. refl) (state_model c.args.self.now) (clients_in c.tell.new.self.entries) c.take.new.self c.in-Some.ticket c.in-Some.told c.tell.result c.in-Some.ensures c.tell.ensures.tells
