use Rattle.std.proofs.Common.{◌∙◌, ap, refl, rules, sym}
use Rattle.std.proofs.lemmas.Result.{err_from_is_err_and}
use Rattle.std.proofs.lemmas.Bool.{false≢true}
use Rattle.proxy_turns.specs.WorkerModel.{clients_in, admits}
use Rattle.proxy_turns.specs.WorkerState.{state_model}
use Rattle.proxy_turns.specs.ClientModel.{ClientModel, new_client}
use Rattle.proxy_turns.proofs.Lifting.{came_from, nobody, stays_all, stays_err}
use Rattle.proxy_turns.proofs.Settling.{came_new, same_clients, still_noted}
use Rattle.proxy_turns.proofs.worker_state.WorkerState.admit.Goals as goal

pub returns-then-not-are_to_come-clause-admits : goal.returns-then-not-are_to_come-clause-admits
returns-then-not-are_to_come-clause-admits g c = stays_all g.C.ClientPort.moves admits _ _ refl

pub returns-in_err-make_room-clause-admits : goal.returns-in_err-make_room-clause-admits
returns-in_err-make_room-clause-admits g c =
    let is = (err_from_is_err_and c.from_residual.result c.from_residual.ensures.1).1 in
    stays_err g.C.ClientPort.moves admits _ _ _ _ is (λ i. record (state_model c.args.self.now) { clients = c.make_room.ensures.clients i; ports = c.make_room.ensures.ports i })

pub returns-in_default-clause-admits : goal.returns-in_default-clause-admits
returns-in_default-clause-admits g c =
    nobody g.C.ClientPort.moves admits refl (state_model c.args.self.now) _ _ c.take.new.self c.make_room.ensures.clients c.make_room.ensures.ports c.in_default.ensures

pub returns-clause-admits : goal.returns-clause-admits
returns-clause-admits g c =
    let state = c.args.self.now in
    let newcomer = c.in-Some.newcomer in
    came_from g.C.ClientPort.moves admits (λ number. refl) (λ number. refl) (state_model state) (clients_in c.make_room.new.clients.entries) c.make_room.new.ports.items c.take.new.self c.put_new.new.newest c.one_fewer-self.result c.learn.new.view
    (clients_in c.put_new.new.clients.entries) c.put_new.new.ports.items newcomer c.new-client.result c.make_room.ensures.clients c.make_room.ensures.ports
    c.in-Some.ensures c.one_fewer-self.ensures c.learn.ensures (c.new-client.ensures ∙ ap (λ bounds. new_client state.worker newcomer.number bounds newcomer.port) c.full.ensures) c.put_new.ensures.puts

pub returns-then-not-are_to_come-clause-none : goal.returns-then-not-are_to_come-clause-none
returns-then-not-are_to_come-clause-none g c = λ come. absurd (false≢true (sym c.if-not-are_to_come.true ∙ c.are_to_come.ensures.1 come))

pub returns-in_default-clause-none : goal.returns-in_default-clause-none
returns-in_default-clause-none g c = λ come. (c.args.self.now.newcomers, c.in_default.ensures)

pub invariant_of-self : goal.invariant_of-self
invariant_of-self g c = record {
  ports_fit = search (rules, c.args.self.now.ports_fit);
  due_known = still_noted (clients_in c.args.self.now.clients.entries) (clients_in c.make_room.new.clients.entries) c.args.self.now.due (same_clients _ _ c.make_room.ensures.clients) c.args.self.now.due_known;
}

pub invariant_of-self-in_default : goal.invariant_of-self-in_default
invariant_of-self-in_default g c = record {
  ports_fit = search (rules, c.args.self.now.ports_fit);
  due_known = still_noted (clients_in c.args.self.now.clients.entries) (clients_in c.make_room.new.clients.entries) c.args.self.now.due (same_clients _ _ c.make_room.ensures.clients) c.args.self.now.due_known;
}

pub invariant_of-self-2 : goal.invariant_of-self-2
invariant_of-self-2 g c = record {
  ports_fit = c.put_new.ensures.ports_fit;
  due_known = still_noted (clients_in c.args.self.now.clients.entries) (clients_in c.put_new.new.clients.entries) c.args.self.now.due
      (came_new g.C.ClientPort.moves c.args.self.now.workers c.args.self.now.worker (clients_in c.args.self.now.clients.entries) (clients_in c.make_room.new.clients.entries) (clients_in c.put_new.new.clients.entries) c.make_room.new.ports.items c.put_new.new.ports.items _ _ _ _ c.new-client.result
      c.make_room.ensures.clients (ap (λ (x : ClientModel _). x.commands.posted) c.new-client.ensures) c.put_new.ensures.puts) c.args.self.now.due_known;
}
