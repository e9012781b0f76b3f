use Rattle.std.proofs.Common.{arith, refl}
use Rattle.proxy_turns.specs.WorkerModel.{clients_in, removes_client}
use Rattle.proxy_turns.specs.WorkerState.{state_model}
use Rattle.proxy_turns.proofs.Lifting.{has_left, stays_all}
use Rattle.proxy_turns.proofs.Settling.{left_new, same_clients, still_noted}
use Rattle.proxy_turns.proofs.worker_state.WorkerState.remove_done.Goals as goal

pub returns-in_default-clause-removes : goal.returns-in_default-clause-removes
returns-in_default-clause-removes g c = stays_all g.C.ClientPort.moves removes_client _ _ (λ i. record (state_model c.args.self.now) { clients = c.in_default.ensures.leaves.1 i })

pub returns-clause-removes : goal.returns-clause-removes
returns-clause-removes g c =
    has_left g.C.ClientPort.moves removes_client (λ number. refl) (state_model c.args.self.now) (clients_in c.take_done.new.self.entries) c.keep_port.new.ports.items c.in-Some.ensures.leaves.0 c.in-Some.port c.closed.result
    c.in-Some.ensures.leaves.1 c.closed.ensures c.keep_port.ensures.ports

pub returns-in_default-clause-done : goal.returns-in_default-clause-done
returns-in_default-clause-done g c = λ done. absurd (c.in_default.ensures.leaves.0 done)

pub invariant_of-self : goal.invariant_of-self
invariant_of-self g c = record {
  ports_fit = omega (arith, c.in_default.ensures.len, c.args.self.now.ports_fit);
  due_known = still_noted (clients_in c.args.self.now.clients.entries) (clients_in c.take_done.new.self.entries) c.args.self.now.due (same_clients _ _ c.in_default.ensures.leaves.1) c.args.self.now.due_known;
}

pub invariant_of-self-2 : goal.invariant_of-self-2
invariant_of-self-2 g c = record {
  ports_fit = omega (arith, c.in-Some.ensures.len, c.keep_port.ensures.len, c.keep_port.ensures.capacity, c.args.self.now.ports_fit);
  due_known = still_noted (clients_in c.args.self.now.clients.entries) (clients_in c.take_done.new.self.entries) c.args.self.now.due (left_new _ _ c.in-Some.ensures.leaves.0 _ c.in-Some.ensures.leaves.1) c.args.self.now.due_known;
}
