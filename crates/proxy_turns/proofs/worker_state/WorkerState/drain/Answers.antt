use Rattle.std.proofs.Common.{arith, refl}
use Rattle.proxy_turns.specs.WorkerModel.{clients_in}
use Rattle.proxy_turns.proofs.Settling.{still_noted}
use Rattle.proxy_turns.proofs.StoppedClients.{stopped_new}
use Rattle.proxy_turns.proofs.worker_state.WorkerState.drain.Goals as goal

pub returns-clause-drains : goal.returns-clause-drains
returns-clause-drains g c = record { none_to_come = refl; clients = c.stop_all.ensures.stopped; kept = refl }

pub invariant_of-self : goal.invariant_of-self
invariant_of-self g c = record {
  ports_fit = omega (arith, c.stop_all.ensures.len, c.args.self.now.ports_fit);
  due_known = still_noted (clients_in c.args.self.now.clients.entries) (clients_in c.stop_all.new.self.entries) c.args.self.now.due (stopped_new _ _ c.stop_all.ensures.stopped) c.args.self.now.due_known;
}
