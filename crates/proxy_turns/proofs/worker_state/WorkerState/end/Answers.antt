use Rattle.std.proofs.Common.{rules}
use Rattle.proxy_turns.proofs.Settling.{nobody_noted}
use Rattle.proxy_turns.proofs.Tables.{empty_by}
use Rattle.proxy_turns.proofs.worker_state.WorkerState.end.Goals as goal

pub invariant_of-self : goal.invariant_of-self
invariant_of-self g c = record {
  ports_fit = search rules;
  due_known = nobody_noted _ c.args.self.now.due (empty_by _ (search rules));
}

pub give_back-requires : goal.give_back-requires
give_back-requires g c = rw (c.replace-ports.ensures.value, c.replace-clients.ensures.value) c.args.self.now.ports_fit
