use Rattle.std.proofs.Common.{rules}
use Rattle.proxy_turns.specs.WorkerModel.{clients_in}
use Rattle.proxy_turns.proofs.Settling.{nobody_noted}
use Rattle.proxy_turns.proofs.Tables.{empty_by}
use Rattle.proxy_turns.proofs.worker_state.WorkerState.new.Goals as goal

pub invariant_of-result : goal.invariant_of-result
invariant_of-result g c = record {
  ports_fit = search rules;
  due_known = nobody_noted (clients_in c.new.result.entries) c.new-3.result (empty_by c.new.result.entries (search rules));
}
