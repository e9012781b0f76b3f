use Rattle.std.proofs.Common.{◌≡◌, false, length}
use Rattle.std.specs.BinaryHeap.{heap_items}
use Rattle.proxy_turns.specs.WorkerModel.{WorkerGoesBy, settles}
use Rattle.proxy_turns.specs.WorkerState.{state_model}
use Rattle.proxy_turns.proofs.worker_state.WorkerState.end_all.Given as goal

abbrev pub invariant-loop-ticket : goal.invariant-loop-ticket
invariant-loop-ticket g l = record {
  goes : WorkerGoesBy g.C.ClientPort.moves settles (state_model l.initial.self) l.moved (state_model l.self);
  paused : l.moved ≡ false → heap_items l.self.due.paused ≡ heap_items l.initial.self.due.paused;
}

abbrev pub decreases-loop-ticket : goal.decreases-loop-ticket
decreases-loop-ticket g l = length l.self.due.ended.items
