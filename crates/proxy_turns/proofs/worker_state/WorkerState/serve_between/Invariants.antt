use Rattle.std.proofs.Common.{◌≡◌, ◌-◌, false}
use Rattle.proxy_turns.specs.ClientTable.{RestBetween}
use Rattle.proxy_turns.specs.WorkerModel.{WorkerGoesBy, serves_client}
use Rattle.proxy_turns.specs.WorkerState.{state_model}
use Rattle.proxy_turns.proofs.worker_state.WorkerState.serve_between.Given as goal

abbrev pub invariant-loop-place : goal.invariant-loop-place
invariant-loop-place g l = record {
  goes : WorkerGoesBy g.C.ClientPort.moves serves_client (state_model l.initial.self) l.moved (state_model l.self);
  due : l.self.due ≡ l.initial.self.due;
  rests : l.moved ≡ false → RestBetween g.C.ClientPort.gives_none g.C.ClientPort.takes_none l.from l.next l.initial.self.clients.entries l.initial.self.uplink.outlet l.self.clients.entries l.self.uplink.outlet;
}

abbrev pub decreases-loop-place : goal.decreases-loop-place
decreases-loop-place g l = l.end - l.next
