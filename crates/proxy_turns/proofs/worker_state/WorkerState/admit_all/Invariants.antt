use Rattle.std.proofs.Common.{nat_lt}
use Rattle.proxy_turns.specs.WorkerModel.{WorkerGoesBy, admits}
use Rattle.proxy_turns.specs.WorkerState.{state_model}
use Rattle.proxy_turns.proofs.worker_state.WorkerState.admit_all.Given as goal

abbrev pub invariant-loop-came : goal.invariant-loop-came
invariant-loop-came g l = WorkerGoesBy g.C.ClientPort.moves admits (state_model l.initial.self) (nat_lt 0 l.came) (state_model l.self)
