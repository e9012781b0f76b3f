use Rattle.std.proofs.Common.{nat_lt}
use Rattle.proxy_turns.specs.WorkerModel.{WorkerGoesBy, takes_told}
use Rattle.proxy_turns.specs.WorkerState.{state_model}
use Rattle.proxy_turns.proofs.worker_state.WorkerState.take_told.Given as goal

abbrev pub invariant-loop-told : goal.invariant-loop-told
invariant-loop-told g l = WorkerGoesBy g.C.ClientPort.moves takes_told (state_model l.initial.self) (nat_lt 0 l.told) (state_model l.self)
