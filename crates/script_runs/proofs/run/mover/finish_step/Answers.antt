use Rattle.std.proofs.Common.{refl}
use Rattle.script_runs.proofs.InTurn.{other-ends}
use Rattle.script_runs.proofs.run.mover.finish_step.Goals as goal

pub returns-in_ok-move_keys-in-MoveRest : goal.returns-in_ok-move_keys-in-MoveRest
returns-in_ok-move_keys-in-MoveRest g c = rw c.in-MoveRest.is (refl, rw c.in-MoveRest.is at c.in_ok-move_keys-in-MoveRest.ensures)

pub returns-in_default : goal.returns-in_default
returns-in_default g c = other-ends c.args.step.now c.try_often.result c.in_default.not-MoveRest c.try_often.ensures
