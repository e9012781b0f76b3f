use Rattle.std.proofs.Common.{◌≤◌, take}
use Rattle.script_runs.specs.Mover.{AllEnd}
use Rattle.script_runs.proofs.run.mover.make_all.Given as goal

-- of the steps so far
abbrev pub invariant-loop-step : goal.invariant-loop-step
invariant-loop-step g l = AllEnd (take l.step-index l.moves) l.skipped × (l.skipped ≤ l.step-index)
