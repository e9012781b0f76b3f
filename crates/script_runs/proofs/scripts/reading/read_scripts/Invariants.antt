use Rattle.std.proofs.Common.{◌≡◌, ◌≤◌, ◌+◌, length}
use Rattle.cluster_world.specs.Script.{lines_of}
use Rattle.script_runs.specs.Scripts.{nothing, task_from, task_of}
use Rattle.script_runs.proofs.scripts.reading.read_scripts.Given as goal

abbrev pub invariant-loop-scripts : goal.invariant-loop-scripts
invariant-loop-scripts l = record {
  says : task_from 1 nothing (lines_of l.input) ≡ task_from l.number (task_of l.scripts) (lines_of l.rest);
  lines : l.number + length l.rest ≤ 1 + length l.input;
  clients : length l.scripts.clients.items + length l.rest ≤ length l.input;
}

abbrev pub decreases-loop-scripts : goal.decreases-loop-scripts
decreases-loop-scripts l = length l.rest
