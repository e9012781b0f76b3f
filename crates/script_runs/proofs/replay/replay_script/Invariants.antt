use Rattle.std.proofs.Common.{◌≤◌, ◌^◌, length}
use Rattle.script_runs.specs.Replayed.{opened, state_of}
use Rattle.script_runs.specs.Run.{ends_of}
use Rattle.script_runs.specs.Wanted.{IsOpen}
use Rattle.script_runs.proofs.Replaying.{Reaches}
use Rattle.script_runs.proofs.replay.replay_script.Given as goal

abbrev pub invariant-loop-made : goal.invariant-loop-made
invariant-loop-made l = record {
  is_open : IsOpen l.reader;
  few : l.made.number ≤ 2 ^ 48;
  reaches : Reaches l.client_id (ends_of l.client_id l.ends) l.script (opened l.fn.parts.items) (state_of l.made) l.reader.unread;
}

abbrev pub decreases-loop-made : goal.decreases-loop-made
decreases-loop-made l = length l.reader.unread
