use Rattle.std.proofs.Common.{◌≡◌, ◌≤◌, length, take}
use Rattle.std.specs.Vec.{vec_capacity, vec_len}
use Rattle.script_runs.proofs.judge.copy_of.Given as goal

abbrev pub invariant-loop-entry : goal.invariant-loop-entry
invariant-loop-entry l = record {
  made : l.copy.items ≡ take l.entry-index l.history;
  many : vec_len l.copy ≡ l.entry-index;
  room : length l.history ≤ vec_capacity l.copy;
}
