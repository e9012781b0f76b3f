use Rattle.std.proofs.Common.{◌≡◌, ◌≤◌, [], replicate}
use Rattle.std.specs.Vec.{vec_capacity, vec_len}
use Rattle.script_runs.proofs.clients.unanswered.Given as goal

abbrev pub invariant-loop : goal.invariant-loop
invariant-loop l = record {
  made : l.replies.items ≡ replicate l.counter [];
  many : vec_len l.replies ≡ l.counter;
  room : l.count ≤ vec_capacity l.replies;
}
