use Rattle.std.proofs.Common.{◌≡◌, length}
use Rattle.proxy_turns.specs.PendingRun.{no_pending_run}
use Rattle.proxy_turns.specs.Growing.{Grows}
use Rattle.proxy_turns.proofs.pending_run.add_places.Given as goal

abbrev pub invariant-loop-next : goal.invariant-loop-next
invariant-loop-next l = record {
  grows : Grows no_pending_run l.initial.pending_runs.items l.pending_runs.items;
  count : l._next ≡ length l.pending_runs.items;
}
