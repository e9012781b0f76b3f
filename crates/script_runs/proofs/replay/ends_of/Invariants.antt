use Rattle.std.proofs.Common.{◌≡◌, ◌+◌, ◌-◌}
use Rattle.session_order.specs.Output.{ends_from}
use Rattle.script_runs.specs.Run.{ends_of}
use Rattle.script_runs.proofs.Telling.{behind}
use Rattle.script_runs.proofs.replay.ends_of.Given as goal

abbrev pub invariant-loop-place : goal.invariant-loop-place
invariant-loop-place l =
    ends_from (ends_of l.client_id l.ends) l.number l.count ≡ behind l.own.items (ends_from (ends_of l.client_id l.ends) (l.number + l.place) (l.count - l.place))
