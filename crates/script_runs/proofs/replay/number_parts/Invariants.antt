use Rattle.std.proofs.Common.{◌≡◌, ◌≤◌, ◌+◌, ◌++◌, ◌^◌, length}
use Rattle.std.specs.Vec.Iter.{into_iter_items}
use Rattle.script_runs.specs.Run.{numbered}
use Rattle.script_runs.proofs.replay.number_parts.Given as goal

abbrev pub invariant-loop-part : goal.invariant-loop-part
invariant-loop-part l = record {
  all : l.parts.items ++ numbered l.client_id l.next (into_iter_items l.part-iterator) ≡ l.fn.parts.items ++ numbered l.client_id l.number l.fn.planned;
  numbered : l.next + length (into_iter_items l.part-iterator) ≤ 2 ^ 48;
}
