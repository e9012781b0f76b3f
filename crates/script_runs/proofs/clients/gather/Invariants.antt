use Rattle.std.proofs.Common.{◌≡◌, ◌++◌, []}
use Rattle.std.specs.Prelude.{replicate}
use Rattle.std.specs.List.{flat_map, fold}
use Rattle.std.specs.Vec.Iter.{into_iter_items}
use Rattle.script_runs.specs.Answered.{put_reply, ends_noted}
use Rattle.script_runs.proofs.clients.gather.Given as goal

abbrev pub invariant-loop-client : goal.invariant-loop-client
invariant-loop-client l = record {
  replies : fold put_reply l.replies.items (into_iter_items l.client-iterator) ≡ fold put_reply (replicate l.count []) l.fn.clients.items;
  ends : l.ends.items ++ flat_map ends_noted (into_iter_items l.client-iterator) ≡ flat_map ends_noted l.fn.clients.items;
}
