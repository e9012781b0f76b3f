use Rattle.std.proofs.Common.{◌≡◌, ◌≤◌, ◌+◌, ◌++◌, length, map, vec_len}
use Rattle.std.specs.Prelude.{vec_capacity}
use Rattle.std.specs.Vec.Iter.{into_iter_items}
use Rattle.resp_wire.specs.Seen.{data_of}
use Rattle.node_server.specs.NodeAnswers.{refused_in, replies_in}
use Rattle.node_server.proofs.told_value.replies_in.Given as goal

abbrev pub invariant-loop-told : goal.invariant-loop-told
invariant-loop-told l = record {
  refused : refused_in (into_iter_items l.told-iterator) ≡ refused_in l.fn.tolds.items;
  replies : map data_of l.replies.items ++ replies_in (into_iter_items l.told-iterator) ≡ replies_in l.fn.tolds.items;
  room : vec_len l.replies + length (into_iter_items l.told-iterator) ≤ vec_capacity l.replies;
}
