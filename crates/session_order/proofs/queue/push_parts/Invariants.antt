use Rattle.std.proofs.Common.{◌≡◌, ◌≤◌, ◌+◌, ◌++◌, ◌^◌, length, map}
use Rattle.std.specs.Vec.Iter.{into_iter_items}
use Rattle.session_order.specs.declared.queue.PartStage.TheVariants.{Waiting}
use Rattle.session_order.specs.Tables.{AreSound, HasRoom}
use Rattle.session_order.proofs.queue.push_parts.Given as goal

abbrev pub invariant-loop-part : goal.invariant-loop-part
invariant-loop-part l = record {
  all : l.yielded ++ into_iter_items l.part-iterator ≡ l.fn.parts.items;
  sound : AreSound l.tables;
  first : l.tables.first ≡ l.fn.tables.first;
  stages : l.tables.stages.items ≡ l.fn.tables.stages.items ++ map Waiting l.yielded;
  numbered : l.tables.first + length l.tables.stages.items + length (into_iter_items l.part-iterator) ≤ 2 ^ 48;
  room : HasRoom l.tables (length (into_iter_items l.part-iterator));
}
