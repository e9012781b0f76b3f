use Rattle.std.proofs.Common.{◌≡◌, ◌≤◌, true, length, take}
use Rattle.std.specs.List.{list_all}
use Rattle.session_order.specs.Turn.{is_done}
use Rattle.session_order.proofs.queue.count_done.Given as goal

abbrev pub invariant-loop-i : goal.invariant-loop-i
invariant-loop-i l = record {
  fits : l.i ≤ length l.stages.items;
  done : list_all is_done (take l.i l.stages.items) ≡ true;
}
