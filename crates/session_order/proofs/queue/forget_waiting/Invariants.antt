use Rattle.std.proofs.Common.{◌≡◌, ◌≤◌, length}
use Rattle.session_order.specs.Tables.{LinksIn}
use Rattle.session_order.proofs.Forgetting.{Forgot}
use Rattle.session_order.proofs.queue.forget_waiting.Given as goal

abbrev pub invariant-loop-i : goal.invariant-loop-i
invariant-loop-i l = record {
  first : l.tables.first ≡ l.fn.tables.first;
  turns : l.tables.turns ≡ l.fn.tables.turns;
  end : l.i-end ≡ length l.fn.tables.stages.items;
  within : l.i ≤ l.i-end;
  linked : LinksIn l.tables;
  forgot : Forgot l.i l.kept l.fn.tables.stages.items l.tables.stages.items;
}
