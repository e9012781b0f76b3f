use Rattle.std.proofs.Common.{◌≡◌, ◌≤◌, [], length}
use Rattle.std.specs.Prelude.{All}
use Rattle.std.specs.Vec.Iter.{drain_items, drain_kept}
use Rattle.std.specs.HashMap.{spare}
use Rattle.command_future.specs.CommandModel.{MayPostTo}
use Rattle.proxy_turns.specs.Commands.{in_table, with_posted}
use Rattle.proxy_turns.proofs.commands.posting.keep_posted.Given as goal

abbrev pub invariant-loop-command : goal.invariant-loop-command
invariant-loop-command l = record {
  room : length (drain_items l.command-iterator) ≤ spare l.posted;
  may : All (λ c. MayPostTo c.stage l.fn.node) (drain_items l.command-iterator);
  put : with_posted (in_table l.posted.entries) (drain_items l.command-iterator) ≡ with_posted (in_table l.fn.posted.entries) l.fn.commands.items;
  none : drain_kept l.command-iterator ≡ [];
}
