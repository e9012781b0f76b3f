use Rattle.std.proofs.Common.{length}
use Rattle.std.specs.BinaryHeap.{heap_items}
use Rattle.proxy_turns.specs.DueCommands.{KeepsNoted}
use Rattle.proxy_turns.specs.Waiting.{BeganNone}
use Rattle.proxy_turns.proofs.due_commands.DueCommands.end_pauses.Given as goal

abbrev pub invariant-loop : goal.invariant-loop
invariant-loop g l = record {
  kept : KeepsNoted l.initial.self l.self;
  none : BeganNone (heap_items l.initial.self.paused) (heap_items l.self.paused);
}

abbrev pub decreases-loop : goal.decreases-loop
decreases-loop g l = length (heap_items l.self.paused)
