use Rattle.std.proofs.Common.{refl}
use Rattle.std.proofs.lemmas.List.Sorted.{list_any-IsPermutation}
use Rattle.std.specs.BinaryHeap.{heap_items}
use Rattle.proxy_turns.specs.DueCommands.{is_pause_of}
use Rattle.proxy_turns.proofs.Waiting.{popped}
use Rattle.proxy_turns.proofs.due_commands.DueCommands.take_paused.Goals as goal

pub invariant_of-self : goal.invariant_of-self
invariant_of-self c = record { in_order = popped _ c.pop.result (heap_items c.args.self.now.paused) (heap_items c.pop.new.self) c.pop.ensures.heap_order c.pop.ensures.unchanged c.args.self.now.in_order }

pub returns-clause-takes : goal.returns-clause-takes
returns-clause-takes c = (refl, refl, (λ client part. list_any-IsPermutation (is_pause_of client part) _ _ c.in_ok-client.ensures.permutation), (_, c.in_ok-client.ensures.permutation))
