use Rattle.std.proofs.Common.{arith, refl}
use Rattle.std.specs.BinaryHeap.{heap_items}
use Rattle.proxy_turns.proofs.Waiting.{first_there, none_earlier}
use Rattle.proxy_turns.proofs.due_commands.DueCommands.next_due.Goals as goal

pub returns-in-Some : goal.returns-in-Some
returns-in-Some c =
    let paused = c.args.self.now.paused in
    let seen = c.in-Some.ensures in (
      first_there (heap_items paused) c.in-Some.field-0.now (omega (arith, seen.variant.0 refl, paused.data.ok.0)) seen.lookup,
      none_earlier (heap_items paused) c.in-Some.field-0.now (seen.greatest c.args.self.now.in_order),
    )
