use Rattle.std.proofs.Common.{refl}
use Rattle.proxy_turns.proofs.Noting.{of_ok, paused_kept, paused_noted}
use Rattle.proxy_turns.proofs.due_commands.DueCommands.pause_until.Goals as goal

pub invariant_of-self : goal.invariant_of-self
invariant_of-self c = record { in_order = of_ok c.push.result (c.push.ensures.succeeds c.requires.2) c.push.ensures.heap_order c.args.self.now.in_order }

pub returns-clause-kept : goal.returns-clause-kept
returns-clause-kept c =
    let old = c.args.self.now in
    paused_kept old (record old { paused = c.push.new.self; in_order = of_ok c.push.result (c.push.ensures.succeeds c.requires.2) c.push.ensures.heap_order old.in_order }) c.args.ticket _ refl refl
    (of_ok c.push.result (c.push.ensures.succeeds c.requires.2) c.push.ensures.permutation)

pub returns-clause-noted : goal.returns-clause-noted
returns-clause-noted c =
    let old = c.args.self.now in
    paused_noted old (record old { paused = c.push.new.self; in_order = of_ok c.push.result (c.push.ensures.succeeds c.requires.2) c.push.ensures.heap_order old.in_order }) c.args.ticket _ refl refl
    (of_ok c.push.result (c.push.ensures.succeeds c.requires.2) c.push.ensures.permutation)

pub returns-clause-until : goal.returns-clause-until
returns-clause-until c = (refl, (_, refl, of_ok c.push.result (c.push.ensures.succeeds c.requires.2) c.push.ensures.permutation))
