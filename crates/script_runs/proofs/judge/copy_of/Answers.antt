use Rattle.std.proofs.Common.{arith}
use Rattle.script_runs.proofs.Reporting.{next-item}
use Rattle.script_runs.proofs.judge.copy_of.Goals as goal

pub push_reserved-requires : goal.push_reserved-requires
push_reserved-requires c = omega (arith, c.loop-entry.invariant.many, c.loop-entry.invariant.room, c.loop-entry-test.true)

pub loop-entry-preserved : goal.loop-entry-preserved
loop-entry-preserved c =
    let i = c.loop-entry.invariant in
    record {
      made = rw (c.push_reserved.ensures.items, c.in_ok-copy_entry.ensures, i.made) (next-item c.args.history.now c.loop-entry.entry-index c.entry-item.result c.entry-item.is c.loop-entry-test.true);
      many = omega (arith, i.many, c.push_reserved.ensures.len);
      room = omega (arith, i.room, c.push_reserved.ensures.capacity);
    }
