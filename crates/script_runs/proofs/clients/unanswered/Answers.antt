use Rattle.std.proofs.Common.{[], arith}
use Rattle.std.proofs.lemmas.List.{replicate_more}
use Rattle.script_runs.proofs.clients.unanswered.Goals as goal

pub push_reserved-requires : goal.push_reserved-requires
push_reserved-requires c = omega (arith, c.loop.invariant.many, c.loop.invariant.room, c.loop-test.true)

pub loop-preserved : goal.loop-preserved
loop-preserved c =
    let i = c.loop.invariant in
    record {
      made = rw (c.push_reserved.ensures.items, c.new-in-loop.ensures, c.new.ensures.items, i.made) (replicate_more c.loop.counter []);
      many = omega (arith, i.many, c.push_reserved.ensures.len);
      room = omega (arith, i.room, c.push_reserved.ensures.capacity);
    }
