use Rattle.std.proofs.Common.{◌-◌, arith}
use Rattle.proxy_turns.proofs.Sleeping.{marked_by, marked_in}
use Rattle.proxy_turns.proofs.sleepers.Sleepers.first_awake.Goals as goal

pub returns-in-Some-memchr-clause-asleep : goal.returns-in-Some-memchr-clause-asleep
returns-in-Some-memchr-clause-asleep c = λ place behind before.
    let part = c.in-Some.ensures.lookup.0 in
    let first = c.in-Some-memchr.ensures.0 in
    marked_in c.args.from _ _ _ _ place c.deref.ensures.value part.2 behind
    (marked_by c.in-Some.marks.now (place - c.args.from) (omega (arith, behind, before, first.high)) (first.before (place - c.args.from) (omega arith) (omega (arith, behind, before))))

pub returns-in-None-clause-asleep : goal.returns-in-None-clause-asleep
returns-in-None-clause-asleep c = λ place behind before.
    let part = c.in-Some.ensures.lookup.0 in
    marked_in c.args.from _ _ _ _ place c.deref.ensures.value part.2 behind
    (marked_by c.in-Some.marks.now (place - c.args.from) (omega (arith, behind, before)) (c.in-None.ensures (place - c.args.from) (omega arith) (omega (arith, behind, before))))
