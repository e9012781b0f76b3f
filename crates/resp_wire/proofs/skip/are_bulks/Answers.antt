use Rattle.std.proofs.Common.{arith, ap, ◌-◌, ◌+◌, ◌≡◌, ℕ}
use Rattle.resp_wire.specs.Reading.{value_at, items_at}
use Rattle.resp_wire.specs.Skipping.{AreBulks}
use Rattle.std.proofs.Common.{subst, sym, false, true}
use Rattle.resp_wire.proofs.SkipLaws.{bulk_first, no_bulk_first, bulks_end}
use Rattle.resp_wire.proofs.skip.are_bulks.Goals as goal

pub returns-in-None : goal.returns-in-None
returns-in-None c = λ room. c.loop.invariant room false (no_bulk_first (value_at c.args.limits.now room) (c.args.len - c.loop.counter) c.loop.rest.now (omega arith) (rw c.in-None.is at c.behind_bulk.ensures room))

pub loop-preserved : goal.loop-preserved
loop-preserved c = λ room test later.
    let less : c.args.len - (c.loop.counter + 1) ≡ c.args.len - c.loop.counter - 1 = omega arith in
    let now : AreBulks (items_at (value_at c.args.limits.now room) (c.args.len - c.loop.counter - 1) c.in-Some.after.now) test
    = subst (λ (m : ℕ). AreBulks (items_at (value_at c.args.limits.now room) m c.in-Some.after.now) test) less later in
    c.loop.invariant room test (bulk_first (value_at c.args.limits.now room) (c.args.len - c.loop.counter) c.loop.rest.now c.in-Some.after test (omega arith) (rw c.in-Some.is at c.behind_bulk.ensures room) now)

pub returns : goal.returns
returns c = λ room. c.loop.invariant room true (bulks_end (value_at c.args.limits.now room) (c.args.len - c.loop.counter) c.loop.rest.now (omega arith))
