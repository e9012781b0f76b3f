use Rattle.std.proofs.Common.{ℕ, ◌-◌, Bool}
use Rattle.resp_wire.specs.Reading.{value_at, items_at}
use Rattle.resp_wire.specs.Skipping.{AreBulks}
use Rattle.resp_wire.proofs.skip.are_bulks.Given as goal

abbrev pub invariant-loop : goal.invariant-loop
invariant-loop l = (room : ℕ) (test : Bool) → AreBulks (items_at (value_at l.limits room) (l.len - l.counter) l.rest) test → AreBulks (items_at (value_at l.limits room) l.len l.bytes) test
