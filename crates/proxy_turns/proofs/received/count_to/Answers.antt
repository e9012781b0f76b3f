use Rattle.std.proofs.Common.{◌≡◌, true, rules}
use Rattle.proxy_turns.proofs.Counting.{took_counted}
use Rattle.proxy_turns.proofs.received.count_to.Goals as goal

pub loop-count-preserved : goal.loop-count-preserved
loop-count-preserved c =
    let taken : c.in_ok-take.field-0 ≡ true = search (rules, c.if-not-branch.false) in
    λ bytes is. took_counted bytes c.loop-count.reader c.take.new.reader c.loop-count.count (c.loop-count.invariant bytes is) (rw taken at c.in_ok-take.ensures)
