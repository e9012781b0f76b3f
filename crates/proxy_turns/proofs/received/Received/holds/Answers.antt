use Rattle.proxy_turns.proofs.Counting.{held_where_counted}
use Rattle.proxy_turns.proofs.received.Received.holds.Goals as goal

pub returns-clause-holds : goal.returns-clause-holds
returns-clause-holds c =
    rw (← c.self.view_is) (held_where_counted c.count_to.result c.self.inside.bytes.items c.count_to.new.reader c.count_to.new.count _
    (c.count_to.ensures.counted _ c.self.invariant) c.count_to.ensures.outcome)
