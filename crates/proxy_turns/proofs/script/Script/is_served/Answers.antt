use Rattle.proxy_turns.proofs.Counting.{served_where_held}
use Rattle.proxy_turns.proofs.script.Script.is_served.Goals as goal

pub returns-clause-served : goal.returns-clause-served
returns-clause-served c =
    let owes = rw (← c.in_ok-owed.ensures.kept, ← c.self.view_is) at c.in_ok-owed.ensures.owed in
    rw (← c.in_ok-owed.ensures.kept, ← c.self.view_is) (served_where_held c.holds.result _ _ _ owes c.holds.ensures.holds)
