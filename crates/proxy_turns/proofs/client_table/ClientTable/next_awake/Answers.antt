use Rattle.proxy_turns.proofs.Sleeping.{asleep_until}
use Rattle.proxy_turns.proofs.client_table.ClientTable.next_awake.Goals as goal

pub returns-clause-asleep : goal.returns-clause-asleep
returns-clause-asleep g c =
    rw (← c.self.view_is)
    (asleep_until g.C.ClientPort.gives_none c.self.inside.sleepers.marks.items c.self.inside.by_number.entries c.args.from c.args.end c.next_awake.result c.self.invariant c.next_awake.ensures)
