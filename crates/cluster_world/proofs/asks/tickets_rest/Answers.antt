use Rattle.std.proofs.Common.{rules}
use Rattle.cluster_world.proofs.Asked.{none-rest, off-rest, one-rests}
use Rattle.cluster_world.proofs.asks.tickets_rest.Goals as goal

pub returns-then-not-goes : goal.returns-then-not-goes
returns-then-not-goes c = off-rest c.args.tickets.now c.args.goes c.args.sought.now.ticket (search rules)

pub returns-in-Some : goal.returns-in-Some
returns-in-Some c = one-rests c.args.tickets.now c.args.goes c.args.sought.now.ticket c.in-Some.named c.is_among.result (search rules) (search rules) c.is_among.ensures

pub returns-in-None : goal.returns-in-None
returns-in-None c = none-rest c.args.tickets.now c.args.goes c.args.sought.now.ticket c.is_empty.result (search rules) (search rules) c.is_empty.ensures
