use Rattle.proxy_turns.proofs.Tables.{first_there}
use Rattle.proxy_turns.proofs.client_table.first_number.Goals as goal

pub returns : goal.returns
returns g c = rw c.copied.ensures (first_there c.args.clients.now.entries c.keys.result c.next.new.self c.next.result c.keys.ensures.rest c.next.ensures.steps)
