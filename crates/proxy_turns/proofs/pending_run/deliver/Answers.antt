use Rattle.proxy_turns.proofs.Delivery.{delivered}
use Rattle.proxy_turns.proofs.pending_run.deliver.Goals as goal

pub returns-clause-lanes : goal.returns-clause-lanes
returns-clause-lanes g c = delivered _ _ (c.args.ticket, c.args.told) c.give.result c.give.ensures.lane
