use Rattle.std.proofs.Common.{◌∙◌, sym}
use Rattle.proxy_lanes.specs.Carrier.{lanes_of}
use Rattle.proxy_turns.proofs.Refusing.{waits_first}
use Rattle.proxy_turns.proofs.pending_run.PendingRun.tell_unsent.Goals as goal

pub returns-in-Err-clause-tells : goal.returns-in-Err-clause-tells
returns-in-Err-clause-tells g c =
    waits_first c.args.self.now (lanes_of c.args.ends.now) (lanes_of c.deliver.new.ends) c.in-Some.ticket (sym c.next.ensures ∙ c.in-Some.is) c.in-Err.ensures.lanes.1
