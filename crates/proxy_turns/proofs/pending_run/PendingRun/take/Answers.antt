use Rattle.proxy_turns.proofs.Refusing.{nothing_pending}
use Rattle.proxy_turns.proofs.pending_run.PendingRun.take.Goals as goal

pub refill-requires-clause-empty : goal.refill-requires-clause-empty
refill-requires-clause-empty g c = nothing_pending _ _ c.is_some.ensures c.if-is_some.false c.if-is_refused.ensures.1
