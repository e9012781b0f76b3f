use Rattle.std.proofs.Common.{ap}
use Rattle.node_link.specs.Bytes.{OutboxModel}
use Rattle.node_link.proofs.Words.{on_ok, short_head}
use Rattle.node_link.proofs.spelling.push_head.Goals as goal

pub returns-then-number-lt10-clause-ok : goal.returns-then-number-lt10-clause-ok
returns-then-number-lt10-clause-ok c =
    rw (short_head c.args.kind c.args.number c.if-number-lt10.true)
    (on_ok c.push.result (λ pushed. ap (λ (o : OutboxModel). o.draft) pushed) c.push.ensures.ok)
