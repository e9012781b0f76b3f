use Rattle.node_link.proofs.PlainRequests.{batch_plain}
use Rattle.node_link.proofs.Words.{on_ok}
use Rattle.node_link.proofs.spelling.push_batch.Goals as goal

pub returns-clause-plain : goal.returns-clause-plain
returns-clause-plain c = on_ok c.push_part.result (batch_plain c.args.batch.now) c.push_part.ensures.plain
