use Rattle.node_link.proofs.PlainRequests.{batches_plain}
use Rattle.node_link.proofs.Words.{block_pieces, on_ok}
use Rattle.node_link.proofs.spelling.push_block.Goals as goal

pub returns-clause-ok : goal.returns-clause-ok
returns-clause-ok c =
    let first = rw c.first.ensures at c.in_ok-push_batch.ensures.ok in
    let later = rw c.later.ensures.value at c.in_ok-push_batches.ensures.ok in
    on_ok c.push_word-2.result (λ last. block_pieces c.args.run.now _ _ _ _ _ c.in_ok-push_word.ensures.ok first later last) c.push_word-2.ensures.ok

pub returns-clause-plain : goal.returns-clause-plain
returns-clause-plain c =
    let first = rw c.first.ensures at c.in_ok-push_batch.ensures.plain in
    let later = rw c.later.ensures.value at c.in_ok-push_batches.ensures.plain in
    on_ok c.push_word-2.result (λ last. batches_plain c.args.run.now.first c.args.run.now.later first later) c.push_word-2.ensures.ok
