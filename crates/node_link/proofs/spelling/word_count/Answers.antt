use Rattle.node_link.proofs.Words.{length-words_of}
use Rattle.node_link.proofs.spelling.word_count.Goals as goal

pub returns : goal.returns
returns c =
    rw c.rest.ensures.value (length-words_of c.args.part.now c.count_behind.result (λ v. rw c.op.ensures at (c.count_behind.ensures.exact v)))
