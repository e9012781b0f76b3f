use Rattle.node_link.proofs.Words.{part_pieces, on_ok}
use Rattle.node_link.proofs.spelling.push_part.Goals as goal

pub returns-clause-ok : goal.returns-clause-ok
returns-clause-ok c =
    let head = c.in_ok-push_head.ensures.ok in
    let name = rw (c.text.ensures, c.op_name.ensures, c.op-op.ensures) at c.in_ok-push_bulk.ensures.ok in
    let key = rw c.key.ensures at c.in_ok-push_word_bulk.ensures.ok in
    let behind = rw (c.arg.ensures, c.op-op.ensures) at c.in_ok-push_behind.ensures.ok in
    on_ok c.push_pairs.result
    (λ last. part_pieces c.args.part.now c.word_count.result _ _ _ _ _ _ c.word_count.ensures head name key behind (rw (c.rest.ensures.value, c.op-op.ensures) at last))
    c.push_pairs.ensures.ok

pub returns-clause-plain : goal.returns-clause-plain
returns-clause-plain c = on_ok c.push_pairs.result (λ last. c.rest.ensures.plain) c.push_pairs.ensures.ok
