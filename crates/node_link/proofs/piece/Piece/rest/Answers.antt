use Rattle.std.proofs.Common.{◌≡◌, ◌++◌, ap, ◌∙◌, List, ℕ, drop}
use Rattle.node_link.proofs.Piecing.{left_in_two}
use Rattle.node_link.proofs.piece.Piece.rest.Goals as goal

pub returns : goal.returns
returns c =
    rw (← c.word-word.ensures, ← c.as_slice-spelled.ensures.value)
    (left_in_two c.as_slice-spelled.result.now c.word-word.result.now c.args.written c.min-skipped.result c.min-skipped.ensures)
