use Rattle.std.proofs.Common.{◌∙◌, ap, arith}
use Rattle.resp_wire.specs.Text.{is_one_line}
use Rattle.key_split.proofs.OneLine.{is_one_line-redirect}
use Rattle.key_split.proofs.tellings.redirect.Goals as goal

pub into_error-requires : goal.into_error-requires
into_error-requires c =
    ap is_one_line (c.in_ok-text.ensures)
    ∙ is_one_line-redirect c.args.word.now _ _ c.requires.one_line (omega arith) c.at-port.ensures.one_line (omega arith)
