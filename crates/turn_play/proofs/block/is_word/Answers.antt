use Rattle.std.proofs.Common.{◌∙◌, ap, arith}
use Rattle.std.specs.Prelude.{nat_eq}
use Rattle.std.specs.Cmp.Lexicographic.{pointwise}
use Rattle.turn_play.proofs.Hears.{one-word}
use Rattle.turn_play.proofs.block.is_word.Goals as goal

pub returns-in-len1 : goal.returns-in-len1
returns-in-len1 c =
    one-word c.args.words.now c.word-item.result c.args.text.now c.eq.result (omega (arith, c.in-len1.len_at_least, c.in-len1.len_below)) c.word-item.is (c.eq.ensures ∙ ap (λ w. pointwise nat_eq w c.args.text.now) c.as_slice.ensures)
