use Rattle.std.proofs.Common.{◌∙◌, ap, arith}
use Rattle.std.specs.Prelude.{nat_eq}
use Rattle.std.specs.Cmp.Lexicographic.{pointwise}
use Rattle.turn_play.proofs.Hears.{two-words-are}
use Rattle.turn_play.proofs.hearing.are_words.Goals as goal

pub returns-then-eq : goal.returns-then-eq
returns-then-eq c =
    two-words-are c.args.words.now c.word-item.result c.argument-item.result c.args.first.now c.args.second.now c.eq.result c.eq-then-eq.result (omega (arith, c.in-len2.len_at_least, c.in-len2.len_below)) c.word-item.is c.argument-item.is
    (c.eq.ensures ∙ ap (λ w. pointwise nat_eq w c.args.first.now) c.as_slice.ensures) (c.eq-then-eq.ensures ∙ ap (λ w. pointwise nat_eq w c.args.second.now) c.as_slice-then-eq.ensures) c.if-eq.true
