use Rattle.std.proofs.Common.{subst, sym}
use Rattle.turn_play.specs.Hearing.{BeginsRequest}
use Rattle.turn_play.proofs.Heard.{no-item-first}
use Rattle.turn_play.proofs.hearing.hear.Goals as goal

pub hear_words-requires : goal.hear_words-requires
hear_words-requires c = subst (λ ws. BeginsRequest c.args.bytes.now ws c.in-Words.count) (sym c.as_slice.ensures) (rw c.in-Words.is at c.in_ok-words.ensures)

pub returns-in-Short : goal.returns-in-Short
returns-in-Short c = no-item-first c.args.bytes.now (rw c.in-Short.is at c.in_ok-words.ensures)

pub returns-in-Other : goal.returns-in-Other
returns-in-Other c = no-item-first c.args.bytes.now (rw c.in-Other.is at c.in_ok-words.ensures)
