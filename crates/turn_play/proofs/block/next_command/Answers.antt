use Rattle.std.proofs.Common.{subst}
use Rattle.turn_play.specs.Hearing.{TellsNext}
use Rattle.turn_play.proofs.Heard.{no-first}
use Rattle.turn_play.proofs.Hears.{heard-next}
use Rattle.turn_play.proofs.block.next_command.Goals as goal

pub returns-in-Words : goal.returns-in-Words
returns-in-Words c =
    heard-next c.args.bytes.now c.in-Words.words c.in-Words.count c.command_of.result (rw c.in-Words.is at c.in_ok-words.ensures) (subst (λ ws. TellsNext ws c.in-Words.count c.command_of.result) c.as_slice.ensures c.command_of.ensures)

pub returns-in-Short : goal.returns-in-Short
returns-in-Short c = no-first c.args.bytes.now (rw c.in-Short.is at c.in_ok-words.ensures)

pub returns-in-Other : goal.returns-in-Other
returns-in-Other c = no-first c.args.bytes.now (rw c.in-Other.is at c.in_ok-words.ensures)
