use Rattle.std.proofs.Common.{◌≡◌, ◌∙◌, false, refl, sym, true}
use Rattle.turn_play.proofs.block.command_of.Goals as goal

pub returns-then-is_word : goal.returns-then-is_word
returns-then-is_word c = (c.is_word.ensures.0 c.if-is_word.true, refl)

pub returns-in-Some : goal.returns-in-Some
returns-in-Some c = let found = rw c.in-Some.is at c.in_ok-part.ensures in (found.0, found.1, refl)

pub returns-in-None : goal.returns-in-None
returns-in-None c = (rw c.in-None.is at c.in_ok-part.ensures, λ same. absurd (let both : false ≡ true = sym c.if-is_word.false ∙ c.is_word.ensures.1 same in cc))
