use Rattle.std.proofs.Common.{FitsSigned, subst, w64}
use Rattle.turn_play.proofs.Overlong.{both-true}
use Rattle.turn_play.proofs.ReadBack.{number-spelled}
use Rattle.turn_play.proofs.readable.is_number.Goals as goal

pub returns : goal.returns
returns c = λ room. both-true (number-spelled _ (subst (FitsSigned w64) c.number_at.ensures.value c.number_at.ensures.range) room)
