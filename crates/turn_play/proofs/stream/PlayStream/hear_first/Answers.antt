use Rattle.std.proofs.Common.{◌∙◌, ap, subst}
use Rattle.turn_play.specs.Hearing.{Hears}
use Rattle.turn_play.specs.Stream.{StreamModel}
use Rattle.turn_play.proofs.stream.PlayStream.hear_first.Goals as goal

pub returns : goal.returns
returns c = subst (λ bytes. Hears bytes c.hear.result) (c.as_slice.ensures ∙ ap (λ (s : StreamModel). s.unserved) c.self.view_is) c.hear.ensures
