use Rattle.std.proofs.Common.{◌≡◌, ◌∙◌, ap, List, ℕ, take}
use Rattle.node_link.specs.Pieces.{drafted_in, spelled_first}
use Rattle.node_link.proofs.Piecing.{discard_held, discard_settled, is_sound}
use Rattle.node_link.proofs.pieces.Pieces.discard.Goals as goal

pub returns-clause-held : goal.returns-clause-held
returns-clause-held c =
    let old = c.args.self.now in
    discard_held old c.take_back.new.full c.truncate.new.self c.requires c.take_back.ensures.full (c.truncate.ensures.items ∙ ap (λ (bytes : List ℕ). take old.finished bytes) c.take_back.ensures.last)

pub returns-clause-sound : goal.returns-clause-sound
returns-clause-sound c =
    let old = c.args.self.now in
    is_sound _ (discard_settled old c.take_back.new.full c.truncate.new.self c.requires c.take_back.ensures.full (c.truncate.ensures.items ∙ ap (λ (bytes : List ℕ). take old.finished bytes) c.take_back.ensures.last))
