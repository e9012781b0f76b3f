use Rattle.std.proofs.Common.{◌≡◌, ◌∙◌, ◌++◌, ◌∷◌, [], ap, List, rules}
use Rattle.std.specs.Prelude.{Some}
use Rattle.node_link.specs.declared.piece.Piece.{Piece}
use Rattle.node_link.proofs.Piecing.{held_behind}
use Rattle.node_link.proofs.pieces.Pieces.push_large.Goals as goal

pub returns-clause-ok : goal.returns-clause-ok
returns-clause-ok c =
    let old = c.args.self.now in
    let full : c.push_back_reserved.new.self.items ≡ old.full.items ++ record { spelled = old.last; word = Some c.args.word.now } ∷ [] = search rules in
    (held_behind old c.push_back_reserved.new.self c.replace-spelled.new.dest c.args.word.now c.requires.sound c.requires.large full (search rules)).0

pub returns-clause-sound : goal.returns-clause-sound
returns-clause-sound c =
    let old = c.args.self.now in
    let full : c.push_back_reserved.new.self.items ≡ old.full.items ++ record { spelled = old.last; word = Some c.args.word.now } ∷ [] = search rules in
    (held_behind old c.push_back_reserved.new.self c.replace-spelled.new.dest c.args.word.now c.requires.sound c.requires.large full (search rules)).1
