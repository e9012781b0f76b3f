use Rattle.std.proofs.Common.{◌≡◌, ◌≤◌, ◌++◌, ◌∷◌, [], length, rules}
use Rattle.std.specs.Prelude.{None}
use Rattle.node_link.specs.Bytes.{least_offer}
use Rattle.node_link.specs.declared.piece.Piece.{Piece}
use Rattle.node_link.proofs.Piecing.{sealed, settled}
use Rattle.node_link.proofs.pieces.Pieces.seal.Goals as goal

pub returns-clause-held : goal.returns-clause-held
returns-clause-held c =
    let old = c.args.self.now in
    let large : least_offer ≤ length old.last.items = search rules in
    let full : c.push_back_reserved.new.self.items ≡ old.full.items ++ record { spelled = old.last; word = None } ∷ [] = search rules in
    (sealed old c.push_back_reserved.new.self c.replace-spelled.new.dest (settled old c.requires.sound c.requires.no_draft) large full (search rules)).0

pub returns-clause-sound : goal.returns-clause-sound
returns-clause-sound c =
    let old = c.args.self.now in
    let large : least_offer ≤ length old.last.items = search rules in
    let full : c.push_back_reserved.new.self.items ≡ old.full.items ++ record { spelled = old.last; word = None } ∷ [] = search rules in
    (sealed old c.push_back_reserved.new.self c.replace-spelled.new.dest (settled old c.requires.sound c.requires.no_draft) large full (search rules)).1
