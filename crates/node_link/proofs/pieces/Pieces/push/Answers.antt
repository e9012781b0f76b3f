use Rattle.node_link.proofs.Piecing.{held_more}
use Rattle.node_link.proofs.pieces.Pieces.push.Goals as goal

pub returns-in-Ok-clause-ok : goal.returns-in-Ok-clause-ok
returns-in-Ok-clause-ok c = (held_more c.args.self.now c.extend_from_slice.new.self c.args.bytes.now c.requires (c.in-Ok.ensures.items)).0

pub returns-in-Ok-clause-sound : goal.returns-in-Ok-clause-sound
returns-in-Ok-clause-sound c = (held_more c.args.self.now c.extend_from_slice.new.self c.args.bytes.now c.requires (c.in-Ok.ensures.items)).1
