use Rattle.std.proofs.Common.{◌≡◌, length, rules}
use Rattle.node_link.proofs.Piecing.{finish_held, finish_settled, is_sound}
use Rattle.node_link.proofs.pieces.Pieces.finish.Goals as goal

pub returns-clause-held : goal.returns-clause-held
returns-clause-held c =
    let len : c.len-self.result ≡ length c.args.self.now.last.items = search rules in
    finish_held c.args.self.now c.len-self.result c.requires len

pub returns-clause-sound : goal.returns-clause-sound
returns-clause-sound c =
    let len : c.len-self.result ≡ length c.args.self.now.last.items = search rules in
    is_sound _ (finish_settled c.args.self.now c.len-self.result c.requires len)
