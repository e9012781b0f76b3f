use Rattle.std.proofs.Common.{◌++◌}
use Rattle.turn_play.proofs.Streamed.{some-written}
use Rattle.turn_play.proofs.stream.PlayStream.write_some.Goals as goal

pub returns : goal.returns
returns c =
    let s = c.self.inside in
    some-written c.args.self.now s.unserved s.spelled s.replies.items s.asking s.broken s.most c.self.view_is (c.args.first.now ++ c.args.second.now) c.piece_of-piece.result.now c.push.new.self c.piece_of-piece.ensures c.in-Ok.ensures.ok
