use Rattle.std.proofs.Common.{arith}
use Rattle.turn_play.proofs.Streamed.{piece-first}
use Rattle.turn_play.proofs.stream.piece_of.Goals as goal

pub returns : goal.returns
returns c = piece-first c.args.first.now c.args.second.now c.front_of-2.result.now (grind (arith, c.if-is_empty.false)) c.front_of-2.ensures
