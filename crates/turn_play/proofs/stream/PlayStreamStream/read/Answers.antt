use Rattle.std.specs.Prelude.{length}
use Rattle.turn_play.proofs.Streamed.{reads-asked, reads-outcome}
use Rattle.turn_play.proofs.stream.PlayStreamStream.read.Goals as goal

pub returns-clause-read : goal.returns-clause-read
returns-clause-read c = reads-outcome c.args.self.now c.read_some.new.self c.read_some.new.buffer c.read_some.result c.read_some.ensures

pub returns-clause-asked : goal.returns-clause-asked
returns-clause-asked c = reads-asked c.args.self.now c.read_some.new.self c.read_some.new.buffer (length c.args.buffer.now) c.read_some.result c.read_some.ensures
