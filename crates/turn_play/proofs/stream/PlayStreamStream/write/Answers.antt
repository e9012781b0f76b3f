use Rattle.std.proofs.Common.{◌++◌}
use Rattle.turn_play.proofs.Streamed.{writes-offered, writes-outcome}
use Rattle.turn_play.proofs.stream.PlayStreamStream.write.Goals as goal

pub returns-clause-written : goal.returns-clause-written
returns-clause-written c = writes-outcome c.args.self.now c.write_some.new.self (c.args.first.now ++ c.args.second.now) c.write_some.result c.write_some.ensures

pub returns-clause-offered : goal.returns-clause-offered
returns-clause-offered c = writes-offered c.args.self.now c.write_some.new.self (c.args.first.now ++ c.args.second.now) c.write_some.result c.write_some.ensures
