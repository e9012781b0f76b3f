use Rattle.std.proofs.Common.{◌<◌, arith, length}
use Rattle.turn_play.proofs.Streamed.{none-read, same-stream, some-read}
use Rattle.turn_play.proofs.stream.PlayStream.read_some.Goals as goal

pub returns-in_default : goal.returns-in_default
returns-in_default c =
    let s = c.self.inside in
    same-stream c.args.self.now s.unserved s.spelled s.replies.items s.asking s.broken s.most c.self.view_is c.spell_first.new.spelled c.spell_first.new.replies.items c.spell_first.ensures.same

pub returns-then-count-eq0 : goal.returns-then-count-eq0
returns-then-count-eq0 c =
    let s = c.self.inside in
    let some : 0 < length c.give-count.new.buffer = grind (arith, c.give-count.auto.buffer, c.if-is_empty.false) in
    none-read c.args.self.now s.unserved s.spelled s.replies.items s.asking s.broken s.most c.self.view_is c.spell_first.new.spelled c.spell_first.new.replies.items c.spell_first.ensures.same c.give-count.new.buffer c.give-count.result
    c.give-count.new.spelled c.give-count.ensures c.if-count-eq0.true some c.in-Ok.ensures.some

pub returns : goal.returns
returns c =
    let s = c.self.inside in
    some-read c.args.self.now s.unserved s.spelled s.replies.items s.asking s.broken s.most c.self.view_is c.spell_first.new.spelled c.spell_first.new.replies.items c.spell_first.ensures.same c.give-count.new.buffer c.give-count.result
    c.give-count.new.spelled c.give-count.ensures (omega (arith, c.if-count-eq0.false))
