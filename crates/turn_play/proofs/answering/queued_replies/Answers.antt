use Rattle.turn_play.proofs.Answered.{queued-more}
use Rattle.turn_play.proofs.answering.queued_replies.Goals as goal
use Rattle.std.proofs.Common.{◌∙◌}

pub loop-preserved : goal.loop-preserved
loop-preserved c = queued-more c.loop.counter c.reserve.new.self.items c.push_back_reserved.new.self.items c.in_ok-simple_line.field-0 (c.in_ok-reserve.ensures.items ∙ c.loop.invariant) c.push_back_reserved.ensures.items c.in_ok-simple_line.ensures
