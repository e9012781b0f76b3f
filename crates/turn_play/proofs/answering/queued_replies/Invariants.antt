use Rattle.std.proofs.Common.{◌≡◌, ◌∷◌}
use Rattle.std.specs.Prelude.{replicate}
use Rattle.turn_play.specs.Serving.{okay}
use Rattle.turn_play.specs.Stream.{queued}
use Rattle.turn_play.proofs.answering.queued_replies.Given as goal

abbrev pub invariant-loop : goal.invariant-loop
invariant-loop l = l.replies.items ≡ okay ∷ replicate l.counter queued
