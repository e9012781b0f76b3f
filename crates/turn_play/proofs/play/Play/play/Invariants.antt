use Rattle.std.proofs.Common.{length}
use Rattle.turn_play.specs.Play.{play_model}
use Rattle.turn_play.proofs.Obeyed.{GoesOn}
use Rattle.turn_play.proofs.play.Play.play.Given as goal

abbrev pub invariant-loop-rest : goal.invariant-loop-rest
invariant-loop-rest g l = GoesOn g.C.ClientPort.moves g.C.ClientPort.gives_none g.C.ClientPort.takes_none (play_model l.initial.self l.initial.cluster) l.orders (play_model l.self l.cluster) l.rest

abbrev pub decreases-loop-rest : goal.decreases-loop-rest
decreases-loop-rest g l = length l.rest
