use Rattle.turn_play.specs.Play.{play_model}
use Rattle.turn_play.proofs.Starting.{started}
use Rattle.turn_play.proofs.play.Play.new.Goals as goal

pub returns-clause-starts : goal.returns-clause-starts
returns-clause-starts g c = λ initial cluster begins.
    let a = c.args in
    started initial c.begin.result (λ play. play_model play cluster) a.clients a.seeds cluster a.nodes
    (λ play new. c.plays_start.ensures initial a.clients a.seeds cluster a.nodes play begins new)
    (c.begin.ensures cluster)
