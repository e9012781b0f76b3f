use Rattle.std.proofs.Common.{refl}
use Rattle.turn_play.specs.Play.{play_model}
use Rattle.turn_play.proofs.play.Play.hand.Goals as goal

pub returns-clause-hands : goal.returns-clause-hands
returns-clause-hands g c = λ cluster. (c.hand.ensures.hands, refl)

pub returns-clause-plays_on : goal.returns-clause-plays_on
returns-clause-plays_on g c = λ cluster.
    c.handed_is_sound.ensures (play_model c.args.self.now cluster) _ c.args.client c.hand.result (c.hand.ensures.hands, refl)
