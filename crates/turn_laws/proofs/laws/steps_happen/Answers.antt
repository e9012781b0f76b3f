use Rattle.turn_laws.proofs.FullLane.{given-back}
use Rattle.turn_laws.proofs.LossParting as loss
use Rattle.turn_laws.proofs.ScriptGetting as move
use Rattle.turn_laws.proofs.ScriptLeading as leading
use Rattle.turn_laws.proofs.ScriptPair as pair
use Rattle.turn_laws.proofs.ScriptSharing as sharing
use Rattle.turn_laws.proofs.ScriptUnclear as unclear
use Rattle.turn_laws.proofs.laws.steps_happen.Goals as goal

pub returns-clause-moves : goal.returns-clause-moves
returns-clause-moves g c = λ port. move.happens port c.front_is_whole.ensures

pub returns-clause-loses : goal.returns-clause-loses
returns-clause-loses g c = λ port. loss.happens port c.front_is_whole.ensures

pub returns-clause-gives_back : goal.returns-clause-gives_back
returns-clause-gives_back g c = λ port. given-back port

pub returns-clause-pairs : goal.returns-clause-pairs
returns-clause-pairs g c = λ port. pair.happens port c.front_is_whole.ensures

pub returns-clause-misreads : goal.returns-clause-misreads
returns-clause-misreads g c = λ port. unclear.happens port c.front_is_whole.ensures

pub returns-clause-shares : goal.returns-clause-shares
returns-clause-shares g c = λ port. sharing.happens port c.front_is_whole.ensures

pub returns-clause-leads : goal.returns-clause-leads
returns-clause-leads g c = λ port. leading.happens port c.front_is_whole.ensures
