use Rattle.key_split.proofs.RoundTrip.{planned-back}
use Rattle.key_split.proofs.laws.node_words_are_planned_back.Goals as goal

pub returns : goal.returns
returns c = planned-back
