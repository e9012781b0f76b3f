use Rattle.relayed_keys.specs.Keys.{is_streams}
use Rattle.relayed_keys.proofs.KeyLemmas.{position-within}
use Rattle.relayed_keys.proofs.keys.place_of_streams.Goals as goal

pub returns-clause-within : goal.returns-clause-within
returns-clause-within c = position-within is_streams c.args.words.now c.first_streams.result c.first_streams.ensures
