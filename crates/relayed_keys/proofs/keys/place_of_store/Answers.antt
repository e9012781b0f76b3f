use Rattle.relayed_keys.specs.Keys.{is_store}
use Rattle.relayed_keys.proofs.KeyLemmas.{position-within}
use Rattle.relayed_keys.proofs.keys.place_of_store.Goals as goal

pub returns-clause-within : goal.returns-clause-within
returns-clause-within c = position-within is_store c.args.words.now c.first_store.result c.first_store.ensures
