use Rattle.std.proofs.Common.{None, Some}
use Rattle.relayed_keys.specs.Keys.{is_streams}
use Rattle.relayed_keys.proofs.KeyLemmas.{place_found}
use Rattle.relayed_keys.proofs.keys.behind_streams.Goals as goal

pub returns-in-None : goal.returns-in-None
returns-in-None c = place_found is_streams c.args.from c.args.words.now c.front_from.result.now None c.front_from.ensures.value c.in-None.ensures.value

pub returns-in-Some : goal.returns-in-Some
returns-in-Some c =
    place_found is_streams c.args.from c.args.words.now c.front_from.result.now (Some c.in-Some.place) c.front_from.ensures.value c.in-Some.ensures.value
