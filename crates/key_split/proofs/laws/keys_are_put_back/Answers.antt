use Rattle.key_split.proofs.PutBack.{groups-put-back}
use Rattle.key_split.proofs.laws.keys_are_put_back.Goals as goal

pub returns : goal.returns
returns c = groups-put-back
