use Rattle.command_future.proofs.LawLemmas.{one_want, some_want}
use Rattle.command_future.proofs.laws.wants_one_thing.Goals as goal

pub returns-clause-some : goal.returns-clause-some
returns-clause-some c = some_want

pub returns-clause-one : goal.returns-clause-one
returns-clause-one c = one_want
