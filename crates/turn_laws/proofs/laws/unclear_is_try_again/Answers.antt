use Rattle.turn_laws.proofs.Heard.{heard-alike, unclear-refuses}
use Rattle.turn_laws.proofs.laws.unclear_is_try_again.Goals as goal

pub returns-clause-alike : goal.returns-clause-alike
returns-clause-alike c = heard-alike

pub returns-clause-refusal : goal.returns-clause-refusal
returns-clause-refusal c = unclear-refuses
