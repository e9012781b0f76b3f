use Rattle.world_laws.specs.Headline.{AnyTicket}
use Rattle.shared_laws.specs.Shared.{IsOwn}
use Rattle.turn_laws.proofs.LogHeadline.{log-headline}
use Rattle.turn_laws.proofs.parts.logs_tell_headlines.Goals as goal

pub returns-clause-alone : goal.returns-clause-alone
returns-clause-alone c = log-headline AnyTicket

pub returns-clause-shared : goal.returns-clause-shared
returns-clause-shared c = λ log w. log-headline (IsOwn w.workers) log w
