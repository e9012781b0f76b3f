use Rattle.shared_laws.proofs.SharedRuns.{alone_is_shared, headline-follows}
use Rattle.shared_laws.proofs.laws.alone_is_shared.Goals as goal

pub returns-clause-schedule : goal.returns-clause-schedule
returns-clause-schedule c = alone_is_shared

pub returns-clause-headline : goal.returns-clause-headline
returns-clause-headline c = headline-follows
