use Rattle.shared_laws.proofs.SharedRuns.{every_shared_schedule}
use Rattle.shared_laws.proofs.laws.every_shared_schedule.Goals as goal

pub returns : goal.returns
returns c = every_shared_schedule
