use Rattle.turn_laws.proofs.WrittenRuns.{items-of-run}
use Rattle.turn_laws.proofs.parts.runs_are_written_whole.Goals as goal

pub returns : goal.returns
returns c = items-of-run
