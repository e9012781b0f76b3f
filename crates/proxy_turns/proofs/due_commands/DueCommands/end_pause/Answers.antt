use Rattle.proxy_turns.proofs.Waiting.{one_fewer, taken_began}
use Rattle.proxy_turns.proofs.due_commands.DueCommands.end_pause.Goals as goal

pub returns-clause-none : goal.returns-clause-none
returns-clause-none c = taken_began _ _ c.in-Some.ensures.takes.3.0 c.in-Some.ensures.takes.3.1

pub returns-clause-ended : goal.returns-clause-ended
returns-clause-ended c = one_fewer _ _ c.in-Some.ensures.takes.3.0 c.in-Some.ensures.takes.3.1
