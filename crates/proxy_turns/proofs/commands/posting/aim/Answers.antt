use Rattle.proxy_turns.proofs.ClientResting.{not_awaiting, not_finished}
use Rattle.proxy_turns.proofs.commands.posting.aim.Goals as goal

pub returns-in-Await-clause-none : goal.returns-in-Await-clause-none
returns-in-Await-clause-none g c = not_awaiting _ c.in-Await.ensures.progress

pub returns-in-Finished-clause-none : goal.returns-in-Finished-clause-none
returns-in-Finished-clause-none g c = not_finished _ c.in-Finished.ensures.progress
