use Rattle.cluster_world.proofs.TicketWords.{no_tickets}
use Rattle.cluster_world.proofs.fields.tickets_in.Goals as goal

pub returns-in_default : goal.returns-in_default
returns-in_default c = no_tickets c.args.workers c.args.word.now c.in_default.ensures
