use Rattle.std.proofs.Common.{◌↔◌, List, Bool, IsTrue, subst}
use Rattle.key_split.specs.declared.travel.Ticket.{Ticket}
use Rattle.cluster_world.specs.Rests.{RunRests, TicketsRest}
use Rattle.cluster_world.proofs.asks.run_rests.Goals as goal

pub returns : goal.returns
unfolding RunRests TicketsRest
returns c =
    subst (λ (p : List Ticket × Bool). IsTrue c.tickets_rest.result ↔ TicketsRest p.0 p.1 c.args.sought.now.ticket) (λ i. (c.as_slice.ensures i, c.goes_asking-goes.ensures i)) c.tickets_rest.ensures
