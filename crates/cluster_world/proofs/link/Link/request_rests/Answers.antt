use Rattle.std.proofs.Common.{◌≡◌, ◌↔◌, ◌==◌, ◌&&◌, List, Bool, IsTrue, true, refl, sym, ap, ◌∙◌, subst}
use Rattle.key_split.specs.declared.travel.Ticket.{Ticket}
use Rattle.world_laws.specs.declared.state.LinkRequest.{LinkRequest}
use Rattle.cluster_world.specs.Kept.{LinkModel}
use Rattle.cluster_world.specs.Rests.{RequestRests, TicketsRest}
use Rattle.cluster_world.proofs.link.Link.request_rests.Goals as goal

pub returns-in-Asking : goal.returns-in-Asking
unfolding RequestRests
returns-in-Asking c = subst (λ (r : LinkRequest). IsTrue true ↔ RequestRests c.args.self.now c.args.asking r c.args.sought.now) (sym c.in-Asking.is) (λ t. refl, λ e. refl)

pub returns-in-Runs : goal.returns-in-Runs
unfolding RequestRests TicketsRest
returns-in-Runs c =
    let goes : c.goes_asking-goes.result ≡ (c.args.asking && ((c.args.self.now).node == c.args.sought.now.node)) = c.goes_asking-goes.ensures ∙ ap (λ (l : LinkModel). c.args.asking && (l.node == c.args.sought.now.node)) c.self.view_is in
    subst (λ (r : LinkRequest). IsTrue c.tickets_rest.result ↔ RequestRests c.args.self.now c.args.asking r c.args.sought.now) (sym c.in-Runs.is)
    (subst (λ (p : List Ticket × Bool). IsTrue c.tickets_rest.result ↔ TicketsRest p.0 p.1 c.args.sought.now.ticket) (λ i. (c.as_slice.ensures i, goes i)) c.tickets_rest.ensures)
