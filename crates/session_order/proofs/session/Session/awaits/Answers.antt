use Rattle.std.proofs.Common.{rules, ◌≡◌}
use Rattle.session_order.proofs.session.Session.awaits.Goals as goal

pub returns-then-ticket-self-2 : goal.returns-then-ticket-self-2
returns-then-ticket-self-2 c =
    let worker : c.args.ticket.worker ≡ c.self.inside.worker = search rules in
    let client : c.args.ticket.client ≡ c.self.inside.client = search rules in
    rw (← c.self.view_is) (
      λ yes. (let out = c.is_out.ensures.0 yes in (out.0, out.1, out.2, worker, client)),
      λ out. c.is_out.ensures.1 (out.0, out.1, out.2),
    )
